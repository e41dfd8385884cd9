-- A segment of a master's log, in the master's own view.
use Rattle.std.specs.Prelude.{ℕ, Bool, false, not, List, [], ◌∷◌, ◌++◌, length, map, min, ◌&&◌}
use Rattle.std.specs.List.{list_any}
use Rattle.rc_types.specs.declared.entries.Entry.{Entry}
use Rattle.rc_types.specs.declared.ids.ServerId.{ServerId}
use Rattle.rc_types.specs.declared.kept.Member.{Member}
use Rattle.rc_model.specs.Ids.{has_id}
use Rattle.rc_model.specs.Config.{Config, new_config, all_placed, all_closed, durable_len}

pub record Segment : Type 0 where
  -- the segments that make up the log when this one is opened
  pub digest : List ℕ
  -- the entries, each with a mark whether a client wrote it
  pub entries : List (Entry × Bool)
  pub config : Config
  -- whether Commit was sent under the current epoch
  pub commit_sent : Bool
  -- the members to which Close was sent under the current epoch
  pub closes_sent : List ServerId
  -- closed on all members of a committed epoch, with none of them lost, at one moment
  pub shut : Bool
  -- a newer head writes whose digest leaves this segment out, so that its backups were told to drop it
  pub freed : Bool

-- a segment as it is opened
abbrev pub new_segment : ℕ → List ℕ → List ServerId → Segment
new_segment seg digest ids = record {
  digest = digest;
  entries = [];
  config = new_config seg ids;
  commit_sent = false;
  closes_sent = [];
  shut = false;
  freed = false;
}

-- a segment that was never opened
abbrev pub no_segment : ℕ → Segment
no_segment seg = new_segment seg [] []

-- one more entry
abbrev pub with_entry : Entry → Bool → Segment → Segment
with_entry entry client segment = record segment { entries = segment.entries ++ (entry, client) ∷ [] }

-- the members have changed, under a fresh epoch: nothing was sent under it but the Places that go with the change
abbrev pub under_new_epoch : Config → Segment → Segment
under_new_epoch config segment = record segment { config = config; commit_sent = false; closes_sent = [] }

-- no Close was sent to the member under the present epoch
abbrev pub is_unclosed : Segment → Member → Bool
is_unclosed segment member = not (has_id member.id segment.closes_sent)

abbrev pub has_unclosed : Segment → Bool
has_unclosed segment = list_any (is_unclosed segment) segment.config.members

-- Close was sent to all members
abbrev pub with_closes_sent : Segment → Segment
with_closes_sent segment = record segment { closes_sent = map (λ member. member.id) segment.config.members }

-- placed on all members, under a committed epoch
abbrev pub is_ready : Segment → Bool
is_ready segment = segment.config.committed && all_placed segment.config

-- closed on all members, under a committed epoch
abbrev pub is_all_closed : Segment → Bool
is_all_closed segment = segment.config.committed && all_closed segment.config

-- how many of its entries all members have
abbrev pub durable_in : Segment → ℕ
durable_in segment = min (durable_len segment.config) (length segment.entries)
