-- A walk over the rules of a master: each keeps what holds of its freed segments, and one alone frees any.
use Rattle.std.proofs.Common.{arith}
use Rattle.std.proofs.Common.{◌≡◌, ◌⊎◌, ℕ, Bool, true, false, List, [], ◌∷◌, ◌++◌, length, Some, refl}
use Rattle.std.proofs.Common.{sym, ap, subst, inl, inr}
use Rattle.std.proofs.lemmas.List.{append-nil, append_assoc}
use Rattle.rc_model.specs.Model.{Addr, Entry, Message, Body, Append, Log, head_of, durable_now, appends}
use Rattle.rc_model.specs.Model.{left_out, may_write, writes_on, Master}
use Rattle.rc_model.specs.Model.{with_log, ids_of, not_lost, place_of, appends_entry, dead_segments, places_head}
use Rattle.rc_model.specs.Model.{frees_segments, master_takes, master_ticks}
use Rattle.rc_model.specs.Model.{with_entry, In}
use Rattle.rc_model.proofs.Members.{In-left, In-right, In-append}
use Rattle.rc_model.proofs.Walk.{Joined, Listed, Rolls, Taken, Ticked, Followed, kept-takes, kept-ticks}
use Rattle.rc_model.proofs.Sending.{each-map, each-write_oks, each-reminds}
use Rattle.rc_step_laws.specs.Freed.{GoodFrees, freed_by, freed_in}
use Rattle.rc_step_laws.proofs.Silent.{Silent, silent-none, silent-ids, silent-all, freed-append, freed-segments}
use Rattle.rc_step_laws.proofs.Stays.{Stays, fewer, stays-refl, stays-put, stays-stored, stays-commit_noted, stays-loses, stays-starts}
use Rattle.rc_step_laws.proofs.Stays.{stays-closes, stays-first_opened, stays-next_opened, writes-leave_out}
use Rattle.rc_step_laws.proofs.Rolling.{writing-is}

-- what holds of the freed segments holds with those that are freed in the step
pub record Moves (old : Master) (after : Master × List Message) : Type 0 where
  pub keeps : (freed : List ℕ) → GoodFrees freed old.log → GoodFrees (freed ++ freed_in after.1) after.0.log

quiet : {old new : Master} {messages : List Message} → Stays old.log new.log → Silent messages → Moves old (new, messages)
quiet {new} stays silent = search (arith, append-nil)

both : (a b : Master) (first : List Message) (after : Master × List Message) → Moves a (b, first) → Moves b after →
    Moves a (after.0, first ++ after.1)
both a b first after p q = search (arith, append_assoc, freed-append)

moves-joined : Joined Moves
moves-joined = record { still = λ master. quiet stays-refl silent-none; both = both }

-- the log is as it was, and this is said
says : {old new : Master} {message : Message} → Stays old.log new.log → freed_by message.body ≡ [] → Moves old (new, message ∷ [])
says stays is = quiet stays (ap (λ (some : List ℕ). some ++ []) is)

moves-head : {master : Master} {log : Log} → Stays master.log log → Moves master (with_log master log, places_head log)
moves-head {log} stays = quiet stays
    (silent-ids log.own (ids_of (head_of log).config.members) (place_of log log.head false) refl)

moves-rolls : (master : Master) → Rolls Moves master
moves-rolls master ids writing room chosen = moves-head
    (stays-next_opened (dead_segments master) (Some ids) (writing-is master.log.phase writing))

moves-listed : Listed Moves
moves-listed = record {
  replaces = λ master seg ids isn't. quiet (stays-loses master.known seg) (silent-ids _ ids _ refl);
  opens = λ master ids none chosen. moves-head (stays-first_opened (Some ids) none);
}

moves-appends : {old master : Master} (entry : Entry) (client : Bool) → old.log ≡ master.log → Moves old (appends_entry master entry client)
moves-appends {master} entry client same = quiet (subst (λ log. Stays log (appends entry client master.log)) (sym same)
    (stays-put master.log.head (with_entry entry client (head_of master.log)) refl (λ e. e)))
    (silent-ids master.log.own (ids_of (not_lost (head_of master.log).config.members))
    (Append master.log.head (length (head_of master.log).entries) (entry ∷ [])) refl)

moves-taken : {master : Master} {from : Addr} {body : Body} → Taken Moves master from body
moves-taken {master} = search (
  arith,
  says,
  stays-refl,
  moves-rolls,
  moves-appends,
  quiet,
  silent-none,
  stays-stored,
  stays-commit_noted,
  silent-all,
  each-map,
)

moves-ticked : Ticked Moves
moves-ticked = search (arith, says, stays-refl, quiet, silent-all, each-reminds)

-- a master frees only where its new head writes
moves-shuts : (master : Master) → may_write master.log ≡ true →
    Moves master (with_log master (writes_on master.log), frees_segments master.log (left_out master.log))
moves-shuts master may = record {
  keeps = λ freed good. fewer
      (λ s at. by s freed (In-append s freed (freed_in (frees_segments master.log (left_out master.log))) at))
      (writes-leave_out may good);
}
  where
    by : (s : ℕ) (freed : List ℕ) → In s freed ⊎ In s (freed_in (frees_segments master.log (left_out master.log))) →
        In s (freed ++ left_out master.log)
    by s freed (inl was) = In-left s freed (left_out master.log) was
    by s freed (inr is) = In-right s freed (left_out master.log) (freed-segments master.log (left_out master.log) s is)

moves-counts : {log : Log} → Stays log (record log { durable = durable_now log })
moves-counts {log} freed good = search arith

moves-followed : Followed Moves
moves-followed = search (
  arith,
  quiet,
  stays-put,
  silent-none,
  says,
  stays-starts,
  stays-closes,
  silent-ids,
  moves-shuts,
  moves-counts,
  silent-all,
  each-write_oks,
  moves-rolls,
  moves-appends,
  stays-refl,
)

-- Whole steps

pub takes-moves : {master : Master} (from : Addr) (body : Body) → Moves master (master_takes master from body)
takes-moves {master} from body = kept-takes Moves moves-joined moves-listed moves-followed moves-taken

pub ticks-moves : (master : Master) → Moves master (master_ticks master)
ticks-moves = kept-ticks Moves moves-joined moves-listed moves-followed moves-ticked
