-- Whether the reads of a run stand in the order of time: a test on its messages alone; and runs in which reads are
-- confirmed, or can't be.
use Rattle.std.specs.Prelude.{◌≡◌, ℕ, Bool, true, false, not, nat_eq, nat_lt, nat_le, ◌&&◌, ◌||◌, List, [], ◌∷◌}
use Rattle.std.specs.Prelude.{◌++◌, Option, codes}
use Rattle.std.specs.List.{list_any, list_all}
use Rattle.rc_types.specs.declared.ids.ServerId.{ServerId}
use Rattle.rc_types.specs.declared.ids.Addr.{Addr}
use Rattle.rc_types.specs.declared.ids.Addr.TheVariants.{Server}
use Rattle.rc_types.specs.declared.entries.Entry.{Entry}
use Rattle.rc_types.specs.declared.messages.Message.{Message}
use Rattle.rc_types.specs.declared.messages.Body.{Body}
use Rattle.rc_types.specs.declared.messages.Body.TheVariants.{ReadOk}
use Rattle.rc_model.specs.Ids.{same_id}
use Rattle.rc_model.specs.Made.{made}
use Rattle.rc_model.specs.Recovered.{Ack}
use Rattle.rc_model.specs.Breach.{same_value}
use Rattle.rc_worked.specs.Settling.{of_eight, decide, deliver, id, read, settle, settle_without, suspect, write}
use Rattle.rc_worked.specs.Shown.{four_hosts, own_line}
use Rattle.rc_worked.specs.Sentences.{Run, acks_of, is_of_key, is_no_more, whole_world, broken}
use Rattle.rc_worked.specs.Clients.{two_handovers, told}

-- The test

abbrev pub is_some_entry : List Entry → Bool
is_some_entry [] = false
is_some_entry (entry ∷ entries) = true

-- something had been sent for the place of the write
abbrev pub has_begun : List Message → ServerId × Ack → Bool
has_begun before (m, ack) = is_some_entry (made before m ack.seg ack.offset)

-- the master has acknowledged a write for whose place nothing had been sent by then
abbrev pub is_confirmed : List Message → List Message → ServerId → Bool
is_confirmed sent before m = list_any (λ one. same_id m one.0 && not (has_begun before one)) (acks_of sent)

-- what a read showed
pub record Shown : Type 0 where
  pub table : ℕ
  pub key : ℕ
  pub version : ℕ
  pub value : Option (List ℕ)

abbrev pub shown_by : Addr → Body → List Shown
shown_by (Server m) (ReadOk table key version value) =
    record { table = table; key = key; version = version; value = value } ∷ []
shown_by _ _ = []

abbrev pub shown_of : List Message → List Shown
shown_of [] = []
shown_of (message ∷ sent) = shown_by message.from message.body ++ shown_of sent

abbrev pub is_same_key : Shown → Shown → Bool
is_same_key one other = nat_eq one.table other.table && nat_eq one.key other.key

-- a write of the key had begun, or has a greater version
abbrev pub is_followed : List Message → Shown → ServerId × Ack → Bool
is_followed before one (m, ack) =
    not (is_of_key one.table one.key ack) || (has_begun before (m, ack) || nat_lt one.version ack.version)

-- a read of the key that was answered before shows no greater version, and of the same version the same value
abbrev pub is_no_less : Shown → Shown → Bool
is_no_less one other = not (is_same_key other one) || nat_le other.version one.version

abbrev pub is_alike : Shown → Shown → Bool
is_alike one other =
    not (is_same_key other one && nat_eq other.version one.version) || same_value other.value one.value

-- what was shown, when the messages before had been sent, stands in the order of time; where it is confirmed, behind
-- all that had been acknowledged and shown
abbrev pub is_in_order : List Message → List Message → ServerId → Shown → Bool
is_in_order sent before m one =
    list_all (is_followed before one) (acks_of sent) && (list_all (is_alike one) (shown_of before)
    && (not (is_confirmed sent before m)
    || (list_all (λ ack. is_no_more one.table one.key one.version ack.1) (acks_of before)
    && list_all (is_no_less one) (shown_of before))))

abbrev pub answered_in_order : List Message → List Message → Addr → Body → Bool
answered_in_order sent before (Server m) (ReadOk table key version value) =
    is_in_order sent before m (record { table = table; key = key; version = version; value = value })
answered_in_order sent before _ _ = true

abbrev pub keeps_order_from : List Message → List Message → List Message → Bool
keeps_order_from sent before [] = true
keeps_order_from sent before (message ∷ rest) =
    answered_in_order sent before message.from message.body && keeps_order_from sent (before ++ message ∷ []) rest

abbrev pub keeps_order : List Message → Bool
keeps_order sent = keeps_order_from sent [] sent

abbrev pub order_of : Run → Bool
order_of run = keeps_order (whole_world run).sent

-- the versions that reads showed, each with whether it was confirmed
abbrev pub version_by : List Message → List Message → Addr → Body → List (ℕ × Bool)
version_by sent before (Server m) (ReadOk table key version value) = (version, is_confirmed sent before m) ∷ []
version_by sent before _ _ = []

abbrev pub versions_from : List Message → List Message → List Message → List (ℕ × Bool)
versions_from sent before [] = []
versions_from sent before (message ∷ rest) =
    version_by sent before message.from message.body ++ versions_from sent (before ++ message ∷ []) rest

abbrev pub confirmed_in : Run → List (ℕ × Bool)
confirmed_in run = versions_from (whole_world run).sent [] (whole_world run).sent

-- Reads at the second and the third owner are confirmed by the writes that come after them; the last one is not

abbrev pub ThirdOwnerConfirms : Type 0
ThirdOwnerConfirms = confirmed_in two_handovers ≡ (1, true) ∷ (2, true) ∷ (3, false) ∷ []

abbrev pub TwoHandoversKeepOrder : Type 0
TwoHandoversKeepOrder = order_of two_handovers ≡ true

-- A master that was replaced, and has not heard of it, misses what the second owner has acknowledged. It tries to
-- confirm its read by a write of another key; nobody stores that.

abbrev pub zombie_confirms_nothing : Run
zombie_confirms_nothing = record {
  setup = of_eight 1;
  early = four_hosts ++
      write (id 0 1) 7 5 (codes "a") ∷ settle ∷ suspect (id 0 1) ∷ settle_without 0 ∷
      decide (id 0 1) ∷ settle_without 0 ∷ [];
  more = write (id 1 1) 7 5 (codes "b") ∷ settle_without 0 ∷
      read (id 0 1) 7 5 ∷ settle ∷ write (id 0 1) 7 6 (codes "c") ∷ settle ∷ [];
}

abbrev pub ZombieConfirmsNothing : Type 0
ZombieConfirmsNothing = confirmed_in zombie_confirms_nothing ≡ (1, false) ∷ []

abbrev pub ZombieKeepsOrder : Type 0
ZombieKeepsOrder = order_of zombie_confirms_nothing ≡ true

-- A write reaches one backup, and its master is replaced before it hears of that: nobody ever acknowledges it. The
-- second owner shows it, and so does the third; both reads are confirmed.

abbrev pub shown_again : Run
shown_again = record {
  setup = of_eight 1;
  early = four_hosts ++
      write (id 0 1) 7 5 (codes "a") ∷ deliver 27 ∷ deliver 28 ∷ suspect (id 0 1) ∷ settle_without 0 ∷
      decide (id 0 1) ∷ settle_without 0 ∷ read (id 1 1) 7 5 ∷ settle_without 0 ∷
      write (id 1 1) 7 6 (codes "b") ∷ settle_without 0 ∷ [];
  more = suspect (id 1 1) ∷ settle_without 0 ∷ decide (id 1 1) ∷ settle_without 0 ∷
      read (id 3 1) 7 5 ∷ settle_without 0 ∷ write (id 3 1) 7 6 (codes "c") ∷ settle_without 0 ∷ [];
}

abbrev pub ShownAgainTells : Type 0
ShownAgainTells =
    told shown_again
    ≡ own_line
    ++ codes "plan 1 of 0.1 to 1.1 head 1 rows 1:1.1:1\n"
    ++ codes "own 1.1 term 2 table 7 from 0 to 18446744073709551615 after 1 attempt 1\n"
    ++ codes "read 1.1 table 7 key 5 version 1\n"
    ++ codes "ack 1.1 seg 1 at 1 term 2 table 7 key 6 version 1\n"
    ++ codes "plan 2 of 1.1 to 3.1 head 1 rows 1:2.1:2\n"
    ++ codes "own 3.1 term 3 table 7 from 0 to 18446744073709551615 after 2 attempt 2\n"
    ++ codes "read 3.1 table 7 key 5 version 1\n"
    ++ codes "ack 3.1 seg 1 at 2 term 3 table 7 key 6 version 2\n"

abbrev pub ShownAgainConfirms : Type 0
ShownAgainConfirms = confirmed_in shown_again ≡ (1, true) ∷ (1, true) ∷ []

abbrev pub ShownAgainKeepsOrder : Type 0
ShownAgainKeepsOrder = order_of shown_again ≡ true

-- Where a wrong rule lets the replaced master confirm its read, the order is broken, and no other sentence

abbrev pub ZombieBreaksNoOther : Type 0
ZombieBreaksNoOther = broken zombie_confirms_nothing ≡ []
