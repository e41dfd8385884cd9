-- A place that is stored on all is safe.
use Rattle.std.proofs.Common.{◌≡◌, ◌⊎◌, ℕ, zero, suc, ◌-◌, ◌<◌, ◌≤◌, Bool, true, nat_lt, ◌&&◌, List, [], ◌∷◌}
use Rattle.std.proofs.Common.{length, Some, slice_get, refl, sym, subst, inl, inr, arith}
use Rattle.std.proofs.lemmas.Bool.{and_parts, ltb-true}
use Rattle.std.proofs.lemmas.List.{length-map}
use Rattle.rc_model.specs.Model.{ServerId, Entry, Member, Message, Config, least_told, durable_len, Segment, durable_in}
use Rattle.rc_model.specs.Model.{LogPlace, has_segment, Master, all_shut_to, is_stored_on_all, In}
use Rattle.rc_step_laws.specs.All.{log_in, HasTold, IsOpened, IsSafe, GoodMaster, OwnFine}
use Rattle.rc_step_laws.proofs.Lists.{get-below}
use Rattle.rc_step_laws.proofs.MasterTold.{has-opened}
use Rattle.rc_step_laws.proofs.Safe.{durable_len-tells, covered-safe}
use Rattle.rc_step_laws.proofs.MasterSteps.{view-of}

-- each of these segments is shut
pub all_shut-each : (segments : ℕ → Segment) (n : ℕ) {t : ℕ} → all_shut_to segments n ≡ true → 0 < t → t ≤ n → (segments t).shut ≡ true
all_shut-each segments zero e above upto = absurd (omega arith)
all_shut-each segments (suc n) {t} e above upto =
    by (or_last t n upto) (λ less. all_shut-each segments n (and_parts (segments (suc n)).shut (all_shut_to segments n) e).1 above less)
  where
    or_last : (t n : ℕ) → t ≤ suc n → (t ≡ suc n) ⊎ (t ≤ n)
    or_last t n p = grind arith

    by : (t ≡ suc n) ⊎ (t ≤ n) → (t ≤ n → (segments t).shut ≡ true) → (segments t).shut ≡ true
    by (inl same) rec = subst (λ k. (segments k).shut ≡ true) (sym same) (and_parts (segments (suc n)).shut (all_shut_to segments n) e).0
    by (inr less) rec = rec less

-- below the durable length there is a member
some-member : {o : ℕ} (members : List Member) → o < least_told members → (member : Member) × In member members
some-member [] less = absurd (omega arith)
some-member (member ∷ members) less = (member, inl refl)

durable_len-least : {o : ℕ} (config : Config) → o < durable_len config → o < least_told config.members
durable_len-least {o} config less = search arith

-- below the durable length a member has told more
pub stored-told : {sent : List Message} {m : ServerId} {master : Master} {s o : ℕ} → GoodMaster sent m master →
    o < durable_len (master.log.segments s).config →
    (x : ServerId) × HasTold sent x m s (master.log.segments s).config.epoch o
stored-told {master} {s} {o} good less =
    (found.0.id, good.noted s found.0 found.1 o ((durable_len-tells (master.log.segments s).config less).1 found.0 found.1))
  where
    found : (member : Member) × In member (master.log.segments s).config.members
    found = some-member (master.log.segments s).config.members (durable_len-least (master.log.segments s).config less)

-- so it is within the segment
stored-within : {sent : List Message} {m : ServerId} {master : Master} (s : ℕ) {o : ℕ} → GoodMaster sent m master →
    OwnFine sent m master.log → o < durable_len (master.log.segments s).config →
    o < length (log_in master.log s)
stored-within {sent} {m} {master} s {o} good fine less = by (stored-told good less)
  where
    by : (x : ServerId) × HasTold sent x m s (master.log.segments s).config.epoch o → o < length (log_in master.log s)
    by (x, one) = search arith

pub stored-safe : {sent : List Message} {m : ServerId} {master : Master} {s o : ℕ} → GoodMaster sent m master →
    OwnFine sent m master.log → is_stored_on_all master.log s o ≡ true → IsSafe sent m master.log s o
stored-safe {master} {s} {o} good fine e = covered-safe (view-of good fine).log fine
    (record { above = opened.above; upto = opened.below; holds = at.1 })
    (record { reason = inr below_both; below = λ t above less. all_shut-each master.log.segments (s - 1) parts.1 above (omega arith) })
  where
    first : (has_segment master.log s ≡ true) ×
        ((nat_lt o (durable_len (master.log.segments s).config) && all_shut_to master.log.segments (s - 1)) ≡ true)
    first = and_parts (has_segment master.log s) (nat_lt o (durable_len (master.log.segments s).config) &&
        all_shut_to master.log.segments (s - 1)) e

    parts : (nat_lt o (durable_len (master.log.segments s).config) ≡ true) × (all_shut_to master.log.segments (s - 1) ≡ true)
    parts = and_parts (nat_lt o (durable_len (master.log.segments s).config)) (all_shut_to master.log.segments (s - 1)) first.1

    opened : IsOpened master.log s
    opened = has-opened first.0

    less : o < durable_len (master.log.segments s).config
    less = ltb-true o (durable_len (master.log.segments s).config) parts.0

    within : o < length (master.log.segments s).entries
    within =
        let logged : o < length (log_in master.log s) = stored-within s good fine less in
        let same : length (log_in master.log s) ≡ length (master.log.segments s).entries =
        length-map (master.log.segments s).entries (λ (one : Entry × Bool). one.0) in
        omega arith

    at : (one : Entry × Bool) × (slice_get (master.log.segments s).entries o ≡ Some one)
    at = get-below (master.log.segments s).entries o within

    place : LogPlace
    place = record { seg = s; offset = o; entry = at.0.0; client = at.0.1 }

    below_both : o < durable_in (master.log.segments s)
    below_both = let one : o < durable_len (master.log.segments s).config =
        less in let two : o < length (master.log.segments s).entries = within in omega arith
