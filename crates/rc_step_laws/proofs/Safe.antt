-- What counts as durable at a moment is safe.
use Rattle.std.proofs.Common.{◌≡◌, ◌⊎◌, ℕ, ◌<◌, min, true, false, List, [], ◌∷◌, length, slice_get, Some}
use Rattle.std.proofs.Common.{refl, sym, ◌∙◌, subst, inl, inr, arith}
use Rattle.std.proofs.lemmas.Bool.{and_parts}
use Rattle.rc_model.specs.Model.{ServerId, Member, Message, Config, told_len, least_told, durable_len, Segment, durable_in, Log}
use Rattle.rc_model.specs.Model.{LogPlace, places_of, durable_now, In}
use Rattle.rc_model.proofs.Members.{In-map}
use Rattle.rc_step_laws.specs.All.{log_in, HasTold, IsMember, IsSafe, OwnFine}
use Rattle.rc_step_laws.proofs.Lists.{get-within}
use Rattle.rc_step_laws.proofs.Copies.{split}
use Rattle.rc_step_laws.proofs.LogMoves.{GoodLog}
use Rattle.rc_step_laws.proofs.Places.{IsOf, IsCovered, places_to-are, place-logged, durable-covered}
use Rattle.rc_model.proofs.Tests.{true_false}

-- the least that was told is told by each
least_of-left : {o a : ℕ} (b : ℕ) → o < min a b → o < a
least_of-left b less = omega arith

least_of-right : {o : ℕ} (a : ℕ) {b : ℕ} → o < min a b → o < b
least_of-right a less = omega arith

least_told-below : (o : ℕ) (members : List Member) (member : Member) → o < least_told members → In member members → o < told_len member.told
least_told-below o [] member less at = absurd at
least_told-below o (one ∷ []) member less (inl e) = subst (λ (some : Member). o < told_len some.told) (sym e) less
least_told-below o (one ∷ []) member less (inr rest) = absurd rest
least_told-below o (one ∷ other ∷ members) member less (inl e) =
    subst (λ (some : Member). o < told_len some.told) (sym e) (least_of-left (least_told (other ∷ members)) less)
least_told-below o (one ∷ other ∷ members) member less (inr rest) =
    least_told-below o (other ∷ members) member (least_of-right (told_len one.told) less) rest

-- below the durable length the epoch is committed, and each member has told more
pub durable_len-tells : {o : ℕ} (config : Config) → o < durable_len config →
    (config.committed ≡ true) × ((member : Member) → In member config.members → o < told_len member.told)
durable_len-tells {o} config less = search (arith, and_parts, least_told-below)

-- a member under the present epoch of a shut segment has told the whole
shut-told : (sent : List Message) (m : ServerId) (log : Log) (s o : ℕ) (x : ServerId) → OwnFine sent m log →
    (log.segments s).shut ≡ true → o < length (log_in log s)
    → IsMember sent m s (log.segments s).config.epoch x → HasTold sent x m s (log.segments s).config.epoch o
shut-told sent m log s o x fine shut below at = search arith

-- and of an open one what is noted of it
open-told : (sent : List Message) (m : ServerId) (log : Log) (s o : ℕ) (x : ServerId) → GoodLog sent m log →
    OwnFine sent m log → (log.segments s).shut ≡ false → o < durable_len (log.segments s).config
    → IsMember sent m s (log.segments s).config.epoch x → HasTold sent x m s (log.segments s).config.epoch o
open-told sent m log s o x good fine open_now below at =
    let placed = fine.places x s (log.segments s).config.epoch at.digest at.entries false at.placed in
    let found = In-map (λ (member : Member). member.id) x (log.segments s).config.members (placed.member refl refl open_now) in
    let tells = (durable_len-tells (log.segments s).config below).1 found.0 found.1 in
    subst (λ y. HasTold sent y m s (log.segments s).config.epoch o) (sym found.2) ((good.each s).noted found.0 found.1 o tells)

pub covered-safe : {sent : List Message} {m : ServerId} {log : Log} {place : LogPlace} → GoodLog sent m log → OwnFine sent m log
    → IsOf log.segments log.head place → IsCovered log.segments place → IsSafe sent m log place.seg place.offset
covered-safe {sent} {m} {log} {place} good fine is covered = record {
  opened = record { above = is.above; below = is.upto };
  logged = logged;
  epoch = (log.segments place.seg).config.epoch;
  upto = omega arith;
  granted = (good.each place.seg).committed (committed covered.reason);
  told = λ x at. split (log.segments place.seg).shut
      (λ shut. shut-told sent m log place.seg place.offset x fine shut logged at)
      (λ open_now. open-told sent m log place.seg place.offset x good fine open_now (durable open_now covered.reason) at);
  later = λ x e digest entries closed above at. (let placed = fine.places x place.seg e digest entries closed at in
      absurd (omega (arith, placed.epoch)));
  below = covered.below;
}
  where
    logged : place.offset < length (log_in log place.seg)
    logged = get-within (log_in log place.seg) place.offset (place-logged log is)

    below_len : (o : ℕ) (segment : Segment) → o < durable_in segment → o < durable_len segment.config
    below_len o segment less = least_of-left (length segment.entries) less

    committed : ((log.segments place.seg).shut ≡ true) ⊎ (place.offset < durable_in (log.segments place.seg)) →
        (log.segments place.seg).config.committed ≡ true
    committed (inl shut) = (good.each place.seg).shut_committed shut
    committed (inr less) = (durable_len-tells (log.segments place.seg).config
        (below_len place.offset (log.segments place.seg) less)).0

    durable : (log.segments place.seg).shut ≡ false → ((log.segments place.seg).shut ≡ true) ⊎
        (place.offset < durable_in (log.segments place.seg)) →
        place.offset < durable_len (log.segments place.seg).config
    durable open_now (inl shut) = true_false (sym shut ∙ open_now)
    durable open_now (inr less) = below_len place.offset (log.segments place.seg) less

-- each place that is durable now is safe
pub durable-safe : (sent : List Message) (m : ServerId) (log : Log) (k : ℕ) (place : LogPlace) → GoodLog sent m log →
    OwnFine sent m log → k < durable_now log
    → slice_get (places_of log) k ≡ Some place → IsSafe sent m log place.seg place.offset
durable-safe sent m log k place good fine less at = covered-safe good fine
    (places_to-are log.head k at) (durable-covered log k place less at)
