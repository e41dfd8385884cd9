-- A segment that the list doesn't concern.
use Rattle.std.proofs.Common.{◌≡◌, ℕ, Bool, true, false, cond, ◌||◌, eqb, List, [], ◌∷◌, map, Some, Result, Ok, refl, ap, sym, ◌∙◌}
use Rattle.std.specs.List.{list_any}
use Rattle.std.proofs.Math.Path.{fun_ext}
use Rattle.std.proofs.lemmas.Bool.{cond-false, cond_both, false≢true, eqb-true}
use Rattle.rc_model.specs.Model.{ServerId, Member, Fault, put, ServerList, has_crashed, Config, any_lost, lost_if_crashed, with_lost}
use Rattle.rc_model.specs.Model.{staying, substitutes, substitutes_for, candidates, changes_to, refills_with, lose, refill}
use Rattle.rc_model.specs.Model.{Segment, Log, with_config, refills, opens_change, loses}
use Rattle.rc_config.proofs.MemberLemmas.{replaced-none}
use Rattle.rc_config.specs.Concerned.{is_concerned}

or-false : (a b : Bool) → (a || b) ≡ false → (a ≡ false) × (b ≡ false)
or-false true b e = absurd (false≢true (sym e))
or-false false b e = (refl, e)

-- where no member is lost or crashed, marking the crashed ones changes nothing
marked-same : (servers : ServerList) (members : List Member) →
    list_any (λ member. member.lost || has_crashed servers member.id) members ≡ false →
    map (lost_if_crashed servers) members ≡ members
marked-same servers [] none = refl
marked-same servers (member ∷ members) none =
    let parts = or-false (member.lost || has_crashed servers member.id)
    (list_any (λ other. other.lost || has_crashed servers other.id) members) none in
    let well = or-false member.lost (has_crashed servers member.id) parts.0 in
    ap (λ (m : Member). m ∷ map (lost_if_crashed servers) members)
    (cond-false (has_crashed servers member.id) (record member { lost = true }) member well.1)
    ∙ ap (λ (ms : List Member). member ∷ ms) (marked-same servers members parts.1)

none-lost : (servers : ServerList) (members : List Member) →
    list_any (λ member. member.lost || has_crashed servers member.id) members ≡ false → any_lost members ≡ false
none-lost servers [] none = refl
none-lost servers (member ∷ members) none =
    let parts = or-false (member.lost || has_crashed servers member.id)
    (list_any (λ other. other.lost || has_crashed servers other.id) members) none in
    let well = or-false member.lost (has_crashed servers member.id) parts.0 in
    ap (λ (b : Bool). b || any_lost members) well.0 ∙ none-lost servers members parts.1

-- nobody has to be replaced
no-substitutes : (ids taken : List ServerId) (members : List Member) → any_lost members ≡ false → substitutes ids taken members ≡ Some []
no-substitutes ids taken [] none = refl
no-substitutes ids taken (member ∷ members) none =
    let parts = or-false member.lost (any_lost members) none in
    cond-false member.lost _ (substitutes ids taken members) parts.0 ∙ no-substitutes ids taken members parts.1

module _ (own : ServerId) (servers : ServerList) (config : Config)
    (none : list_any (λ member. member.lost || has_crashed servers member.id) config.members ≡ false) where
  marked : with_lost servers config ≡ config
  marked = ap (λ (ms : List Member). record config { members = ms }) (marked-same servers config.members none)

  lose-none : lose own servers config ≡ (config, Ok false)
  lose-none =
      ap (λ (c : Config). cond (any_lost c.members) (changes_to c (substitutes_for own servers c)) (c, Ok false)) marked
      ∙ cond-false (any_lost config.members) (changes_to config (substitutes_for own servers config)) (config, Ok false)
      (none-lost servers config.members none)

  refill-none : refill own servers config ≡ (config, Ok [])
  refill-none =
      ap (λ (c : Config). refills_with c (substitutes_for own servers c)) marked
      ∙ ap (refills_with config) (no-substitutes (candidates config.seg own servers) (staying config.members)
      config.members (none-lost servers config.members none))
      ∙ ap (λ (ms : List Member). (
        record config { members = ms },
        let nobody : Result (List ServerId) Fault = Ok [] in
            nobody,
      )) (replaced-none config.members)

put-same : (t : ℕ → Segment) (k o : ℕ) → put t k (t k) o ≡ t o
put-same t k o = cond_both (eqb k o) (t k) (t o) (λ s. s ≡ t o) (λ e. ap t (eqb-true k o e)) (λ e. refl)

pub config-same : (seg : ℕ) (log : Log) → with_config seg (log.segments seg).config log ≡ log
config-same seg log = ap (λ (t : ℕ → Segment). record log { segments = t }) (fun_ext (put-same log.segments seg))

-- its loss changes nothing, and nobody is sent a Place
pub loses-unconcerned : (servers : ServerList) (seg : ℕ) (log : Log) → is_concerned servers (log.segments seg) ≡ false →
    loses servers seg log ≡ (log, Ok [])
loses-unconcerned servers seg log none =
    let segment : Segment = log.segments seg in
    let nobody : Result (List ServerId) Fault = Ok [] in
    ap (λ after. cond segment.shut (refills seg log after) (opens_change seg log (lose log.own servers segment.config)))
    (refill-none log.own servers segment.config none)
    ∙ ap (λ after. cond segment.shut (with_config seg segment.config log, nobody) (opens_change seg log after))
    (lose-none log.own servers segment.config none)
    ∙ either segment.shut (with_config seg segment.config log, nobody)
    ∙ ap (λ (l : Log). (l, nobody)) (config-same seg log)
  where
    either : (b : Bool) (x : Log × Result (List ServerId) Fault) → cond b x x ≡ x
    either true x = refl
    either false x = refl
