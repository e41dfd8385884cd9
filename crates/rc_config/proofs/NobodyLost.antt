-- Where nobody is lost, nobody is replaced.
use Rattle.std.proofs.Common.{◌≡◌, Bool, true, false, ◌||◌, List, [], ◌∷◌, Some, Result, Ok, refl, ap, sym, ◌∙◌}
use Rattle.std.proofs.lemmas.Bool.{cond-false, false≢true}
use Rattle.rc_model.specs.Model.{ServerId, Member, Fault, ServerList, Config, any_lost, with_lost, staying, substitutes, substitutes_for}
use Rattle.rc_model.specs.Model.{candidates, refills_with, refill}
use Rattle.rc_config.proofs.MemberLemmas.{replaced-none}

or-false : (a b : Bool) → (a || b) ≡ false → (a ≡ false) × (b ≡ false)
or-false true b e = absurd (false≢true (sym e))
or-false false b e = (refl, e)

-- nobody has to be found
no-substitutes : (ids taken : List ServerId) (members : List Member) → any_lost members ≡ false → substitutes ids taken members ≡ Some []
no-substitutes ids taken [] none = refl
no-substitutes ids taken (member ∷ members) none =
    let parts = or-false member.lost (any_lost members) none in
    cond-false member.lost _ (substitutes ids taken members) parts.0 ∙ no-substitutes ids taken members parts.1

-- the members stay, and nobody is new
pub refill-nobody : (own : ServerId) (servers : ServerList) (config marked : Config) → marked ≡ with_lost servers config →
    any_lost marked.members ≡ false → refill own servers config ≡ (marked, Ok [])
refill-nobody own servers config marked is none =
    ap (λ (c : Config). refills_with c (substitutes_for own servers c)) (sym is)
    ∙ ap (refills_with marked) (no-substitutes (candidates marked.seg own servers) (staying marked.members)
    marked.members none)
    ∙ ap (λ (ms : List Member). (
      record marked { members = ms },
      let nobody : Result (List ServerId) Fault = Ok [] in
          nobody,
    )) (replaced-none marked.members)
