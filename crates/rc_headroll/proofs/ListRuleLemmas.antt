-- What a master's list rules do about a segment that they let be.
use Rattle.std.proofs.Common.{◌≡◌, ℕ, Bool, true, false, cond, not, ◌&&◌, ◌||◌, List, [], ap, ◌∙◌, refl}
use Rattle.std.proofs.lemmas.Bool.{and_parts}
use Rattle.rc_model.specs.Model.{Message, Master, places_segment, loses, replaces_lost}
use Rattle.rc_config.specs.Concerned.{is_concerned}
use Rattle.rc_headroll.specs.Watching.{is_helpless, is_let_be}
use Rattle.rc_headroll.proofs.ConcernedLemmas.{loses-unconcerned}
use Rattle.rc_headroll.proofs.StuckLemmas.{loses-helpless}

either : {X : Type 0} (b : Bool) (x : X) → cond b x x ≡ x
either true x = refl
either false x = refl

-- nothing is done about one that the list doesn't concern
pub replaces-unconcerned : (master : Master) (seg : ℕ) → is_concerned master.known (master.log.segments seg) ≡ false →
    replaces_lost master seg ≡ (master, [])
replaces-unconcerned master seg none =
    let nothing : Master × List Message = (master, []) in
    ap (λ after. cond (master.log.segments seg).freed nothing (places_segment seg master after))
    (loses-unconcerned master.known seg master.log none)
    ∙ either (master.log.segments seg).freed nothing

-- and about a shut one whose lost members nobody can replace
replaces-helpless : (master : Master) (seg : ℕ) → (master.log.segments seg).shut ≡ true →
    is_helpless master.log.own master.known (master.log.segments seg).config ≡ true → replaces_lost master seg ≡ (master, [])
replaces-helpless master seg shut helpless =
    let nothing : Master × List Message = (master, []) in
    ap (λ after. cond (master.log.segments seg).freed nothing (places_segment seg master after))
    (loses-helpless master.known seg master.log shut helpless)
    ∙ either (master.log.segments seg).freed nothing

pub replaces-let_be : (master : Master) (seg : ℕ) → is_let_be master.log.own master.known (master.log.segments seg) ≡ true →
    replaces_lost master seg ≡ (master, [])
replaces-let_be master seg = by (master.log.segments seg).freed refl (is_concerned master.known (master.log.segments seg)) refl
  where
    by : (freed : Bool) → (master.log.segments seg).freed ≡ freed →
        (concerned : Bool) → is_concerned master.known (master.log.segments seg) ≡ concerned →
        (freed || (not concerned || ((master.log.segments seg).shut
        && is_helpless master.log.own master.known (master.log.segments seg).config))) ≡ true →
        replaces_lost master seg ≡ (master, [])
    by true is_freed concerned is let_be =
        ap (λ (f : Bool). cond f (master, []) (places_segment seg master (loses master.known seg master.log))) is_freed
    by false is_freed false is let_be = replaces-unconcerned master seg is
    by false is_freed true is let_be =
        let parts = and_parts (master.log.segments seg).shut
        (is_helpless master.log.own master.known (master.log.segments seg).config) let_be in
        replaces-helpless master seg parts.0 parts.1
