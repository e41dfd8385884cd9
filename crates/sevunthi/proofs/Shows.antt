-- What stands in the caller's bytes, where a call answers 0.
use Rattle.std.proofs.Common.{◌≡◌, ℕ, List, Option, Some, subst, sym}
use Rattle.rc_world.specs.NodeView.{NodeData}
use Rattle.rc_session.specs.Looks.{AreDue}
use Rattle.sevunthi.specs.Shown.{IsGiven, IsShown}

pub found_is_shown : (n : ℕ) (found : Option (List ℕ)) (code before after : List ℕ) (count : ℕ) → found ≡ Some code →
    (n ≡ 0 → IsGiven code before after count) → n ≡ 0 → IsShown found before after count
found_is_shown n found code before after count e given done =
    subst (λ (f : Option (List ℕ)). IsShown f before after count) (sym e) (given done)

pub due_is_given : (n : ℕ) (heard silent stuck : List ℕ) (node : NodeData) (code before after : List ℕ) (count : ℕ) →
    AreDue heard silent stuck node code → (n ≡ 0 → IsGiven code before after count) → n ≡ 0 →
    (given : List ℕ) × AreDue heard silent stuck node given × IsGiven given before after count
due_is_given n heard silent stuck node code before after count due given done = (code, due, given done)
