-- Each work is read back, and nothing else is.
use Rattle.std.proofs.Common.{◌≡◌, ℕ, List, ◌∷◌, ◌++◌, Some, refl}
use Rattle.rc_codec.specs.Fields.{chosen_at}
use Rattle.rc_codec.proofs.Lawful.{Lawful, made_again, pair_lawful, listed_lawful, nothing_lawful, AreRight, kind_right, chosen_lawful}
use Rattle.rc_codec.proofs.Lawful.{versioned_lawful}
use Rattle.rc_codec.proofs.EachKind.{id_law, kept_law, body_law, message_law, ordered_again, ordered_right}
use Rattle.rc_types.specs.declared.events.NodeWork.{NodeWork}
use Rattle.rc_types.specs.declared.events.NodeWork.TheVariants as work
use Rattle.rc_keeping.specs.Spelling.{work_code, coded_work}
use Rattle.rc_keeping.specs.Readers.{works, node_work_at, coded_at}
use Rattle.rc_keeping.proofs.WorkOrders.{work_orders}

work_again : (w : NodeWork) (rest : List ℕ) → chosen_at works (work_code w ++ rest) ≡ Some (w, rest)
work_again (work.Ask to body) rest = made_again (pair_lawful id_law body_law) (λ p. work.Ask p.0 p.1) (to, body) rest
work_again (work.Deliver message) rest = made_again message_law work.Deliver message rest
work_again work.Tick rest = made_again nothing_lawful (λ _. work.Tick) tt rest
work_again work.Stop rest = made_again nothing_lawful (λ _. work.Stop) tt rest
work_again (work.Start kept) rest = made_again (listed_lawful kept_law) work.Start kept rest
work_again (work.Order order) rest = ordered_again work.Order works work_orders order rest

work_right : AreRight work_code 0 works
work_right = (
  kind_right (pair_lawful id_law body_law) (λ p. work.Ask p.0 p.1) work_code 0 (λ x. refl),
  (
    kind_right message_law work.Deliver work_code 1 (λ x. refl),
    (
      kind_right nothing_lawful (λ _. work.Tick) work_code 2 (λ x. refl),
      (
        kind_right nothing_lawful (λ _. work.Stop) work_code 3 (λ x. refl),
        (kind_right (listed_lawful kept_law) work.Start work_code 4 (λ x. refl), ordered_right work.Order work_code (λ x. refl)),
      ),
    ),
  ),
)

work_law : Lawful work_code node_work_at
unfolding node_work_at
work_law = chosen_lawful work_code works work_right work_again

pub coded_work_law : Lawful coded_work coded_at
coded_work_law = versioned_lawful work_law
