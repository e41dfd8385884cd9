-- What the coordinator commits and grants.
use Rattle.std.proofs.Common.{◌≡◌, ℕ, true, false, List, [], ◌∷◌, Some, None, refl, ap, ◌∙◌, arith}
use Rattle.std.proofs.lemmas.Bool.Decides.{nat_tests}
use Rattle.std.specs.Prelude.{Option}
use Rattle.std.specs.Option.{option_map_or}
use Rattle.rc_model.specs.Model.{Part, Grant, grants_part, own_body}
use Rattle.rc_model.specs.Model.{ServerId, Pair, Deposed, StaleAttempt, Message, is_up, is_below, greater_pair, Attempt}
use Rattle.rc_model.specs.Model.{from_coordinator, refuses_server, attempt_at, commits_pair, is_current, grant_to}
use Rattle.rc_model.specs.Model.{part_of_sender, takes_recovered}
use Rattle.rc_model.specs.Coordinator.{Coordinator}
use Rattle.rc_model.proofs.Tests.{either}
use Rattle.rc_model.proofs.Tables.{put_id_each, put_id-same}

-- how a Recovered is answered, by the sender's part, and by its grant where it has one
abbrev pub by_part : Coordinator → ServerId → ℕ → Option Part → Coordinator × List Message
by_part c id number part = option_map_or (grants_part c id number) part (c, refuses_server id StaleAttempt ∷ [])

abbrev pub by_grant : Coordinator → ServerId → ℕ → ℕ → Option Grant → Coordinator × List Message
by_grant c id number term grant = option_map_or (λ one. (c, from_coordinator id (own_body one) ∷ [])) grant
    (by_part c id number (part_of_sender c id number term))

-- no pair is below itself, and of two one isn't below the other
below-itself : (a : Pair) → is_below a a ≡ false
below-itself a = grind (arith, nat_tests)

pub below-turned : (a b : Pair) → is_below a b ≡ true → is_below b a ≡ false
below-turned a b e = grind (arith, nat_tests)

pub greater-left : (a b : Pair) → is_below (greater_pair a b) a ≡ false
greater-left a b = either (λ p. is_below p a ≡ false) (is_below a b) b a (λ e. below-turned a b e) (λ _. below-itself a)

pub greater-right : (a b : Pair) → is_below (greater_pair a b) b ≡ false
greater-right a b = either (λ p. is_below p b ≡ false) (is_below a b) b a (λ _. below-itself b) (λ e. e)

-- a least pair never falls
pub least-rises : (c : Coordinator) (id other : ServerId) (pair : Pair) →
    is_below ((commits_pair c id pair).0.least other) (c.least other) ≡ false
least-rises c id other pair = search (arith, either, put_id_each, greater-left, below-itself)

-- and is at least what is committed
pub least-covers : (c : Coordinator) (id : ServerId) (pair : Pair) → is_up c.servers id ≡ true →
    is_below ((commits_pair c id pair).0.least id) pair ≡ false
least-covers c id pair is =
    rw is (ap (λ least. is_below least pair) (put_id-same c.least id) ∙ greater-right (c.least id) pair)

-- who isn't up is refused
pub commit-refused : (c : Coordinator) (id : ServerId) (pair : Pair) → is_up c.servers id ≡ false →
    commits_pair c id pair ≡ (c, refuses_server id Deposed ∷ [])
commit-refused c id pair isn't = rw isn't refl

pub recovered-refused : (c : Coordinator) (id : ServerId) (number term : ℕ) → is_up c.servers id ≡ false →
    takes_recovered c id number term ≡ (c, refuses_server id Deposed ∷ [])
recovered-refused c id number term isn't = rw isn't refl

-- in a stale attempt nothing new is granted
pub stale-refused : (c : Coordinator) (id : ServerId) (number term : ℕ) (attempt : Attempt) → is_up c.servers id ≡ true →
    grant_to c id term ≡ None → attempt_at c number ≡ Some attempt → is_current c number attempt ≡ false →
    takes_recovered c id number term ≡ (c, refuses_server id StaleAttempt ∷ [])
stale-refused c id number term attempt is fresh at stale = search arith
