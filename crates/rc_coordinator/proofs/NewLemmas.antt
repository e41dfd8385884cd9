-- A coordinator before anything has happened.
use Rattle.std.proofs.Common.{◌≡◌, ℕ, Bool, false, List, [], ap, ◌∙◌}
use Rattle.std.proofs.Math.Path.{fun_ext}
use Rattle.rc_model.specs.Model.{ServerId, Pair, Tablet, Grant, ServerList, no_servers, Attempt, new_coordinator}
use Rattle.rc_model.specs.Coordinator.{Coordinator}

abbrev pub coordinator_with : ServerList → (ServerId → Bool) → List Tablet → (ServerId → Pair) → List Attempt →
    (ServerId → ℕ) → List Grant → Coordinator
coordinator_with servers ready tablets least attempts current grants = record {
  servers = servers;
  ready = ready;
  tablets = tablets;
  least = least;
  attempts = attempts;
  current = current;
  grants = grants;
  last_term = 0;
}

-- that knows nobody, has nothing and has begun nothing
pub new-is : (servers : ServerList) (ready : ServerId → Bool) (tablets : List Tablet) (least : ServerId → Pair)
    (attempts : List Attempt) (current : ServerId → ℕ) (grants : List Grant) → servers ≡ no_servers →
    ((id : ServerId) → ready id ≡ false) → tablets ≡ [] →
    ((master : ServerId) → least master ≡ record { seg = 0; epoch = 0 }) → attempts ≡ [] →
    ((master : ServerId) → current master ≡ 0) → grants ≡ [] →
    coordinator_with servers ready tablets least attempts current grants ≡ new_coordinator
new-is servers ready tablets least attempts current grants nobody nobody_ready no_tablets no_least none no_current no_grants =
    ap (λ s. coordinator_with s ready tablets least attempts current grants) nobody
    ∙ ap (λ r. coordinator_with no_servers r tablets least attempts current grants) (fun_ext nobody_ready)
    ∙ ap (λ t. coordinator_with no_servers (λ _. false) t least attempts current grants) no_tablets
    ∙ ap (λ l. coordinator_with no_servers (λ _. false) [] l attempts current grants) (fun_ext no_least)
    ∙ ap (λ a. coordinator_with no_servers (λ _. false) [] (λ _. record { seg = 0; epoch = 0 }) a current grants) none
    ∙ ap (λ n. coordinator_with no_servers (λ _. false) [] (λ _. record { seg = 0; epoch = 0 }) [] n grants) (fun_ext no_current)
    ∙ ap (λ g. coordinator_with no_servers (λ _. false) [] (λ _. record { seg = 0; epoch = 0 }) [] (λ _. 0) g) no_grants
