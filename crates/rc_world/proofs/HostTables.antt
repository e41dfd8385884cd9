-- Hosts in a map, as the definitions see them.
use Rattle.std.proofs.Common.{◌≡◌, ℕ, Bool, true, false, cond, nat_eq, Option, Some, IsSome, Result, Ok, Err, OnOk}
use Rattle.std.proofs.Common.{OnErr, refl, ap, ◌∙◌, arith}
use Rattle.std.proofs.Math.Path.{fun_ext}
use Rattle.std.proofs.lemmas.Bool.Decides.{nat_tests}
use Rattle.indexmap.specs.IndexMap.{get, UpdatesBy}
use Rattle.rc_model.specs.Model.{Setup, put, HostNode}
use Rattle.rc_world.specs.HostView.{HostData, host_of}
use Rattle.rc_world.specs.WorldView.{Hosts, host_at, hosts_of}

-- the map has this host at this index, and else what it had
abbrev pub HasPut : Hosts → ℕ → HostData → Hosts → Type 0
HasPut old k host new = (i : ℕ) → get nat_eq new i ≡ cond (nat_eq k i) (Some host) (get nat_eq old i)

chosen : (setup : Setup) (i : ℕ) (b : Bool) (host : HostData) (other : Option HostData) →
    host_at setup i (cond b (Some host) other) ≡ cond b (host_of host) (host_at setup i other)
chosen setup i true host other = refl
chosen setup i false host other = refl

-- a host that is written takes its own place, and no other
pub hosts_of-put : (setup : Setup) (old new : Hosts) (k : ℕ) (host : HostData) → HasPut old k host new →
    hosts_of setup new ≡ put (hosts_of setup old) k (host_of host)
hosts_of-put setup old new k host h = fun_ext (λ i. ap (host_at setup i) (h i) ∙ chosen setup i (nat_eq k i) host (get nat_eq old i))

-- what stands in a table already, put there, changes nothing
pub put-same : {V : Type 0} (table : ℕ → V) (k : ℕ) (v : V) → v ≡ table k → put table k v ≡ table
put-same table k v is = fun_ext (λ i. at i (nat_eq k i) refl)
  where
    at : (i : ℕ) (b : Bool) → nat_eq k i ≡ b → cond b v (table i) ≡ table i
    at i false other = refl
    at i true same = let here : k ≡ i = grind (arith, nat_tests) in is ∙ ap table here

-- the host that the map has at the index is written
pub written : (setup : Setup) (old new : Hosts) (k : ℕ) (was now : HostData) → get nat_eq old k ≡ Some was →
    (IsSome (get nat_eq old k) → UpdatesBy nat_eq (nat_eq k) old new (Some now)) →
    hosts_of setup new ≡ put (hosts_of setup old) k (host_of now)
written setup old new k was now found writes =
    let there : IsSome (get nat_eq old k) = rw found refl in
    hosts_of-put setup old new k now (writes there).0

pub there-at : (setup : Setup) (hosts : Hosts) (k : ℕ) (was : HostData) → get nat_eq hosts k ≡ Some was →
    host_of was ≡ hosts_of setup hosts k
there-at setup hosts k was found = rw found refl

-- a host that has taken a step
pub stepped : (F : HostNode → HostNode) (setup : Setup) (old new : Hosts) (k : ℕ) (was now : HostData) → get nat_eq old k ≡ Some was →
    (IsSome (get nat_eq old k) → UpdatesBy nat_eq (nat_eq k) old new (Some now)) → host_of now ≡ F (host_of was) →
    hosts_of setup new ≡ put (hosts_of setup old) k (F (hosts_of setup old k))
stepped F setup old new k was now found writes step =
    written setup old new k was now found writes ∙ ap (put (hosts_of setup old) k) (step ∙ ap F (there-at setup old k was found))

-- a host that is as it was
pub left : (setup : Setup) (old new : Hosts) (k : ℕ) (was now : HostData) → get nat_eq old k ≡ Some was →
    (IsSome (get nat_eq old k) → UpdatesBy nat_eq (nat_eq k) old new (Some now)) → host_of now ≡ host_of was →
    hosts_of setup new ≡ hosts_of setup old
left setup old new k was now found writes same =
    written setup old new k was now found writes ∙ put-same (hosts_of setup old) k (host_of now) (same ∙ there-at setup old k was found)

-- what follows from a fact of an Ok is one of it too, and likewise of an Err
pub OnOk-then : {T E : Type 0} {P Q : Type 0} (r : Result T E) → (P → Q) → OnOk r P → OnOk r Q
OnOk-then (Ok x) f p = f p
OnOk-then (Err e) f p = p

pub OnOk-always : {T E : Type 0} {P : Type 0} (r : Result T E) → P → OnOk r P
OnOk-always (Ok x) p = p
OnOk-always (Err e) p = tt

pub OnErr-then : {T E : Type 0} {P Q : Type 0} (r : Result T E) → (P → Q) → OnErr r P → OnErr r Q
OnErr-then (Ok x) f p = p
OnErr-then (Err e) f p = f p
