-- What a host's master does is what the host does.
use Rattle.std.proofs.Common.{◌≡◌, ◌∙◌, ◌↔◌, ◌-◌, ◌^◌, ◌<◌, Bool, true, subst, unwrap_or, Option, Some, None}
use Rattle.std.proofs.Common.{Result, Ok, Err, OnOk, OnErr, refl, sym, ap, option_map}
use Rattle.rc_model.specs.Model.{ticks_if_running, Master, master_ticks}
use Rattle.rc_master.specs.Data.{MasterData, master_of}
use Rattle.rc_master.specs.Numbers.{HasVersions}
use Rattle.rc_world.specs.HostView.{HostData, HostHasRoom, host_of}

one_tick : (host : HostData) (was now : MasterData) → host.master ≡ Some was → master_of now ≡ (master_ticks (master_of was)).0 →
    host_of (record host { master = Some now }) ≡ (ticks_if_running (host_of host) (option_map master_of host.master)).0
one_tick host was now is h = rw is (ap (λ (m : Master). record (host_of host) { master = Some m }) h)

no_tick : (host : HostData) → host.master ≡ None → host_of host ≡ (ticks_if_running (host_of host) (option_map master_of host.master)).0
no_tick host none = rw none refl

-- its timer goes off
pub ticked : {T E : Type 0} (result r : Result T E) (host seen after : HostData) (was now : MasterData) → result ≡ r → host ≡ seen →
    after ≡ record host { master = Some now } → host.master ≡ Some was → OnOk r (master_of now ≡ (master_ticks (master_of was)).0) →
    OnOk result (host_of after ≡ (ticks_if_running (host_of seen) (option_map master_of seen.master)).0)
ticked result (Ok x) host seen after was now e same gone is h = rw (e, gone, ← same) (one_tick host was now is h)
ticked result (Err x) host seen after was now e same gone is h = rw e tt

-- where none runs, nothing happens
pub idle : {T E : Type 0} (result : Result T E) (x : T) (host seen after : HostData) → result ≡ Ok x → host ≡ seen →
    after ≡ host → host.master ≡ None →
    OnOk result (host_of after ≡ (ticks_if_running (host_of seen) (option_map master_of seen.master)).0)
idle result x host seen after e same gone none = rw (e, gone, ← same) (no_tick host none)

one_left : (host : HostData) (was now : MasterData) → host.master ≡ Some was → master_of now ≡ master_of was →
    host_of (record host { master = Some now }) ≡ host_of host
one_left host was now is h =
    ap (λ (m : Option Master). record (host_of host) { master = m }) (ap Some h ∙ sym (ap (option_map master_of) is))

-- a master that has no memory for it is as it was, and so is the host
pub left : {T E : Type 0} (result r : Result T E) (host seen after : HostData) (was now : MasterData) → result ≡ r → host ≡ seen →
    after ≡ record host { master = Some now } → host.master ≡ Some was → OnErr r (master_of now ≡ master_of was) →
    OnErr result (host_of after ≡ host_of seen)
left result (Ok x) host seen after was now e same gone is h = rw e tt
left result (Err x) host seen after was now e same gone is h = rw (e, gone, ← same) (one_left host was now is h)

pub never : {T E : Type 0} (P : Type 0) (result : Result T E) (x : T) → result ≡ Ok x → OnErr result P
never P result x e = rw e tt

-- a host on which a master runs has room where its generation and its master have
pub room-of-running : (host : HostData) (master : MasterData) (tells : Bool) → host.master ≡ Some master →
    host.generation < 2 ^ 32 - 1 → (tells ≡ true) ↔ HasVersions (master_of master) →
    (tells ≡ true) ↔ HostHasRoom (host_of host)
room-of-running host master tells is generation room = (
  λ yes. record {
    generation = generation;
    versions = λ (other : Master) same.
        subst HasVersions
        (ap (λ (o : Option Master). unwrap_or o (master_of master)) (sym (ap (option_map master_of) is) ∙ same))
        (room.0 yes);
  },
  λ has. room.1 (has.versions (master_of master) (ap (option_map master_of) is)),
)
