use Rattle.std.proofs.Common.{◌∙◌, sym, ap, option_map}
use Rattle.rc_master.specs.Data.{master_of}
use Rattle.rc_world.specs.HostView.{HostData}
use Rattle.rc_world.proofs.host.Host.take.Goals as goal

pub take-requires : goal.take-requires
take-requires c =
    c.requires.versions (master_of c.in-Some.master)
    (sym (ap (λ (h : HostData). option_map master_of h.master) c.self.view_is) ∙ ap (option_map master_of) c.in-Some.is)
