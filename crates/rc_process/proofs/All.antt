-- All calls, one after another.
use Rattle.std.proofs.Common.{◌≡◌, ◌≤◌, List, [], ◌∷◌, ◌++◌, refl, sym, ap, ◌∙◌, subst, arith}
use Rattle.std.proofs.lemmas.List.{append-nil}
use Rattle.rc_types.specs.declared.events.Setup.{Setup}
use Rattle.rc_model.specs.World.{NodeName}
use Rattle.rc_history.specs.Nodes.{new_node}
use Rattle.rc_history.specs.Lives.{SameNode}
use Rattle.rc_history.specs.Processes.{Processes, new_process, new_processes}
use Rattle.rc_history.proofs.Global.{name-new}
use Rattle.rc_keeping.specs.Saved.{save_of}
use Rattle.rc_keeping.proofs.Anew.{saves-stand, same-itself}
use Rattle.rc_process.specs.View.{ProcessView}
use Rattle.rc_process.specs.Running.{Running, Machine, IsFirst, IsNew, Call, Asks, Gives, Syncs, Leave, BeginsSave, EndsSave}
use Rattle.rc_process.specs.Running.{ComesBack}
use Rattle.rc_process.specs.Running.{Called, AllCalled, CallsAreLives}
use Rattle.rc_process.proofs.Places.{place, place-none}
use Rattle.rc_process.proofs.Simulated.{IsRunning, Simulated}
use Rattle.rc_process.proofs.Calls.{gives-simulated, syncs-simulated, leaves-simulated, saving-simulated, moved-simulated, asks-simulated}
use Rattle.rc_process.proofs.Returning.{returns-simulated}

first-runs : (setup : Setup) (name : NodeName) (r : Running) → IsFirst setup name r → IsRunning setup name r (new_process setup name) []
first-runs setup name r f =
    let bytes : r.file ≡ save_of f.saved.saved ++ [] = f.saved.written ∙ sym (append-nil (save_of f.saved.saved)) in
    let none : place 0 f.saved.saved [] 0 ≤ 0 = place-none 0 f.saved.saved [] in
    subst (λ (q : ProcessView). IsRunning setup name (record { process = q; file = r.file; second = r.second; safe = r.safe })
    (new_process setup name) []) (sym f.is) (record {
      saved = f.saved.saved;
      before = [];
      works = [];
      stands =
          saves-stand setup name f.node f.saved.saved [] f.saved.its
          (subst (SameNode (new_node setup name)) (sym f.new) (same-itself (new_node setup name)));
      bytes = bytes;
      node = refl;
      named = name-new setup name;
      written = refl;
      started = none;
      early = omega arith;
      safe = omega arith;
      known = omega arith;
      held = λ held at. absurd at;
      second = λ saving e. absurd cc;
    })

first-simulated : (setup : Setup) (first : Machine) → IsNew setup first → Simulated setup first
first-simulated setup first is = record {
  all = new_processes setup;
  reached = record { happenings = []; may = tt; is = refl };
  left = sym is.none;
  running = λ name has. first-runs setup name (first.at name) (is.first name has);
}

call-simulated : (setup : Setup) (old new : Machine) (call : Call) → Called old call new → Simulated setup old → Simulated setup new
call-simulated setup old new (Asks to body) is sim = asks-simulated setup old new to body is sim
call-simulated setup old new (Gives name work) is sim = gives-simulated setup old new name work is.0 is.1 sim
call-simulated setup old new (Syncs name count) is sim = syncs-simulated setup old new name count is.0 is.1 sim
call-simulated setup old new (Leave name messages) is sim = leaves-simulated setup old new name messages is.0 is.1 sim
call-simulated setup old new (BeginsSave name) is sim = saving-simulated setup old new name is.0 is.1 sim
call-simulated setup old new (EndsSave name) is sim = moved-simulated setup old new name is.0 is.1 sim
call-simulated setup old new (ComesBack name left) is sim = returns-simulated setup old new name left is.0 is.1 sim

all-simulated : (setup : Setup) (old new : Machine) (calls : List Call) → AllCalled old calls new → Simulated setup old →
    Simulated setup new
all-simulated setup old new [] is sim = subst (Simulated setup) is sim
all-simulated setup old new (call ∷ calls) is sim =
    all-simulated setup is.0 new calls is.2 (call-simulated setup old is.0 call is.1 sim)

pub calls-are-lives : CallsAreLives
calls-are-lives setup first calls now new called =
    let sim : Simulated setup now = all-simulated setup first now calls called (first-simulated setup first new) in
    record {
      happenings = sim.reached.happenings;
      may = sim.reached.may;
      left = ap (λ (a : Processes). a.left) sim.reached.is ∙ sim.left;
      nodes = λ name has. ap (λ (a : Processes). (a.at name).life.node) sim.reached.is ∙ sym (sim.running name has).node;
    }
