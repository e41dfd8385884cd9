-- A process of the code on its disk is a process of the definitions, and all of them are lives.
use Rattle.std.proofs.Common.{◌≡◌, ◌≤◌, ◌+◌, ℕ, Bool, true, false, cond, List, [], ◌∷◌, ◌++◌, length, Some}
use Rattle.std.proofs.Common.{refl, sym, ap, ◌∙◌, subst}
use Rattle.rc_types.specs.declared.events.Setup.{Setup}
use Rattle.rc_types.specs.declared.events.NodeWork.{NodeWork}
use Rattle.rc_types.specs.declared.messages.Message.{Message}
use Rattle.rc_model.specs.Headline.{In}
use Rattle.rc_model.specs.World.{NodeName, same_node}
use Rattle.rc_model.proofs.Ids.{same_node-true}
use Rattle.rc_history.specs.Nodes.{name_of}
use Rattle.rc_keeping.specs.Saved.{Saved, save_of}
use Rattle.rc_history.specs.Processes.{Deed, Process, Processes, Happening, new_processes, with_process, after, after_all, May, MayAll}
use Rattle.rc_history.proofs.Global.{Goes, goes-all, goes-new}
use Rattle.rc_keeping.specs.Files.{file_of}
use Rattle.rc_keeping.specs.Standing.{StandsFor}
use Rattle.rc_process.specs.declared.saving.Saving.{Saving}
use Rattle.rc_process.specs.View.{Held}
use Rattle.rc_process.specs.Running.{Running, Machine, with_running, HasJournal}
use Rattle.rc_process.proofs.Places.{place}

-- what is held back was sent by something that was done, and waits for no less than that rests on
pub record Waits (name : NodeName) (before : ℕ) (saved : Saved) (works : List NodeWork) (journal : List NodeWork) (done : List Deed)
    (held : Held) : Type 0 where
  pub deed : Deed
  pub among : In deed done
  pub node : deed.node ≡ name
  pub sent : deed.sent ≡ held.1
  pub rests : place before saved works deed.rests ≤ held.0
  pub within : deed.rests ≤ length journal

-- the second file stands for the same journal, of which its save stands for the works up to the cut
pub record HasSecond (setup : Setup) (name : NodeName) (second : List ℕ) (journal : List NodeWork) (saved : Saved) (before : ℕ)
    (works : List NodeWork) (saving : Saving) : Type 0 where
  pub save : Saved
  pub all : List NodeWork
  pub earlier : List NodeWork
  pub later : List NodeWork
  pub stands : StandsFor setup name save all later journal
  pub bytes : second ≡ file_of save later
  pub parts : works ≡ earlier ++ later
  pub sum : length all ≡ before + length earlier
  pub cut : saving.cut ≡ length (file_of saved earlier)
  pub size : saving.size ≡ length (save_of save)

pub record IsRunning (setup : Setup) (name : NodeName) (running : Running) (p : Process) (done : List Deed) : Type 0 where
  pub saved : Saved
  pub before : List NodeWork
  pub works : List NodeWork
  pub stands : StandsFor setup name saved before works p.life.journal
  pub bytes : running.file ≡ file_of saved works
  pub node : running.process.node ≡ p.life.node
  pub named : name_of p.life.node ≡ name
  pub written : running.process.written ≡ length running.file
  pub started : place (length before) saved works p.life.started ≤ running.process.started
  pub early : p.life.started ≤ length p.life.journal
  pub safe : place (length before) saved works p.safe ≤ running.safe
  pub known : running.process.safe ≤ running.safe
  pub held : (held : Held) → In held running.process.held → Waits name (length before) saved works p.life.journal done held
  pub second : (saving : Saving) → running.process.saving ≡ Some saving →
      HasSecond setup name running.second p.life.journal saved (length before) works saving

-- the deeds of a name stay
abbrev pub Stay : NodeName → List Deed → List Deed → Type 0
Stay name done more = (deed : Deed) → deed.node ≡ name → In deed done → In deed more

waits-more : (name : NodeName) (before : ℕ) (saved : Saved) (works : List NodeWork) (journal : List NodeWork) (done more : List Deed)
    (held : Held) → Stay name done more → Waits name before saved works journal done held →
    Waits name before saved works journal more held
waits-more name before saved works journal done more held stay w = record {
  deed = w.deed;
  among = stay w.deed w.node w.among;
  node = w.node;
  sent = w.sent;
  rests = w.rests;
  within = w.within;
}

pub running-more : (setup : Setup) (name : NodeName) (running : Running) (p : Process) (done more : List Deed) → Stay name done more →
    IsRunning setup name running p done → IsRunning setup name running p more
running-more setup name running p done more stay is = record {
  saved = is.saved;
  before = is.before;
  works = is.works;
  stands = is.stands;
  bytes = is.bytes;
  node = is.node;
  named = is.named;
  written = is.written;
  started = is.started;
  early = is.early;
  safe = is.safe;
  known = is.known;
  held = λ held at. waits-more name (length is.before) is.saved is.works p.life.journal done more held stay (is.held held at);
  second = is.second;
}

-- reached by happenings that were possible
pub record Reached (setup : Setup) (all : Processes) : Type 0 where
  pub happenings : List Happening
  pub may : MayAll setup (new_processes setup) happenings
  pub is : after_all setup (new_processes setup) happenings ≡ all

after-push : (setup : Setup) (first : Processes) (happenings : List Happening) (one : Happening) →
    after_all setup first (happenings ++ one ∷ []) ≡ after setup (after_all setup first happenings) one
after-push setup first [] one = refl
after-push setup first (h ∷ happenings) one = after-push setup (after setup first h) happenings one

may-push : (setup : Setup) (first : Processes) (happenings : List Happening) (one : Happening) → MayAll setup first happenings →
    May (after_all setup first happenings) one → MayAll setup first (happenings ++ one ∷ [])
may-push setup first [] one may it = (it, tt)
may-push setup first (h ∷ happenings) one may it = (may.0, may-push setup (after setup first h) happenings one may.1 it)

pub reach : (setup : Setup) (all : Processes) (one : Happening) → Reached setup all → May all one → Reached setup (after setup all one)
reach setup all one reached may = record {
  happenings = reached.happenings ++ one ∷ [];
  may = may-push setup (new_processes setup) reached.happenings one reached.may
      (subst (λ (a : Processes). May a one) (sym reached.is) may);
  is = after-push setup (new_processes setup) reached.happenings one ∙ ap (λ (a : Processes). after setup a one) reached.is;
}

pub goes-reached : (setup : Setup) (all : Processes) → Reached setup all → Goes setup all
goes-reached setup all reached =
    subst (Goes setup) reached.is (goes-all setup (new_processes setup) reached.happenings goes-new reached.may)

abbrev pub AllRunning : Setup → (NodeName → Running) → Processes → Type 0
AllRunning setup at all = (name : NodeName) → HasJournal name → IsRunning setup name (at name) (all.at name) all.done

pub record Simulated (setup : Setup) (machine : Machine) : Type 0 where
  pub all : Processes
  pub reached : Reached setup all
  pub left : all.left ≡ machine.left
  pub running : AllRunning setup machine.at all

-- one process has changed
pub put-one : (setup : Setup) (at : NodeName → Running) (all : Processes) (name : NodeName) (running : Running) (p : Process)
    (done : List Deed) (left : List Message) → IsRunning setup name running p done →
    ((other : NodeName) → same_node name other ≡ false → Stay other all.done done) → AllRunning setup at all →
    AllRunning setup (with_running at name running) (record { at = with_process all.at name p; done = done; left = left })
put-one setup at all name running p done left is stay old other has = by (same_node name other) refl
  where
    by : (b : Bool) → same_node name other ≡ b → IsRunning setup other (cond b running (at other)) (cond b p (all.at other)) done
    by true e = subst (λ (n : NodeName). IsRunning setup n running p done) (same_node-true name other e) is
    by false e = running-more setup other (at other) (all.at other) all.done done (stay other e) (old other has)

-- a process has changed that is the same in the definitions
pub keep-one : (setup : Setup) (at : NodeName → Running) (all : Processes) (name : NodeName) (running : Running) →
    IsRunning setup name running (all.at name) all.done → AllRunning setup at all → AllRunning setup (with_running at name running) all
keep-one setup at all name running is old other has = by (same_node name other) refl
  where
    by : (b : Bool) → same_node name other ≡ b → IsRunning setup other (cond b running (at other)) (all.at other) all.done
    by true e = subst (λ (n : NodeName). IsRunning setup n running (all.at n) all.done) (same_node-true name other e) is
    by false e = old other has
