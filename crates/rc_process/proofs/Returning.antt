-- A process that has ended, and comes back.
use Rattle.std.proofs.Common.{◌≡◌, ◌≤◌, ◌<◌, ◌+◌, ◌-◌, ℕ, Bool, true, false, cond, min, nat_le, List, []}
use Rattle.std.proofs.Common.{◌∷◌, ◌++◌, length, filter, take}
use Rattle.std.proofs.Common.{drop, refl, sym, ap, ◌∙◌, subst, arith, Some, None, ◌⊎◌, inl, inr}
use Rattle.std.proofs.Math.Nat.{le-min}
use Rattle.std.proofs.lemmas.List.{append-nil, take_at, length-take-le, take-append-drop}
use Rattle.rc_types.specs.declared.events.Setup.{Setup}
use Rattle.rc_types.specs.declared.events.NodeWork.{NodeWork}
use Rattle.rc_types.specs.declared.events.NodeWork.TheVariants as work
use Rattle.rc_model.specs.Nodes.{HostNode, runs}
use Rattle.rc_model.specs.World.{NodeName, TheOutside, same_node}
use Rattle.rc_model.proofs.Tests.{true_false}
use Rattle.rc_model.proofs.Ids.{same_node-true, same_node-refl}
use Rattle.rc_model.proofs.Members.{In-left, filter-In}
use Rattle.rc_history.specs.Nodes.{Node, new_node, name_of}
use Rattle.rc_history.specs.Nodes as node
use Rattle.rc_history.specs.Remade.{SameButMaster}
use Rattle.rc_world.specs.NodeView.{node_seen}
use Rattle.rc_history.specs.Lives.{Life, life_next, life_after, node_after, stops, remade, SameNode}
use Rattle.rc_history.specs.Processes.{Deed, deed_of, Process, Processes, Falls, MayBeLeft, after, fallen, stop_deeds, is_left}
use Rattle.rc_history.proofs.Global.{Goes}
use Rattle.rc_keeping.specs.Saved.{Saved, node_from}
use Rattle.rc_keeping.specs.Files.{file_of, IsLeft, GivesBack}
use Rattle.rc_keeping.specs.Standing.{StandsFor, node_given}
use Rattle.rc_keeping.proofs.Anew.{files-make-anew, fewer-stand, stops-make-equal, same-itself, name-after, name-new}
use Rattle.rc_keeping.proofs.Back.{what-is-left, le_or_lt}
use Rattle.rc_process.specs.View.{ProcessView, written_down, given, ended, end_written, IsReplayed, IsBack}
use Rattle.rc_process.specs.Running.{Running, Machine, HasJournal, MayStand, First, Second, HasComeBack}
use Rattle.rc_process.proofs.Places.{place, place-within, place-push, place-above, place-none, place-moved, journal-size}
use Rattle.rc_process.proofs.Simulated.{HasSecond, IsRunning, Stay, reach, goes-reached, Simulated, put-one}
use Rattle.rc_process.proofs.Giving.{given-runs}

-- a process of which nothing is held back, and nothing safe
abbrev bare : Node → ℕ → ProcessView
bare n written = record { node = n; written = written; started = 0; safe = 0; held = []; saving = None }

abbrev bare_at : Node → ℕ → List ℕ → ℕ → Running
bare_at n written file safe = record { process = bare n written; file = file; second = []; safe = safe }

abbrev bare_life : Node → List NodeWork → ℕ → Process
bare_life n journal safe = record { life = record { node = n; journal = journal; started = 0 }; safe = safe }

bare-runs : (setup : Setup) (name : NodeName) (n : Node) (saved : Saved) (before journal : List NodeWork) (works : List NodeWork)
    (file : List ℕ) (written safe known : ℕ) (done : List Deed) → name_of n ≡ name → StandsFor setup name saved before works journal →
    file ≡ file_of saved works → written ≡ length file → place (length before) saved works known ≤ safe →
    IsRunning setup name (bare_at n written file safe) (bare_life n journal known) done
bare-runs setup name n saved before journal works file written safe known done named stands bytes long early = record {
  saved = saved;
  before = before;
  works = works;
  stands = stands;
  bytes = bytes;
  node = refl;
  named = named;
  written = long;
  started = place-none (length before) saved works;
  early = omega arith;
  safe = early;
  known = omega arith;
  held = λ held at. absurd at;
  second = λ saving e. absurd cc;
}

-- where no save is made the second file doesn't matter
any-second : (setup : Setup) (name : NodeName) (process : ProcessView) (file one other : List ℕ) (safe : ℕ) (p : Process)
    (done : List Deed) →
    process.saving ≡ None → IsRunning setup name (record { process = process; file = file; second = one; safe = safe }) p done →
    IsRunning setup name (record { process = process; file = file; second = other; safe = safe }) p done
any-second setup name process file one other safe p done none is = record {
  saved = is.saved;
  before = is.before;
  works = is.works;
  stands = is.stands;
  bytes = is.bytes;
  node = is.node;
  named = is.named;
  written = is.written;
  started = is.started;
  early = is.early;
  safe = is.safe;
  known = is.known;
  held = is.held;
  second = λ saving e. let no : None ≡ Some saving = sym none ∙ e in absurd cc;
}

-- A host

idle-same : (one other : HostNode) → SameButMaster one other → runs one ≡ false → node.TheHost one ≡ node.TheHost other
idle-same one other same e =
    sym (ap (λ b. node_after (node.TheHost one) (cond b (work.Stop ∷ []) [])) e)
    ∙ (stops-make-equal (node.TheHost one) (node.TheHost other) same
    ∙ ap (λ b. node_after (node.TheHost other) (cond b (work.Stop ∷ []) [])) (sym same.runs ∙ e))

abbrev HostEnds : Setup → NodeName → HostNode → HostNode → List NodeWork → List ℕ → ℕ → ℕ → ℕ → List Deed → Bool → Bool → Type 0
HostEnds setup name one other journal file written safe known done b c =
    let life : Life = record { node = node.TheHost other; journal = journal; started = 0 } in
    IsRunning setup name (record {
      process = cond b (given (bare (node.TheHost one) written) work.Stop) (bare (node.TheHost one) written);
      file = file ++ cond b (written_down (node.TheHost one) work.Stop) [];
      second = [];
      safe = safe;
    }) (record { life = life_after name life (cond c (work.Stop ∷ []) []); safe = known })
    (done ++ stop_deeds name life (cond c (work.Stop ∷ []) []))

-- after a stop it is the same which of two hosts was given it
stop-given : (one other : HostNode) (written : ℕ) → SameButMaster one other →
    given (bare (node.TheHost other) written) work.Stop ≡ given (bare (node.TheHost one) written) work.Stop
stop-given one other written same = ap (λ (h : HostNode). record {
  node = node.TheHost h;
  written = written + length (written_down (node.TheHost one) work.Stop);
  started = 0;
  safe = 0;
  held = (written + length (written_down (node.TheHost one) work.Stop), []) ∷ [];
  saving = None;
}) (sym same.rest)

host-ends : (setup : Setup) (name : NodeName) (one other : HostNode) (saved : Saved) (before journal works : List NodeWork)
    (file : List ℕ) (written safe known : ℕ) (done : List Deed) → SameButMaster one other → name_of (node.TheHost other) ≡ name →
    StandsFor setup name saved before works journal → SameNode (node_after (new_node setup name) journal) (node.TheHost other) →
    file ≡ file_of saved works → written ≡ length file → place (length before) saved works known ≤ safe → known ≤ length journal →
    (b : Bool) → runs one ≡ b → HostEnds setup name one other journal file written safe known done b b
host-ends setup name one other saved before journal works file written safe known done same named stands made bytes long early within true
    e =
    let base : IsRunning setup name (bare_at (node.TheHost other) written file safe) (bare_life (node.TheHost other) journal known) done =
    bare-runs setup name (node.TheHost other) saved before journal works file written safe known done named stands bytes long early in
    subst (λ (q : ProcessView). IsRunning setup name (record {
      process = q;
      file = file ++ written_down (node.TheHost one) work.Stop;
      second = [];
      safe = safe;
    }) (record { life = life_next name (bare_life (node.TheHost other) journal known).life work.Stop; safe = known })
    (done ++ deed_of name (bare_life (node.TheHost other) journal known).life work.Stop ∷ []))
    (stop-given one other written same)
    (any-second setup name (given (bare (node.TheHost other) written) work.Stop) (file ++ written_down (node.TheHost other) work.Stop)
    ([] ++ written_down (node.TheHost other) work.Stop) [] safe
    (record { life = life_next name (bare_life (node.TheHost other) journal known).life work.Stop; safe = known })
    (done ++ deed_of name (bare_life (node.TheHost other) journal known).life work.Stop ∷ []) refl
    (given-runs setup name (bare_at (node.TheHost other) written file safe) (bare_life (node.TheHost other) journal known) done work.Stop
    base within made (sym same.runs ∙ e)))
host-ends setup name one other saved before journal works file written safe known done same named stands made bytes long early within
    false e =
    subst (λ (n : Node). IsRunning setup name (bare_at n written (file ++ []) safe) (bare_life (node.TheHost other) journal known)
    (done ++ []))
    (sym (idle-same one other same e))
    (subst (λ l. IsRunning setup name (bare_at (node.TheHost other) written l safe) (bare_life (node.TheHost other) journal known)
    (done ++ []))
    (sym (append-nil file))
    (subst (λ d. IsRunning setup name (bare_at (node.TheHost other) written file safe) (bare_life (node.TheHost other) journal known) d)
    (sym (append-nil done))
    (bare-runs setup name (node.TheHost other) saved before journal works file written safe known done named stands bytes long early)))

-- Each node

abbrev Ends : Setup → NodeName → Node → Node → List NodeWork → List ℕ → ℕ → ℕ → ℕ → List Deed → Type 0
Ends setup name one other journal file written safe known done =
    let life : Life = record { node = other; journal = journal; started = 0 } in
    IsRunning setup name (record {
      process = ended (bare one written);
      file = file ++ end_written (bare one written);
      second = [];
      safe = safe;
    }) (record { life = life_after name life (stops other); safe = known }) (done ++ stop_deeds name life (stops other))

ends : (setup : Setup) (name : NodeName) (one other : Node) (saved : Saved) (before journal : List NodeWork) (works : List NodeWork)
    (file : List ℕ) (written safe known : ℕ) (done : List Deed) → HasJournal name → SameNode one other → name_of other ≡ name →
    StandsFor setup name saved before works journal → SameNode (node_after (new_node setup name) journal) other →
    file ≡ file_of saved works → written ≡ length file → place (length before) saved works known ≤ safe → known ≤ length journal →
    Ends setup name one other journal file written safe known done
ends setup name (node.TheHost one) (node.TheHost other) saved before journal works file written safe known done has same named stands made
    bytes long early within =
    subst (λ c. HostEnds setup name one other journal file written safe known done (runs one) c) same.runs
    (host-ends setup name one other saved before journal works file written safe known done same named stands made bytes long early within
    (runs one) refl)
ends setup name (node.TheCoordinator c) (node.TheCoordinator d) saved before journal works file written safe known done has same named
    stands made bytes long early within =
    subst (λ (n : Node). IsRunning setup name (bare_at n written (file ++ []) safe) (bare_life (node.TheCoordinator d) journal known)
    (done ++ []))
    (sym (ap node.TheCoordinator same))
    (subst (λ l. IsRunning setup name (bare_at (node.TheCoordinator d) written l safe) (bare_life (node.TheCoordinator d) journal known)
    (done ++ []))
    (sym (append-nil file))
    (subst (λ l. IsRunning setup name (bare_at (node.TheCoordinator d) written file safe)
    (bare_life (node.TheCoordinator d) journal known) l)
    (sym (append-nil done))
    (bare-runs setup name (node.TheCoordinator d) saved before journal works file written safe known done named stands bytes long early)))
ends setup name node.TheOutside node.TheOutside saved before journal works file written safe known done has same named stands made bytes
    long early within =
    let no : HasJournal TheOutside = subst HasJournal (sym named) has in absurd no
ends setup name node.TheOutside (node.TheCoordinator d) saved before journal works file written safe known done has same named stands made
    bytes long early within = absurd same
ends setup name node.TheOutside (node.TheHost d) saved before journal works file written safe known done has same named stands made bytes
    long early within = absurd same
ends setup name (node.TheCoordinator c) node.TheOutside saved before journal works file written safe known done has same named stands made
    bytes long early within = absurd same
ends setup name (node.TheCoordinator c) (node.TheHost d) saved before journal works file written safe known done has same named stands
    made bytes long early within = absurd same
ends setup name (node.TheHost c) node.TheOutside saved before journal works file written safe known done has same named stands made bytes
    long early within = absurd same
ends setup name (node.TheHost c) (node.TheCoordinator d) saved before journal works file written safe known done has same named stands
    made bytes long early within = absurd same

-- From what is left of a file

record Returns (setup : Setup) (name : NodeName) (all : Processes) (running : Running) : Type 0 where
  count : ℕ
  may : MayBeLeft (all.at name) count
  runs : IsRunning setup name running
      (record { life = remade setup name (take count (all.at name).life.journal); safe = (all.at name).safe })
      (fallen setup name count all).done

-- what is safe is left
safe-kept : (before : ℕ) (saved : Saved) (works : List NodeWork) (known safe count : ℕ) → known ≤ before + length works →
    place before saved works known ≤ safe →
    ((k : ℕ) → k ≤ length works → length (file_of saved (take k works)) ≤ safe → k ≤ count) → known ≤ before + count
safe-kept before saved works known safe count within early less = by (le_or_lt known before)
  where
    by : (known ≤ before) ⊎ (before < known) → known ≤ before + count
    by (inl h) = omega arith
    by (inr h) =
        let e : place before saved works known
        ≡ length (file_of saved (take (known - before) works)) = place-above before saved works known h in
        let l : known - before ≤ count = less (known - before) (omega arith) (omega arith) in
        omega arith

returns-from : (setup : Setup) (name : NodeName) (all : Processes) (saved : Saved) (before : List NodeWork) (works : List NodeWork)
    (safe known : ℕ) (left out : List ℕ) (process : ProcessView) (is : IsLeft saved works safe left)
    (back : IsBack left known process out) →
    Goes setup all → HasJournal name → StandsFor setup name saved before works (all.at name).life.journal →
    place (length before) saved works (all.at name).safe ≤ safe →
    Returns setup name all (record {
      process = process;
      file = take back.again.written left ++ out;
      second = [];
      safe = min safe back.again.written;
    })
returns-from setup name all saved before works safe known left out process is back goes has stands early =
    let p : Process = all.at name in
    let journal : List NodeWork = p.life.journal in
    let replay : IsReplayed left back.again = back.replayed in
    let kept_works : List NodeWork = take is.count works in
    let count : ℕ = length before + is.count in
    let kept : List NodeWork = take count journal in
    let size : length journal ≡ length before + length works = journal-size setup name saved before works journal stands in
    let gives : GivesBack saved kept_works replay.loaded replay.count replay.read replay.good =
    what-is-left saved works safe left is replay.loaded replay.count replay.read replay.good replay.begins replay.behind in
    let no_more : is.count ≤ length works = is.no_more in
    let within : p.safe ≤ length journal = (goes.well name).safe in
    let enough : p.safe ≤ count = safe-kept (length before) saved works p.safe safe is.count (omega arith) early is.no_less in
    let named : name_of (node_after (new_node setup name) kept) ≡ name = name-after (new_node setup name) kept ∙ name-new setup name in
    let one : Node = node_given (node_seen replay.loaded) replay.read in
    let written : ℕ = replay.count + replay.good in
    let same : SameNode one (node_after (new_node setup name) kept) =
    subst (λ (n : Node). SameNode (node_given n replay.read) (node_after (new_node setup name) kept)) (sym gives.loaded)
    (subst (λ l. SameNode (node_given (node_from saved) l) (node_after (new_node setup name) kept)) (sym gives.same)
    (files-make-anew setup name saved before works journal is.count stands no_more)) in
    let fewer : StandsFor setup name saved before kept_works kept = fewer-stand setup name saved before works journal is.count stands
    no_more in
    let file : List ℕ = take written left in
    let bytes : file ≡ file_of saved kept_works =
    ap (take written) is.whole ∙ take_at (file_of saved kept_works) is.behind written (sym gives.bytes) in
    let kept_long : length kept_works ≡ is.count = length-take-le is.count works no_more in
    let long : written ≡ length file = gives.bytes ∙ sym (ap length bytes) in
    let whole : place (length before) saved kept_works p.safe ≤ length (file_of saved kept_works) =
    place-within (length before) saved kept_works p.safe in
    let pushed : place (length before) saved (kept_works ++ drop is.count works) p.safe ≡ place (length before) saved kept_works p.safe =
    place-push (length before) saved kept_works (drop is.count works) p.safe (omega arith) in
    let all_works : place (length before) saved (kept_works ++ drop is.count works) p.safe ≡ place (length before) saved works p.safe =
    ap (λ l. place (length before) saved l p.safe) (take-append-drop is.count works) in
    let its : written ≡ length (file_of saved kept_works) = gives.bytes in
    let still : place (length before) saved kept_works p.safe ≤ min safe written = le-min (omega arith) (omega arith) in
    let next : Process = record { life = remade setup name kept; safe = p.safe } in
    let deeds : List Deed = (fallen setup name count all).done in
    let kept_size : length kept ≡ count = length-take-le count journal (omega arith) in
    let at_end : Ends setup name one (node_after (new_node setup name) kept) kept file written (min safe written) p.safe
    (filter (is_left name count) all.done) =
    ends setup name one (node_after (new_node setup name) kept) saved before kept kept_works file written (min safe written) p.safe
    (filter (is_left name count) all.done) has same named fewer
    (same-itself (node_after (new_node setup name) kept)) bytes long still (omega arith) in
    record {
      count = count;
      may = record { no_less = enough; no_more = omega arith };
      runs =
          subst (λ (q : ProcessView). IsRunning setup name (record {
            process = q;
            file = take back.again.written left ++ out;
            second = [];
            safe = min safe back.again.written;
          }) next deeds) (sym back.is)
          (subst (λ l. IsRunning setup name (record {
            process = ended back.again;
            file = take back.again.written left ++ l;
            second = [];
            safe = min safe back.again.written;
          }) next deeds) (sym back.writes)
          (subst (λ (q : ProcessView). IsRunning setup name (record {
            process = ended q;
            file = take q.written left ++ end_written q;
            second = [];
            safe = min safe q.written;
          }) next deeds) (sym replay.is) at_end));
    }

stays-fallen : (name : NodeName) (count : ℕ) (done more : List Deed) (other : NodeName) → same_node name other ≡ false →
    Stay other done (filter (is_left name count) done ++ more)
stays-fallen name count done more other differ deed its at =
    In-left deed (filter (is_left name count) done) more
    (filter-In (is_left name count) deed done at (by (same_node deed.node name) refl))
  where
    by : (b : Bool) → same_node deed.node name ≡ b → cond b (nat_le deed.rests count) true ≡ true
    by true e =
        let e1 : name ≡ other = sym (same_node-true deed.node name e) ∙ its in
        true_false (sym (subst (λ (n : NodeName). same_node name n ≡ true) e1 (same_node-refl name)) ∙ differ)
    by false e = refl

stood : (setup : Setup) (name : NodeName) (all : Processes) (r : Running) (left out : List ℕ) (safe known : ℕ) (process : ProcessView) →
    MayStand r left safe → (back : IsBack left known process out) → Goes setup all → HasJournal name →
    IsRunning setup name r (all.at name) all.done →
    Returns setup name all (record {
      process = process;
      file = take back.again.written left ++ out;
      second = [];
      safe = min safe back.again.written;
    })
stood setup name all r left out safe known process (First e may) back goes has runs =
    returns-from setup name all runs.saved runs.before runs.works safe known left out process
    (may runs.saved runs.works runs.bytes) back goes has runs.stands
    (subst (λ s. place (length runs.before) runs.saved runs.works (all.at name).safe ≤ s) (sym e) runs.safe)
stood setup name all r left out safe known process (Second saving begun e may) back goes has runs =
    let second : HasSecond setup name r.second (all.at name).life.journal runs.saved (length runs.before) runs.works saving =
    runs.second saving begun in
    returns-from setup name all second.save second.all second.later safe known left out process
    (may second.save second.later second.bytes) back goes has second.stands
    (subst (λ s. place (length second.all) second.save second.later (all.at name).safe ≤ s) (sym e)
    (place-moved (length runs.before) (length second.all) runs.saved second.save second.earlier second.later saving second.sum second.cut
    second.size (all.at name).safe r.safe
    (subst (λ l. place (length runs.before) runs.saved l (all.at name).safe ≤ r.safe) second.parts runs.safe)))

pub returns-simulated : (setup : Setup) (old new : Machine) (name : NodeName) (left : List ℕ) → HasJournal name →
    HasComeBack old name left new → Simulated setup old → Simulated setup new
returns-simulated setup old new name left has is sim =
    let goes : Goes setup sim.all = goes-reached setup sim.all sim.reached in
    let back : Returns setup name sim.all (record {
      process = is.process;
      file = take is.back.again.written left ++ is.out;
      second = [];
      safe = min is.safe is.back.again.written;
    }) = stood setup name sim.all (old.at name) left is.out is.safe is.known is.process is.stands is.back goes has
    (sim.running name has) in
    subst (Simulated setup) (sym is.is) (record {
      all = after setup sim.all (Falls name back.count);
      reached = reach setup sim.all (Falls name back.count) sim.reached back.may;
      left = sim.left;
      running =
          put-one setup old.at sim.all name _ _ _ sim.all.left back.runs
          (λ other differ. stays-fallen name back.count sim.all.done _ other differ) sim.running;
    })
