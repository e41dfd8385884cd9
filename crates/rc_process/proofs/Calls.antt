-- Each call but coming back, as happenings.
use Rattle.std.proofs.Common.{◌≡◌, ◌≤◌, ◌<◌, ◌+◌, ℕ, true, cond, max, min, ◌⊎◌, inl, inr, List, [], ◌∷◌}
use Rattle.std.proofs.Common.{◌++◌, length, map, filter, refl}
use Rattle.std.proofs.Common.{sym, ap, ◌∙◌, subst, arith, append_assoc, length-append, Some}
use Rattle.std.proofs.Math.Nat.{le-max_left, le-max_right, le-min, min-eq_left, min-le_left}
use Rattle.std.proofs.lemmas.List.{append-nil}
use Rattle.rc_codec.proofs.Lawful.{some_is}
use Rattle.rc_types.specs.declared.ids.ServerId.{ServerId}
use Rattle.rc_types.specs.declared.events.Setup.{Setup}
use Rattle.rc_types.specs.declared.events.NodeWork.{NodeWork}
use Rattle.rc_types.specs.declared.events.NodeWork.TheVariants as work
use Rattle.rc_types.specs.declared.messages.Body.{Body}
use Rattle.rc_types.specs.declared.messages.Message.{Message}
use Rattle.rc_model.specs.Headline.{In}
use Rattle.rc_model.specs.Nodes.{Ask, outside_sends}
use Rattle.rc_model.specs.World.{NodeName, TheOutside, TheCoordinator, TheHost}
use Rattle.rc_model.proofs.Members.{In-left, In-right}
use Rattle.rc_history.specs.Nodes.{Node, new_node, name_of, node_can, node_step}
use Rattle.rc_history.specs.Nodes as node
use Rattle.rc_world.specs.NodeView.{node_seen}
use Rattle.rc_history.specs.Lives.{Life, new_life, keeps, life_next, rests_on, node_after, SameNode}
use Rattle.rc_history.specs.Processes.{Deed, Process, Processes, Takes, Syncs, Leaves, deed_of, after, with_process, IsAddressed, IsBrought}
use Rattle.rc_history.specs.Processes.{MayTake, safe_at}
use Rattle.rc_history.proofs.OwnLife.{works_of, life_journal}
use Rattle.rc_history.proofs.Global.{Goes, Well, own, name-life}
use Rattle.rc_history.proofs.Telling.{journals-make}
use Rattle.rc_model.proofs.Ids.{same_node-refl}
use Rattle.rc_keeping.specs.Spelling.{journal_of}
use Rattle.rc_keeping.specs.Saved.{Saved, save_of}
use Rattle.rc_keeping.specs.Files.{file_of}
use Rattle.rc_keeping.proofs.Anew.{saves-stand}
use Rattle.rc_keeping.proofs.Back.{le_or_lt}
use Rattle.rc_process.specs.declared.saving.Saving.{Saving}
use Rattle.rc_process.specs.View.{Held, ProcessView, written_down, moved_place, move_mark, move_held, moved_by, LARGEST}
use Rattle.rc_process.specs.Running.{Running, Machine, HasJournal, MayBring, IsGiven, IsSynced, HasLeft, IsSaving, IsMoved, HasAsked}
use Rattle.rc_process.proofs.Places.{place, place-within, place-moved, journal-size, file-length}
use Rattle.rc_process.proofs.Simulated.{Waits, HasSecond, IsRunning, Reached, reach, goes-reached, Simulated, put-one, keep-one}
use Rattle.rc_process.proofs.Simulated.{running-more}
use Rattle.rc_process.proofs.Giving.{given-runs, next_with}

-- A work

addressed : (name : NodeName) (machine : Machine) (given : NodeWork) → MayBring machine name given → IsAddressed name given
addressed name machine (work.Deliver message) brought = brought.1
addressed name machine _ brought = tt

brought-before : (left : List Message) (name : NodeName) (machine : Machine) (given : NodeWork) → left ≡ machine.left →
    MayBring machine name given → IsBrought left given
brought-before left name machine (work.Deliver message) e brought = subst (In message) (sym e) brought.0
brought-before left name machine _ e brought = tt

pub gives-simulated : (setup : Setup) (old new : Machine) (name : NodeName) (given : NodeWork) → HasJournal name →
    IsGiven old name given new → Simulated setup old → Simulated setup new
gives-simulated setup old new name given has is sim =
    let r : Running = old.at name in
    let p : Process = sim.all.at name in
    let goes : Goes setup sim.all = goes-reached setup sim.all sim.reached in
    let runs : IsRunning setup name r p sim.all.done = sim.running name has in
    let may : MayTake sim.all name given = record {
      can = subst (λ (n : Node). node_can n given ≡ true) runs.node is.can;
      addressed = addressed name old given is.brought;
      brought = brought-before sim.all.left name old given sim.left is.brought;
    } in
    subst (Simulated setup) (sym is.is) (record {
      all = after setup sim.all (Takes name given);
      reached = reach setup sim.all (Takes name given) sim.reached may;
      left = sim.left;
      running = put-one setup old.at sim.all name (next_with r given (written_down r.process.node given))
          (record { life = life_next name p.life given; safe = p.safe }) (sim.all.done ++ deed_of name p.life given ∷ []) sim.all.left
          (given-runs setup name r p sim.all.done given runs (goes.well name).safe (journals-make goes name) is.can)
          (λ other differ deed its at. In-left deed sim.all.done (deed_of name p.life given ∷ []) at) sim.running;
    })

-- A sync

pub syncs-simulated : (setup : Setup) (old new : Machine) (name : NodeName) (count : ℕ) → HasJournal name →
    IsSynced old name count new → Simulated setup old → Simulated setup new
syncs-simulated setup old new name count has is sim =
    let r : Running = old.at name in
    let p : Process = sim.all.at name in
    let runs : IsRunning setup name r p sim.all.done = sim.running name has in
    let up : r.safe ≤ max r.safe count = le-max_left r.safe count in
    let early : place (length runs.before) runs.saved runs.works p.safe ≤ r.safe = runs.safe in
    subst (Simulated setup) (sym is.is) (record {
      all = sim.all;
      reached = sim.reached;
      left = sim.left;
      running = keep-one setup old.at sim.all name _ (record {
        saved = runs.saved;
        before = runs.before;
        works = runs.works;
        stands = runs.stands;
        bytes = runs.bytes;
        node = runs.node;
        named = runs.named;
        written = runs.written;
        started = runs.started;
        early = runs.early;
        safe = omega arith;
        known = le-max_right r.safe count;
        held = runs.held;
        second = runs.second;
      }) sim.running;
    })

-- What leaves

abbrev with_left : Processes → List Message → Processes
with_left all messages = record { at = all.at; done = all.done; left = all.left ++ messages }

leave-all : (setup : Setup) (all : Processes) (deed : Deed) (messages : List Message) → In deed all.done →
    deed.rests ≤ safe_at all deed.node → ((message : Message) → In message messages → In message deed.sent) → Reached setup all →
    Reached setup (with_left all messages)
leave-all setup all deed [] among safe its reached =
    subst (λ (l : List Message). Reached setup (record { at = all.at; done = all.done; left = l })) (sym (append-nil all.left)) reached
leave-all setup all deed (m ∷ messages) among safe its reached =
    let next : Processes = after setup all (Leaves m) in
    let one : Reached setup next = reach setup all (Leaves m) reached (record {
      deed = deed;
      done_before = among;
      its = its m (inl refl);
      safe_by_now = safe;
    }) in
    subst (λ (l : List Message). Reached setup (record { at = all.at; done = all.done; left = l }))
    (append_assoc all.left (m ∷ []) messages)
    (leave-all setup next deed messages among safe (λ message at. its message (inr at)) one)

with-at : (at : NodeName → Process) (name : NodeName) (p : Process) → with_process at name p name ≡ p
with-at at name p = ap (λ b. cond b p (at name)) (same_node-refl name)

-- so many works are safe that a step rests on no more
record Enough (before : ℕ) (saved : Saved) (works : List NodeWork) (safe_bytes : ℕ) (safe rests length_ : ℕ) : Type 0 where
  count : ℕ
  above : safe ≤ count
  enough : rests ≤ count
  within : count ≤ length_
  early : place before saved works count ≤ safe_bytes

enough : (before : ℕ) (saved : Saved) (works : List NodeWork) (safe_bytes safe rests length_ : ℕ) → safe ≤ length_ → rests ≤ length_ →
    place before saved works safe ≤ safe_bytes → place before saved works rests ≤ safe_bytes →
    Enough before saved works safe_bytes safe rests length_
enough before saved works safe_bytes safe rests length_ one two three four = by (le_or_lt safe rests)
  where
    by : (safe ≤ rests) ⊎ (rests < safe) → Enough before saved works safe_bytes safe rests length_
    by (inl h) = record { count = rests; above = h; enough = omega arith; within = two; early = four }
    by (inr h) = record { count = safe; above = omega arith; enough = omega arith; within = one; early = three }

without : {X : Type 0} (x y : X) (before later : List X) → In x (before ++ later) → In x (before ++ y ∷ later)
without x y [] later at = inr at
without x y (z ∷ before) later (inl e) = inl e
without x y (z ∷ before) later (inr at) = inr (without x y before later at)

pub leaves-simulated : (setup : Setup) (old new : Machine) (name : NodeName) (messages : List Message) → HasJournal name →
    HasLeft old name messages new → Simulated setup old → Simulated setup new
leaves-simulated setup old new name messages has is sim =
    let r : Running = old.at name in
    let p : Process = sim.all.at name in
    let goes : Goes setup sim.all = goes-reached setup sim.all sim.reached in
    let runs : IsRunning setup name r p sim.all.done = sim.running name has in
    let one : Held = (is.leaves.rests, messages) in
    let stood : In one r.process.held =
    subst (In one) (sym is.leaves.stood) (In-right one is.leaves.before (one ∷ is.leaves.later) (inl refl)) in
    let waits : Waits name (length runs.before) runs.saved runs.works p.life.journal sim.all.done one = runs.held one stood in
    let early : place (length runs.before) runs.saved runs.works waits.deed.rests ≤ is.leaves.rests = waits.rests in
    let ready : is.leaves.rests ≤ r.process.safe = is.leaves.safe in
    let known : r.process.safe ≤ r.safe = runs.known in
    let far : Enough (length runs.before) runs.saved runs.works r.safe p.safe waits.deed.rests (length p.life.journal) =
    enough (length runs.before) runs.saved runs.works r.safe p.safe waits.deed.rests (length p.life.journal)
    (goes.well name).safe waits.within runs.safe (omega arith) in
    let next : Process = record { life = p.life; safe = far.count } in
    let synced : Processes = after setup sim.all (Syncs name far.count) in
    let reached : Reached setup synced =
    reach setup sim.all (Syncs name far.count) sim.reached (record { no_less = far.above; no_more = far.within }) in
    let safe_now : waits.deed.rests ≤ safe_at synced waits.deed.node =
    subst (λ (n : NodeName). waits.deed.rests ≤ (with_process sim.all.at name next n).safe) (sym waits.node)
    (subst (λ (q : Process). waits.deed.rests ≤ q.safe) (sym (with-at sim.all.at name next)) far.enough) in
    subst (Simulated setup) (sym is.is) (record {
      all = with_left synced messages;
      reached = leave-all setup synced waits.deed messages waits.among safe_now
          (λ message at. subst (In message) (sym waits.sent) at) reached;
      left = ap (λ l. l ++ messages) sim.left;
      running =
          put-one setup old.at sim.all name (record r { process = is.process }) next sim.all.done (sim.all.left ++ messages)
          (subst (λ (q : ProcessView). IsRunning setup name (record r { process = q }) next sim.all.done) (sym is.leaves.left) (record {
            saved = runs.saved;
            before = runs.before;
            works = runs.works;
            stands = runs.stands;
            bytes = runs.bytes;
            node = runs.node;
            named = runs.named;
            written = runs.written;
            started = runs.started;
            early = runs.early;
            safe = far.early;
            known = runs.known;
            held = λ held at.
                runs.held held (subst (In held) (sym is.leaves.stood) (without held one is.leaves.before is.leaves.later at));
            second = runs.second;
          })) (λ other differ deed its at. at) sim.running;
    })

-- A save

pub saving-simulated : (setup : Setup) (old new : Machine) (name : NodeName) → HasJournal name → IsSaving old name new →
    Simulated setup old → Simulated setup new
saving-simulated setup old new name has is sim =
    let r : Running = old.at name in
    let p : Process = sim.all.at name in
    let goes : Goes setup sim.all = goes-reached setup sim.all sim.reached in
    let runs : IsRunning setup name r p sim.all.done = sim.running name has in
    let made : SameNode (node_after (new_node setup name) p.life.journal) (node_seen is.node) =
    subst (SameNode (node_after (new_node setup name) p.life.journal)) (sym (is.its ∙ runs.node))
    (journals-make goes name) in
    let saving : Saving = record { cut = r.process.written; size = length is.save } in
    let second : HasSecond setup name is.save p.life.journal runs.saved (length runs.before) runs.works saving = record {
      save = is.saved.saved;
      all = p.life.journal;
      earlier = runs.works;
      later = [];
      stands = saves-stand setup name is.node is.saved.saved p.life.journal is.saved.its made;
      bytes = is.saved.written ∙ sym (append-nil (save_of is.saved.saved));
      parts = sym (append-nil runs.works);
      sum = journal-size setup name runs.saved runs.before runs.works p.life.journal runs.stands;
      cut = runs.written ∙ ap length runs.bytes;
      size = ap length is.saved.written;
    } in
    subst (Simulated setup) (sym is.is) (record {
      all = sim.all;
      reached = sim.reached;
      left = sim.left;
      running = keep-one setup old.at sim.all name _ (record {
        saved = runs.saved;
        before = runs.before;
        works = runs.works;
        stands = runs.stands;
        bytes = runs.bytes;
        node = runs.node;
        named = runs.named;
        written = runs.written;
        started = runs.started;
        early = runs.early;
        safe = runs.safe;
        known = runs.known;
        held = runs.held;
        second = λ other e.
            subst (HasSecond setup name is.save p.life.journal runs.saved (length runs.before) runs.works) (some_is saving other e)
            second;
      }) sim.running;
    })

-- The save has taken the journal's place

record IsMovedFrom (saving : Saving) (held : List Held) (one : Held) : Type 0 where
  was : Held
  among : In was held
  is : one ≡ move_held saving was

moved-from : (saving : Saving) (held : List Held) (one : Held) → In one (map (move_held saving) held) → IsMovedFrom saving held one
moved-from saving [] one at = absurd at
moved-from saving (h ∷ held) one (inl e) = record { was = h; among = inl refl; is = e }
moved-from saving (h ∷ held) one (inr at) =
    let found : IsMovedFrom saving held one = moved-from saving held one at in
    record { was = found.was; among = inr found.among; is = found.is }

moved-runs : (setup : Setup) (name : NodeName) (r : Running) (p : Process) (done : List Deed) (saving : Saving)
    (runs : IsRunning setup name r p done) → length r.second ≤ LARGEST → HasSecond setup name r.second p.life.journal runs.saved
    (length runs.before) runs.works
    saving →
    IsRunning setup name (record {
      process = moved_by r.process (Some saving);
      file = r.second;
      second = [];
      safe = moved_place saving r.safe;
    }) p done
moved-runs setup name r p done saving runs short has = record {
  saved = has.save;
  before = has.all;
  works = has.later;
  stands = has.stands;
  bytes = has.bytes;
  node = runs.node;
  named = runs.named;
  written =
      let whole : length (file_of runs.saved runs.works) ≡ length (file_of runs.saved has.earlier) + length (journal_of has.later) =
      ap (λ l. length (file_of runs.saved l)) has.parts ∙ file-length runs.saved has.earlier has.later in
      let second : length r.second ≡ length (save_of has.save) + length (journal_of has.later) =
      ap length has.bytes ∙ length-append (save_of has.save) (journal_of has.later) in
      let its : r.process.written ≡ length (file_of runs.saved runs.works) = runs.written ∙ ap length runs.bytes in
      let cut : saving.cut ≡ length (file_of runs.saved has.earlier) = has.cut in
      let size : saving.size ≡ length (save_of has.save) = has.size in
      let exact : moved_place saving r.process.written ≡ length r.second = omega arith in
      min-eq_left (subst (λ n. n ≤ LARGEST) (sym exact) short) ∙ exact;
  started = there p.life.started r.process.started runs.started;
  early = runs.early;
  safe = far p.safe r.safe runs.safe;
  known =
      let k : r.process.safe ≤ r.safe = runs.known in
      let m : min (moved_place saving r.process.safe) LARGEST ≤ moved_place saving r.process.safe =
      min-le_left (moved_place saving r.process.safe) LARGEST in
      omega arith;
  held = λ held at.
      let found : IsMovedFrom saving r.process.held held = moved-from saving r.process.held held at in
      let waits : Waits name (length runs.before) runs.saved runs.works p.life.journal done found.was = runs.held found.was found.among in
      subst (Waits name (length has.all) has.save has.later p.life.journal done) (sym found.is) (record {
        deed = waits.deed;
        among = waits.among;
        node = waits.node;
        sent = waits.sent;
        rests = there waits.deed.rests found.was.0 waits.rests;
        within = waits.within;
      });
  second = λ other e. absurd cc;
}
  where
    far : (count mark : ℕ) → place (length runs.before) runs.saved runs.works count ≤ mark →
        place (length has.all) has.save has.later count ≤ moved_place saving mark
    far count mark h =
        place-moved (length runs.before) (length has.all) runs.saved has.save has.earlier has.later saving has.sum has.cut has.size count
        mark (subst (λ l. place (length runs.before) runs.saved l count ≤ mark) has.parts h)

    there : (count mark : ℕ) → place (length runs.before) runs.saved runs.works count ≤ mark →
        place (length has.all) has.save has.later count ≤ move_mark saving mark
    there count mark h =
        let within : place (length has.all) has.save has.later count ≤ length (file_of has.save has.later) =
        place-within (length has.all) has.save has.later count in
        let size : length (file_of has.save has.later) ≡ length r.second = ap length (sym has.bytes) in
        le-min (far count mark h) (omega (arith, within, size, short))

pub moved-simulated : (setup : Setup) (old new : Machine) (name : NodeName) → HasJournal name → IsMoved old name new →
    Simulated setup old → Simulated setup new
moved-simulated setup old new name has is sim =
    let r : Running = old.at name in
    let runs : IsRunning setup name r (sim.all.at name) sim.all.done = sim.running name has in
    subst (Simulated setup) (sym is.is) (record {
      all = sim.all;
      reached = sim.reached;
      left = sim.left;
      running = keep-one setup old.at sim.all name _
          (subst (λ (q : ProcessView). IsRunning setup name (record {
            process = q;
            file = r.second;
            second = [];
            safe = moved_place is.saving r.safe;
          }) (sim.all.at name) sim.all.done) (sym (ap (moved_by r.process) is.begun))
          (moved-runs setup name r (sim.all.at name) sim.all.done is.saving runs is.short (runs.second is.saving is.begun))) sim.running;
    })

-- A client asks

none-kept : (works : List NodeWork) → filter (keeps TheOutside) works ≡ []
none-kept [] = refl
none-kept (w ∷ works) = none-kept works

is-outside : (n : Node) → name_of n ≡ TheOutside → n ≡ node.TheOutside
is-outside node.TheOutside e = refl
is-outside (node.TheCoordinator c) e = absurd cc
is-outside (node.TheHost host) e = absurd cc

pub asks-simulated : (setup : Setup) (old new : Machine) (to : ServerId) (body : Body) → HasAsked old to body new →
    Simulated setup old → Simulated setup new
asks-simulated setup old new to body is sim =
    let p : Process = sim.all.at TheOutside in
    let w : NodeWork = Ask to body in
    let goes : Goes setup sim.all = goes-reached setup sim.all sim.reached in
    let well : Well setup TheOutside p (own TheOutside sim.all.done) = goes.well TheOutside in
    let works : List NodeWork = works_of (own TheOutside sim.all.done) in
    let outside : p.life.node ≡ node.TheOutside =
    is-outside p.life.node (ap (λ (l : Life). name_of l.node) well.life ∙ name-life TheOutside (new_life setup TheOutside) works) in
    let empty : p.life.journal ≡ [] =
    ap (λ (l : Life). l.journal) well.life ∙ (life_journal TheOutside (new_life setup TheOutside) works ∙ none-kept works) in
    let none : length p.life.journal ≡ 0 = ap length empty in
    let deed : Deed = deed_of TheOutside p.life w in
    let given : Processes = after setup sim.all (Takes TheOutside w) in
    let may : MayTake sim.all TheOutside w = record {
      can = subst (λ (n : Node). node_can n w ≡ true) (sym outside) is.can;
      addressed = tt;
      brought = tt;
    } in
    let reached : Reached setup given = reach setup sim.all (Takes TheOutside w) sim.reached may in
    let rests : deed.rests ≡ 0 =
    ap (λ (n : Node). rests_on TheOutside (record { node = n; journal = p.life.journal; started = p.life.started }) w) outside
    ∙ none in
    let sends : deed.sent ≡ outside_sends w = ap (λ (n : Node). (node_step n w).1) outside in
    let among : In deed given.done = In-right deed sim.all.done (deed ∷ []) (inl refl) in
    subst (Simulated setup) (sym is.is) (record {
      all = with_left given (outside_sends w);
      reached = leave-all setup given deed (outside_sends w) among (omega arith)
          (λ message at. subst (In message) (sym sends) at) reached;
      left = ap (λ l. l ++ outside_sends w) sim.left;
      running = λ name has.
          others name has (running-more setup name (old.at name) (sim.all.at name) sim.all.done (sim.all.done ++ deed ∷ [])
          (λ d its at. In-left d sim.all.done (deed ∷ []) at) (sim.running name has));
    })
  where
    others : (name : NodeName) → HasJournal name → IsRunning setup name (old.at name) (sim.all.at name)
        (sim.all.done ++ deed_of TheOutside (sim.all.at TheOutside).life (Ask to body) ∷ []) →
        IsRunning setup name (old.at name) (with_process sim.all.at TheOutside
        (record { life = life_next TheOutside (sim.all.at TheOutside).life (Ask to body); safe = (sim.all.at TheOutside).safe }) name)
        (sim.all.done ++ deed_of TheOutside (sim.all.at TheOutside).life (Ask to body) ∷ [])
    others TheOutside has it = absurd has
    others TheCoordinator has it = it
    others (TheHost index) has it = it
