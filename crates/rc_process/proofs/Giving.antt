-- A process that is given a work.
use Rattle.std.proofs.Common.{◌≡◌, ◌≤◌, ◌+◌, ℕ, Bool, true, false, cond, not, ◌&&◌, ◌⊎◌, inl, inr, List, [], ◌∷◌, ◌++◌, length}
use Rattle.std.proofs.Common.{refl, sym, ap, ◌∙◌, subst, arith, append_assoc, length-append}
use Rattle.std.proofs.lemmas.List.{append-nil}
use Rattle.rc_types.specs.declared.events.Setup.{Setup}
use Rattle.rc_types.specs.declared.events.NodeWork.{NodeWork}
use Rattle.rc_types.specs.declared.events.NodeWork.TheVariants as work
use Rattle.rc_types.specs.declared.messages.Body.{Body}
use Rattle.rc_types.specs.declared.messages.Message.{Message}
use Rattle.rc_model.specs.Model.{is_for_backup, Fetch}
use Rattle.rc_model.specs.Headline.{In}
use Rattle.rc_model.specs.Nodes.{is_running_at}
use Rattle.rc_model.specs.World.{NodeName}
use Rattle.rc_model.proofs.Tests.{true_false}
use Rattle.rc_model.proofs.Members.{In-left, In-right, In-append}
use Rattle.rc_history.specs.Nodes.{Node, new_node, name_of, node_can, node_step}
use Rattle.rc_history.specs.Nodes as node
use Rattle.rc_history.specs.Remade.{changes_backup}
use Rattle.rc_keeping.specs.Spelling.{record_of}
use Rattle.rc_history.specs.Lives as lives
use Rattle.rc_history.specs.Lives.{Life, keeps, is_masters, life_next, node_after, SameNode}
use Rattle.rc_history.specs.Processes.{Deed, Process, deed_of}
use Rattle.rc_history.proofs.Cutting.{name-next, started-next}
use Rattle.rc_keeping.specs.Saved.{Saved}
use Rattle.rc_keeping.specs.Files.{file_of}
use Rattle.rc_keeping.specs.Standing.{StandsFor}
use Rattle.rc_keeping.proofs.Anew.{one-more-is-written}
use Rattle.rc_process.specs.declared.saving.Saving.{Saving}
use Rattle.rc_process.specs.View.{Held, ProcessView, written_down, started_next, given}
use Rattle.rc_process.specs.Running.{Running}
use Rattle.rc_process.proofs.Places.{place, place-within, place-push, place-none, file-push, journal-size}
use Rattle.rc_process.proofs.Simulated.{Waits, HasSecond, IsRunning}

for-backup : (body : Body) → changes_backup body ≡ true → is_for_backup body ≡ true
for-backup (Fetch attempt master seg len part) e = true_false (sym e)
for-backup body e = e

and-false : (a b : Bool) → b ≡ true → (a && not b) ≡ false
and-false true b e = ap not e
and-false false b e = refl

-- what is kept is not only the master's
kept-not : (name : NodeName) (n : Node) (given : NodeWork) → name_of n ≡ name → keeps name given ≡ true → is_masters n given ≡ false
kept-not name node.TheOutside given is kept = refl
kept-not name (node.TheCoordinator c) given is kept = refl
kept-not name (node.TheHost host) (work.Deliver message) is kept =
    and-false (is_running_at host message.to) (is_for_backup message.body)
    (for-backup message.body (subst (λ n. keeps n (work.Deliver message) ≡ true) (sym is) kept))
kept-not name (node.TheHost host) work.Tick is kept = true_false (sym (subst (λ n. keeps n work.Tick ≡ true) (sym is) kept))
kept-not name (node.TheHost host) _ is kept = refl

-- the start of the server that runs
started-place : (before : ℕ) (saved : Saved) (works : List NodeWork) (life : Life) (n : Node) (given : NodeWork) (view : ProcessView)
    (written : ℕ) →
    place before saved works life.started ≤ view.started → length (file_of saved works) ≤ written →
    place before saved works (lives.started_next life given) ≤ started_next view given written
started-place before saved works life n (work.Start kept) view written early long =
    let p = place-within before saved works (length life.journal + 1) in omega arith
started-place before saved works life n work.Stop view written early long = omega (arith, place-none before saved works)
started-place before saved works life n _ view written early long = early

-- the process after it was given the work, where that adds these bytes
abbrev pub next_with : Running → NodeWork → List ℕ → Running
next_with r given bytes = record {
  process = record {
    node = (node_step r.process.node given).0;
    written = r.process.written + length bytes;
    started = started_next r.process given (r.process.written + length bytes);
    safe = r.process.safe;
    held = r.process.held ++ (
      cond (is_masters r.process.node given) r.process.started (r.process.written + length bytes),
      (node_step r.process.node given).1,
    ) ∷ [];
    saving = r.process.saving;
  };
  file = r.file ++ bytes;
  second = r.second ++ bytes;
  safe = r.safe;
}

abbrev life_with : Life → NodeWork → List NodeWork → Life
life_with life given journal =
    record { node = (node_step life.node given).0; journal = journal; started = lives.started_next life given }

abbrev deed_with : NodeName → Life → NodeWork → ℕ → Deed
deed_with name life given rests = record { node = name; work = given; sent = (node_step life.node given).1; rests = rests }

-- what is held back, with one more
held-next : (name : NodeName) (before : ℕ) (saved : Saved) (works more : List NodeWork) (journal longer : List NodeWork) (done : List Deed)
    (deed : Deed) (holding : List Held) (one : Held) → length journal ≤ before + length works → length journal ≤ length longer →
    ((held : Held) → In held holding → Waits name before saved works journal done held) →
    Waits name before saved (works ++ more) longer (done ++ deed ∷ []) one →
    (held : Held) → In held (holding ++ one ∷ []) → Waits name before saved (works ++ more) longer (done ++ deed ∷ []) held
held-next name before saved works more journal longer done deed holding one size grows old new held at =
    by (In-append held holding (one ∷ []) at)
  where
    by : In held holding ⊎ In held (one ∷ []) → Waits name before saved (works ++ more) longer (done ++ deed ∷ []) held
    by (inl h) =
        let w : Waits name before saved works journal done held = old held h in
        let within : w.deed.rests ≤ length journal = w.within in
        let same : place before saved (works ++ more) w.deed.rests ≡ place before saved works w.deed.rests =
        place-push before saved works more w.deed.rests (omega arith) in
        let rests : place before saved works w.deed.rests ≤ held.0 = w.rests in
        record {
          deed = w.deed;
          among = In-left w.deed done (deed ∷ []) w.among;
          node = w.node;
          sent = w.sent;
          rests = omega arith;
          within = omega arith;
        }
    by (inr (inl e)) = subst (λ h. Waits name before saved (works ++ more) longer (done ++ deed ∷ []) h) (sym e) new
    by (inr (inr none)) = absurd none

second-kept : (setup : Setup) (name : NodeName) (second : List ℕ) (life : Life) (saved : Saved) (before : ℕ) (works : List NodeWork)
    (saving : Saving) (given : NodeWork) → SameNode (node_after (new_node setup name) life.journal) life.node →
    keeps name given ≡ true → node_can life.node given ≡ true →
    HasSecond setup name second life.journal saved before works saving →
    HasSecond setup name (second ++ record_of given) (life.journal ++ given ∷ []) saved before (works ++ given ∷ []) saving
second-kept setup name second life saved before works saving given same kept may has = record {
  save = has.save;
  all = has.all;
  earlier = has.earlier;
  later = has.later ++ given ∷ [];
  stands = one-more-is-written setup name has.save has.all has.later life.journal life.node given has.stands same kept may;
  bytes = ap (λ l. l ++ record_of given) has.bytes ∙ sym (file-push has.save has.later given);
  parts = ap (λ l. l ++ given ∷ []) has.parts ∙ append_assoc has.earlier has.later (given ∷ []);
  sum = has.sum;
  cut = has.cut;
  size = has.size;
}

second-not : (setup : Setup) (name : NodeName) (second : List ℕ) (journal : List NodeWork) (saved : Saved) (before : ℕ)
    (works : List NodeWork) (saving : Saving) → HasSecond setup name second journal saved before works saving →
    HasSecond setup name (second ++ []) journal saved before works saving
second-not setup name second journal saved before works saving has =
    subst (λ l. HasSecond setup name l journal saved before works saving) (sym (append-nil second)) has

abbrev Next : Setup → NodeName → Running → Process → List Deed → NodeWork → List ℕ → List NodeWork → ℕ → Type 0
Next setup name r p done given bytes journal rests =
    IsRunning setup name (next_with r given bytes) (record { life = life_with p.life given journal; safe = p.safe })
    (done ++ deed_with name p.life given rests ∷ [])

given-kept : (setup : Setup) (name : NodeName) (r : Running) (p : Process) (done : List Deed) (given : NodeWork) →
    IsRunning setup name r p done → p.safe ≤ length p.life.journal →
    SameNode (node_after (new_node setup name) p.life.journal) p.life.node →
    node_can p.life.node given ≡ true → keeps name given ≡ true →
    Next setup name r p done given (record_of given) (p.life.journal ++ given ∷ []) (length p.life.journal + 1)
given-kept setup name r p done given is within same may kept =
    let journal : List NodeWork = p.life.journal in
    let works : List NodeWork = is.works ++ given ∷ [] in
    let n : ℕ = length is.before in
    let size : length journal ≡ n + length is.works = journal-size setup name is.saved is.before is.works journal is.stands in
    let longer : length (r.file ++ record_of given) ≡ length r.file + length (record_of given) = length-append r.file (record_of given) in
    let bytes : r.file ++ record_of given ≡ file_of is.saved works =
    ap (λ l. l ++ record_of given) is.bytes ∙ sym (file-push is.saved is.works given) in
    let total : length (file_of is.saved works) ≡ length r.file + length (record_of given) = ap length (sym bytes) ∙ longer in
    let its : r.process.written ≡ length r.file = is.written in
    let begun : p.life.started ≤ length journal = is.early in
    let pushed : place n is.saved works p.life.started ≡ place n is.saved is.works p.life.started =
    place-push n is.saved is.works (given ∷ []) p.life.started (omega arith) in
    let old : place n is.saved is.works p.life.started ≤ r.process.started = is.started in
    let kept_safe : place n is.saved works p.safe ≡ place n is.saved is.works p.safe =
    place-push n is.saved is.works (given ∷ []) p.safe (omega arith) in
    let was_safe : place n is.saved is.works p.safe ≤ r.safe = is.safe in
    let more : length (journal ++ given ∷ []) ≡ length journal + 1 = length-append journal (given ∷ []) in
    let whole : place n is.saved works (length journal + 1) ≤ length (file_of is.saved works) =
    place-within n is.saved works (length journal + 1) in
    let stepped : (node_step r.process.node given) ≡ (node_step p.life.node given) = ap (λ (x : Node). node_step x given) is.node in
    let masters : is_masters r.process.node given ≡ false =
    kept-not name r.process.node given (ap name_of is.node ∙ is.named) kept in
    record {
      saved = is.saved;
      before = is.before;
      works = works;
      stands = one-more-is-written setup name is.saved is.before is.works journal p.life.node given is.stands same kept may;
      bytes = bytes;
      node = ap (λ (x : Node × List Message). x.0) stepped;
      named = name-next p.life.node given ∙ is.named;
      written = omega arith;
      started =
          started-place n is.saved works p.life r.process.node given r.process (r.process.written + length (record_of given))
          (omega arith) (omega arith);
      early = subst (λ b. lives.started_next p.life given ≤ length (cond b (journal ++ given ∷ []) journal)) kept
          (started-next p.life.node p.life given is.named may is.early);
      safe = omega arith;
      known = is.known;
      held = held-next name n is.saved is.works (given ∷ []) journal (journal ++ given ∷ []) done
          (deed_with name p.life given (length journal + 1)) r.process.held _ (omega arith) (omega arith) is.held (record {
            deed = deed_with name p.life given (length journal + 1);
            among = In-right (deed_with name p.life given (length journal + 1)) done _ (inl refl);
            node = refl;
            sent = ap (λ (x : Node × List Message). x.1) (sym stepped);
            rests = subst (λ b. place n is.saved works (length journal + 1) ≤ cond b r.process.started
                (r.process.written + length (record_of given))) (sym masters) (omega arith);
            within = omega arith;
          });
      second = λ saving e.
          second-kept setup name r.second p.life is.saved n is.works saving given same kept may (is.second saving e);
    }

given-not : (setup : Setup) (name : NodeName) (r : Running) (p : Process) (done : List Deed) (given : NodeWork) →
    IsRunning setup name r p done → p.safe ≤ length p.life.journal →
    node_can p.life.node given ≡ true → keeps name given ≡ false →
    Next setup name r p done given [] p.life.journal (cond (is_masters p.life.node given) p.life.started (length p.life.journal))
given-not setup name r p done given is within may kept =
    let journal : List NodeWork = p.life.journal in
    let n : ℕ = length is.before in
    let rests : ℕ = cond (is_masters p.life.node given) p.life.started (length p.life.journal) in
    let size : length journal ≡ n + length is.works = journal-size setup name is.saved is.before is.works journal is.stands in
    let none : r.file ++ [] ≡ r.file = append-nil r.file in
    let same_size : length (r.file ++ []) ≡ length r.file = ap length none in
    let long : length (file_of is.saved is.works) ≡ length r.file = ap length (sym is.bytes) in
    let its : r.process.written ≡ length r.file = is.written in
    let whole : place n is.saved is.works (length journal) ≤ length (file_of is.saved is.works) =
    place-within n is.saved is.works (length journal) in
    let old : place n is.saved is.works p.life.started ≤ r.process.started = is.started in
    let early : p.life.started ≤ length journal = is.early in
    let stepped : (node_step r.process.node given) ≡ (node_step p.life.node given) = ap (λ (x : Node). node_step x given) is.node in
    let masters : is_masters r.process.node given ≡ is_masters p.life.node given =
    ap (λ (x : Node). is_masters x given) is.node in
    let nothing : is.works ++ [] ≡ is.works = append-nil is.works in
    record {
      saved = is.saved;
      before = is.before;
      works = is.works;
      stands = is.stands;
      bytes = none ∙ is.bytes;
      node = ap (λ (x : Node × List Message). x.0) stepped;
      named = name-next p.life.node given ∙ is.named;
      written = omega arith;
      started = started-place n is.saved is.works p.life r.process.node given r.process (r.process.written + 0) old (omega arith);
      early = subst (λ b. lives.started_next p.life given ≤ length (cond b (journal ++ given ∷ []) journal)) kept
          (started-next p.life.node p.life given is.named may is.early);
      safe = is.safe;
      known = is.known;
      held = subst (λ l. (held : Held) → In held (r.process.held ++ _ ∷ []) →
          Waits name n is.saved l journal (done ++ deed_with name p.life given rests ∷ []) held) nothing
          (held-next name n is.saved is.works [] journal journal done
          (deed_with name p.life given rests) r.process.held _ (omega arith) (omega arith) is.held (record {
            deed = deed_with name p.life given rests;
            among = In-right (deed_with name p.life given rests) done _ (inl refl);
            node = refl;
            sent = ap (λ (x : Node × List Message). x.1) (sym stepped);
            rests = subst (λ l. place n is.saved l rests ≤ _) (sym nothing)
                (subst (λ b. place n is.saved is.works rests ≤ cond b r.process.started (r.process.written + 0)) (sym masters)
                (by (is_masters p.life.node given) old (omega arith)));
            within = less (is_masters p.life.node given) early;
          }));
      second = λ saving e. second-not setup name r.second journal is.saved n is.works saving (is.second saving e);
    }
  where
    by : (b : Bool) → place (length is.before) is.saved is.works p.life.started ≤ r.process.started →
        place (length is.before) is.saved is.works (length p.life.journal) ≤ r.process.written + 0 →
        place (length is.before) is.saved is.works (cond b p.life.started (length p.life.journal)) ≤ cond b r.process.started
        (r.process.written + 0)
    by true one two = one
    by false one two = two

    less : (b : Bool) → p.life.started ≤ length p.life.journal → cond b p.life.started (length p.life.journal) ≤ length p.life.journal
    less true h = h
    less false h = omega arith

-- the process goes on with the life
pub given-runs : (setup : Setup) (name : NodeName) (r : Running) (p : Process) (done : List Deed) (given : NodeWork) →
    IsRunning setup name r p done → p.safe ≤ length p.life.journal →
    SameNode (node_after (new_node setup name) p.life.journal) p.life.node →
    node_can r.process.node given ≡ true →
    IsRunning setup name (next_with r given (written_down r.process.node given))
    (record { life = life_next name p.life given; safe = p.safe }) (done ++ deed_of name p.life given ∷ [])
given-runs setup name r p done given is within same may =
    subst (λ (c : NodeName). IsRunning setup name (next_with r given (cond (keeps c given) (record_of given) []))
    (record { life = life_next name p.life given; safe = p.safe })
    (done ++ deed_of name p.life given ∷ [])) (sym (ap name_of is.node ∙ is.named)) (by (keeps name given) refl)
  where
    by : (b : Bool) → keeps name given ≡ b → Next setup name r p done given (cond b (record_of given) [])
        (cond b (p.life.journal ++ given ∷ []) p.life.journal) (cond b (length p.life.journal + 1)
        (cond (is_masters p.life.node given) p.life.started (length p.life.journal)))
    by true e =
        given-kept setup name r p done given is within same (subst (λ (n : Node). node_can n given ≡ true) is.node may) e
    by false e =
        given-not setup name r p done given is within (subst (λ (n : Node). node_can n given ≡ true) is.node may) e
