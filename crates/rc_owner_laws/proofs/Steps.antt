-- The steps of a master, and what they make of its placings: an input and the list rules first, then what follows up.
use Rattle.std.proofs.Common.{arith}
use Rattle.std.proofs.Common.{◌≡◌, ◌⊎◌, ℕ, ◌+◌, Bool, true, false, List, [], ◌∷◌, ◌++◌}
use Rattle.std.proofs.Common.{length, Some, refl, sym, ◌∙◌, subst, inl, inr}
use Rattle.std.proofs.lemmas.List.{append_assoc}
use Rattle.rc_model.specs.Model.{ServerId, Addr, Server, Entry, Phase, Opening, Closing, Writing, Message, Body, Append}
use Rattle.rc_model.specs.Model.{Stored, between, with_entry}
use Rattle.rc_model.specs.Model.{Log, head_of}
use Rattle.rc_model.specs.Model.{is_writing, opens_head, next_digest, loses}
use Rattle.rc_model.specs.Model.{stored, commit_noted, Master, with_log, to_ids}
use Rattle.rc_model.specs.Model.{ids_of, not_lost, place_of, places_head, appends_entry, dead_segments}
use Rattle.rc_model.specs.Model.{reminds, choose, from_rows, put_data, grant, task_of, In}
use Rattle.rc_model.proofs.Tests.{true_false}
use Rattle.rc_model.proofs.Members.{In-left}
use Rattle.rc_model.proofs.Sending.{each-one, each-map, each-to_ids}
use Rattle.rc_model.proofs.Walk.{Joined, Listed, Rolls, Taken, Ticked, begun}
use Rattle.rc_step_laws.proofs.Copies.{More}
use Rattle.rc_owner_laws.proofs.Placings.{IsNext, Some_placed, HasClosed, Claims, AllClaim, Placings}
use Rattle.rc_owner_laws.proofs.Placings.{placings-say}
use Rattle.rc_model.proofs.Measures.{choose-length}
use Rattle.rc_owner_laws.proofs.Rules.{alike-put, loses-put, stored-put, commit-put, opens-put}
use Rattle.rc_owner_laws.proofs.Says.{reminds-hold}

module _ (f : ℕ) (W : ℕ → ℕ → Type 0) (m : ServerId) where
  abbrev pub Good : List Message → Log → Type 0
  Good sent log = Placings f W sent m log

  -- messages that claim nothing
  abbrev Quiet : List Message → Type 0
  Quiet messages = (log : Log) → AllClaim f W log messages

  quiet-none : Quiet []
  quiet-none log message at = absurd at

  -- First: an input, of which this was sent, and the list rules

  module _ (known : List Message) where
    abbrev pub Begins : Master → Master × List Message → Type 0
    Begins old after = (sent : List Message) → More known sent → Good sent old.log → Good (sent ++ after.1) after.0.log

    begins-both : (one two : Master) (first : List Message) (after : Master × List Message) → Begins one (two, first) →
        Begins two after → Begins one (after.0, first ++ after.1)
    begins-both one two first after p q sent more good =
        subst (λ (all : List Message). Good all after.0.log) (append_assoc sent first after.1)
        (q (sent ++ first) (λ message at. In-left message sent first (more message at)) (p sent more good))

    -- a change of the log, and messages that claim what holds then
    begins-by : (old new : Master) (messages : List Message) →
        ((sent : List Message) → More known sent → Good sent old.log → Good sent new.log) →
        ((sent : List Message) → Good sent new.log → AllClaim f W new.log messages) → Begins old (new, messages)
    begins-by old new messages change claim sent more good =
        placings-say W messages (claim sent (change sent more good)) (change sent more good)

    begins-same : (old new : Master) (messages : List Message) → new.log ≡ old.log → Quiet messages → Begins old (new, messages)
    begins-same old new messages same quiet =
        begins-by old new messages (λ sent more good. subst (Good sent) (sym same) good) (λ sent good. quiet new.log)

    pub begins-joined : Joined Begins
    begins-joined = record { still = λ master. begins-same master master [] refl quiet-none; both = begins-both }

    -- a segment goes whole to some, closed only where it is shut
    whole-claims : (sent : List Message) (log : Log) (seg : ℕ) (closed : Bool) (ids : List ServerId) →
        (closed ≡ true → IsNext f log.head log.phase seg) → AllClaim f W log (to_ids log.own ids (place_of log seg closed))
    whole-claims sent log seg closed ids next = search (arith, each-to_ids)

    begins-opens : (master : Master) (digest : List ℕ) {ids : List ServerId} (seg : ℕ) →
        choose seg master.log.own master.log.factor master.known ≡ Some ids →
        (master.log.phase ≡ Opening → ⊥) ⊎ (master.log.head ≡ 0) →
        Begins master (with_log master (opens_head master.log digest ids), places_head (opens_head master.log digest ids))
    begins-opens master digest {ids} seg chosen may =
        begins-by master (with_log master (opens_head master.log digest ids)) (places_head (opens_head master.log digest ids))
        (λ sent more good. opens-put f W sent m digest ids
        (choose-length seg master.log.own master.known chosen ∙ good.factor) may good)
        (λ sent good. whole-claims sent (opens_head master.log digest ids) (master.log.head + 1) false _ (λ never. true_false (sym never)))

    pub begins-rolls : (master : Master) → Rolls Begins master
    begins-rolls master ids writing room chosen =
        begins-opens master (next_digest master.log (dead_segments master)) (master.log.head + 1) chosen
        (inl (writing-is-not master.log.phase writing))
      where
        writing-is-not : (phase : Phase) → is_writing phase ≡ true → phase ≡ Opening → ⊥
        writing-is-not Opening e same = true_false (sym e)
        writing-is-not Closing e same = true_false (sym e)
        writing-is-not Writing e same = cc

    pub begins-listed : Listed Begins
    begins-listed = record {
      replaces = λ master seg ids isn't. begins-by master (with_log master (loses master.known seg master.log).0) _
          (λ sent more good. loses-put f W sent m master.known seg good)
          (λ sent good. whole-claims sent (loses master.known seg master.log).0 seg _ ids (good.each seg).next);
      opens = λ master ids none chosen. begins-opens master (1 ∷ []) 1 chosen (inr none);
    }

    begins-appends : (master : Master) (entry : Entry) (client : Bool) → Begins master (appends_entry master entry client)
    begins-appends master entry client =
        begins-by master (appends_entry master entry client).0 (appends_entry master entry client).1
        (λ sent more good. alike-put f W sent m (with_entry entry client (head_of master.log)) good refl refl refl)
        (λ sent good. each-to_ids (λ message. Claims _ (Some_placed W 1) W message.body)
        (ids_of (not_lost (head_of master.log).config.members)) (λ id _. tt))

    pub begins-taken : (master : Master) (from : Addr) (says : Body) → In (record { from = from; to = Server m; body = says }) known →
        ((x : ServerId) (s e len : ℕ) (closed : Bool) → In (between x m (Stored s e len closed)) known → closed ≡ true →
        HasClosed known m s) → Taken Begins master from says
    begins-taken master from says at told = record {
      refuses = λ one fault. begins-same one one _ refl (λ log. each-one _ tt);
      rolls = begins-rolls master;
      writes = λ term table key value is owned writing room. begins-appends master _ true;
      reads = λ term table key is owned. begins-same master master _ refl (λ log. each-one _ tt);
      lists = λ version rows is newer. begins-same master (record master { known = from_rows version rows }) [] refl quiet-none;
      stores = λ teller seg epoch len closed is tells. begins-by master
          (with_log master (stored seg teller epoch len closed master.log)) []
          (λ sent more good. stored-put f W sent m seg teller epoch len closed master.log (more _
          (heard teller seg epoch len closed is tells))
          (λ shut. (let c = told teller seg epoch len closed (heard teller seg epoch len closed is tells) shut in
          record { message = c.message; among = more _ c.among; from = c.from; says = c.says })) good)
          (λ sent good message none. absurd none);
      commits = λ seg epoch is. begins-by master (with_log master (commit_noted seg epoch master.log)) []
          (λ sent more good. commit-put f W sent m seg epoch good) (λ sent good message none. absurd none);
      deposes = begins-same master (record master { deposed = true }) [] refl quiet-none;
      begins = λ one attempt crashed head rows parts part is among new. begins-same one
          (begun (task_of attempt crashed rows part) one) _ refl (λ log. each-map _ _ rows (λ row _. tt));
      comes = λ holder attempt seg term entries is tells. begins-same master
          (record master { ownership = put_data term seg holder entries master.ownership }) [] refl quiet-none;
      owns = λ range term previous attempt is. begins-same master
          (record master {
            ownership = grant (record { range = range; term = term }) master.ownership;
          }) [] refl quiet-none;
    }
      where
        heard : (x : ServerId) (s e len : ℕ) (closed : Bool) → from ≡ Server x → says ≡ Stored s e len closed →
            In (between x m (Stored s e len closed)) known
        heard x s e len closed is tells = search arith

    pub begins-ticked : Ticked Begins
    begins-ticked = record {
      enlists = λ master. begins-same master master _ refl (λ log. each-one _ tt);
      reminds = λ before master. begins-by master master (reminds before master).1 (λ sent more good. good)
          (λ sent good. reminds-hold W before master good);
    }
