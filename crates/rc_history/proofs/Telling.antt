-- What was done and is not forgotten is steps that nodes take apart.
use Rattle.std.proofs.Common.{◌≡◌, ℕ, Bool, true, false, cond, inl, inr, List, [], ◌∷◌, ◌++◌, Some}
use Rattle.std.proofs.Common.{refl, sym, ap, ◌∙◌, subst, append_assoc}
use Rattle.std.specs.List.{flat_map}
use Rattle.std.proofs.lemmas.List.{append-nil}
use Rattle.std.proofs.lemmas.Grind.{flat_map-append}
use Rattle.rc_types.specs.declared.events.Setup.{Setup}
use Rattle.rc_types.specs.declared.messages.Message.{Message}
use Rattle.rc_model.specs.Headline.{In}
use Rattle.rc_model.specs.Model.{NodeWork, Deliver}
use Rattle.rc_model.specs.World.{NodeName, same_node, Job}
use Rattle.rc_model.proofs.Ids.{same_node-true, same_node-refl}
use Rattle.rc_model.proofs.Members.{In-left, In-right, place_of}
use Rattle.rc_history.specs.Nodes.{Node, node_step, new_node, name_of, event_of}
use Rattle.rc_history.specs.Apart.{Step, WasSent, sent_by, left_at, TakenApart}
use Rattle.rc_history.proofs.Apart.{sent_by-push, left_at-push, taken_apart-push, taken_apart-none}
use Rattle.rc_history.proofs.Own.{given-job, takes-own}
use Rattle.rc_history.specs.Lives.{SameNode, node_after, Life, new_life, life_next}
use Rattle.rc_history.specs.Processes.{Takes, after, deed_of, Deed, Processes, new_processes, Happening, IsAddressed, MayLeave, safe_at}
use Rattle.rc_history.specs.Processes.{MayAll, after_all}
use Rattle.rc_history.specs.LifeClaims.{HasHistory, StepsComeLast, JournalsMakeNodes}
use Rattle.rc_history.proofs.Remaking.{journal-makes}
use Rattle.rc_history.proofs.OwnLife.{Lives, IsLived, works_of, life_of, life_of-append}
use Rattle.rc_history.proofs.Global.{own, own-push, own-others, IsSupported, Brought, AllBrought, Goes, goes-all, goes-after, goes-new}
use Rattle.rc_history.proofs.Global.{name-life}
use Rattle.rc_history.proofs.Global.{name-new}

abbrev pub said_by : List Deed → List Message
said_by deeds = flat_map (λ (deed : Deed). deed.sent) deeds

said-push : (deeds : List Deed) (deed : Deed) → said_by (deeds ++ deed ∷ []) ≡ said_by deeds ++ deed.sent
said-push deeds deed =
    flat_map-append (λ (d : Deed). d.sent) deeds (deed ∷ []) ∙ ap (λ l. said_by deeds ++ l) (append-nil deed.sent)

pub in-said : (message : Message) (deed : Deed) (deeds : List Deed) → In deed deeds → In message deed.sent → In message (said_by deeds)
in-said message deed [] at its = absurd at
in-said message deed (one ∷ deeds) (inl e) its = In-left message one.sent (said_by deeds) (subst (λ (d : Deed). In message d.sent) e its)
in-said message deed (one ∷ deeds) (inr rest) its = In-right message one.sent (said_by deeds) (in-said message deed deeds rest its)

pub record Told (setup : Setup) (done : List Deed) : Type 0 where
  pub steps : List Step
  pub apart : TakenApart setup steps
  pub sent : sent_by steps ≡ said_by done
  pub nodes : (name : NodeName) → left_at name (new_node setup name) steps ≡ (life_of name (new_life setup name) (own name done)).node

-- and so are more, of which the first are the same
pub record Further (setup : Setup) (done more : List Deed) (base : Told setup done) : Type 0 where
  pub told : Told setup (done ++ more)
  pub rest : List Step
  pub same : told.steps ≡ base.steps ++ rest

-- what a node is given was sent to it, if it is a message
was-sent : (safe : NodeName → ℕ) (earlier : List Deed) {sent : List Message} {name : NodeName} (n : Node) (work : NodeWork) →
    sent ≡ said_by earlier → name_of n ≡ name → IsAddressed name work → IsSupported safe earlier work →
    (number : ℕ) × WasSent sent n number work
was-sent safe earlier {sent} n (Deliver message) same own addressed supported =
    let at = place_of sent message
    (subst (In message) (sym same) (in-said message supported.deed earlier supported.done_before supported.its)) in
    (at.0, (at.1, addressed ∙ sym own))
was-sent safe earlier n _ same own addressed supported = (0, tt)

-- One deed more

life-push : (setup : Setup) (name : NodeName) (done : List Deed) (deed : Deed) →
    life_of name (new_life setup name) (own name (done ++ deed ∷ []))
    ≡ cond (same_node deed.node name) (life_next name (life_of name (new_life setup name) (own name done)) deed.work)
    (life_of name (new_life setup name) (own name done))
life-push setup name done deed = by (same_node deed.node name) refl
  where
    by : (b : Bool) → same_node deed.node name ≡ b → life_of name (new_life setup name) (own name (done ++ deed ∷ []))
        ≡ cond b (life_next name (life_of name (new_life setup name) (own name done)) deed.work)
        (life_of name (new_life setup name) (own name done))
    by true e = ap (life_of name (new_life setup name)) (own-push name done deed e)
        ∙ life_of-append name (new_life setup name) (own name done) (deed ∷ [])
    by false e = ap (life_of name (new_life setup name)) (own-others name done deed e)

told-push : {setup : Setup} {safe : NodeName → ℕ} {done : List Deed} {deed : Deed} {told : Told setup done} → Brought safe done deed →
    Lives deed.node (life_of deed.node (new_life setup deed.node) (own deed.node done)) deed → Further setup done (deed ∷ []) told
told-push {setup} {safe} {done} {deed} {told} brought lives =
    let n : Node = (life_of deed.node (new_life setup deed.node) (own deed.node done)).node in
    let own_name : name_of n ≡ deed.node =
    name-life deed.node (new_life setup deed.node) (works_of (own deed.node done)) ∙ name-new setup deed.node in
    let was : (number : ℕ) × WasSent (sent_by told.steps) n number deed.work =
    was-sent safe done n deed.work told.sent own_name brought.addressed brought.supported in
    let step : Step = record {
      node = deed.node;
      event = event_of n was.0 deed.work;
      work = deed.work;
      before = n;
      after = (node_step n deed.work).0;
      sent = deed.sent;
    } in
    record {
      rest = step ∷ [];
      same = refl;
      told = record {
        steps = told.steps ++ step ∷ [];
        apart = taken_apart-push told.apart (record {
          given = given-job (sent_by told.steps) n was.0 deed.work was.1 lives.can
              ∙ ap (λ (name : NodeName). Some (let job : Job = record { node = name; work = deed.work } in job)) own_name;
          before = sym (told.nodes deed.node);
          can = takes-own n was.0 deed.work lives.can;
          state = refl;
          sends = lives.sends;
        });
        sent = sent_by-push told.steps step ∙ (ap (λ l. l ++ deed.sent) told.sent ∙ sym (said-push done deed));
        nodes = λ name. left_at-push name (new_node setup name) told.steps step ∙ (by name (same_node deed.node name) refl
            ∙ sym (ap (λ (l : Life). l.node) (life-push setup name done deed)));
      };
    }
  where
    by : (name : NodeName) (b : Bool) → same_node deed.node name ≡ b →
        cond b (node_step (life_of deed.node (new_life setup deed.node) (own deed.node done)).node deed.work).0
        (left_at name (new_node setup name) told.steps)
        ≡ (cond b (life_next name (life_of name (new_life setup name) (own name done)) deed.work)
        (life_of name (new_life setup name) (own name done))).node
    by name true e =
        ap (λ (n : NodeName). (node_step (life_of n (new_life setup n) (own n done)).node deed.work).0) (same_node-true deed.node name e)
    by name false e = told.nodes name

-- the same steps, of the same deeds
abbrev moved : (setup : Setup) (done other : List Deed) → done ≡ other → Told setup done → Told setup other
moved setup done other e told = record {
  steps = told.steps;
  apart = told.apart;
  sent = told.sent ∙ ap said_by e;
  nodes = λ name. told.nodes name ∙ ap (λ l. (life_of name (new_life setup name) (own name l)).node) e;
}

further-none : {setup : Setup} {done : List Deed} {told : Told setup done} → Further setup done [] told
further-none {setup} {done} {told} = record {
  told = moved setup done (done ++ []) (sym (append-nil done)) told;
  rest = [];
  same = sym (append-nil told.steps);
}

further-both : {setup : Setup} {done more last : List Deed} {base : Told setup done} (one : Further setup done more base) →
    Further setup (done ++ more) last one.told → Further setup done (more ++ last) base
further-both {setup} {done} {more} {last} {base} one two = record {
  told = moved setup ((done ++ more) ++ last) (done ++ (more ++ last)) (append_assoc done more last) two.told;
  rest = one.rest ++ two.rest;
  same = two.same ∙ (ap (λ l. l ++ two.rest) one.same ∙ append_assoc base.steps one.rest two.rest);
}

pub told-from : {setup : Setup} (safe : NodeName → ℕ) {done : List Deed} (more : List Deed) {told : Told setup done}
    → AllBrought safe done more →
    ((name : NodeName) → IsLived name (life_of name (new_life setup name) (own name done)) (own name more)) → Further setup done more told
told-from {setup} safe {done} [] {told} brought lived = further-none {setup = setup} {done = done} {told = told}
told-from {setup} safe {done} (deed ∷ more) {told} brought lived =
    let one : Further setup done (deed ∷ []) told = told-push {setup = setup} {safe = safe} {done = done} {deed = deed}
    {told = told} brought.0 (here (lived deed.node)) in
    let next : Further setup (done ++ deed ∷ []) more one.told = told-from {setup = setup} safe
    {done = (done ++ deed ∷ [])} more {told = one.told} brought.1
    (λ name. subst (λ l. IsLived name l (own name more)) (sym (life-push setup name done deed))
    (later name (same_node deed.node name) (lived name))) in
    further-both {setup = setup} {done = done} {more = (deed ∷ [])} {last = more} {base = told} one next
  where
    here : IsLived deed.node (life_of deed.node (new_life setup deed.node) (own deed.node done)) (own deed.node (deed ∷ more)) →
        Lives deed.node (life_of deed.node (new_life setup deed.node) (own deed.node done)) deed
    here its = (subst (λ b. IsLived deed.node (life_of deed.node (new_life setup deed.node) (own deed.node done))
        (cond b (deed ∷ own deed.node more) (own deed.node more))) (same_node-refl deed.node) its).0

    later : (name : NodeName) (b : Bool) →
        IsLived name (life_of name (new_life setup name) (own name done)) (cond b (deed ∷ own name more) (own name more)) →
        IsLived name (cond b (life_next name (life_of name (new_life setup name) (own name done)) deed.work)
        (life_of name (new_life setup name) (own name done))) (own name more)
    later name true its = its.1
    later name false its = its

pub told-none : {setup : Setup} → Told setup []
told-none = record { steps = []; apart = taken_apart-none; sent = refl; nodes = λ name. refl }

pub told-done : {setup : Setup} {all : Processes} → Goes setup all → Told setup all.done
told-done {setup} {all} goes =
    (told-from {setup = setup} (safe_at all) {done = []} all.done {told = told-none} goes.brought (λ name. (goes.well name).lived)).told

pub has-history : (setup : Setup) (happenings : List Happening) → MayAll setup (new_processes setup) happenings →
    HasHistory setup (after_all setup (new_processes setup) happenings)
has-history setup happenings may =
    let all : Processes = after_all setup (new_processes setup) happenings in
    let goes : Goes setup all = goes-all setup (new_processes setup) happenings goes-new may in
    let told : Told setup all.done = told-done goes in
    record {
      steps = told.steps;
      apart = told.apart;
      sent = λ message at.
          let leaves : MayLeave (safe_at all) all.done message = goes.left message at in
          subst (In message) (sym told.sent) (in-said message leaves.deed all.done leaves.done_before leaves.its);
      nodes = λ name. told.nodes name ∙ ap (λ (l : Life). l.node) (sym (goes.well name).life);
    }

-- a step that may be taken stands behind all that was done
pub steps-come-last : StepsComeLast
steps-come-last setup happenings may name work taken =
    let all : Processes = after_all setup (new_processes setup) happenings in
    let goes : Goes setup all = goes-all setup (new_processes setup) happenings goes-new may in
    let deed : Deed = deed_of name (all.at name).life work in
    let told : Told setup (all.done ++ deed ∷ []) = told-done (goes-after (Takes name work) goes taken) in
    record {
      steps = told.steps;
      apart = told.apart;
      before = said_by all.done;
      whole = told.sent ∙ said-push all.done deed;
      left_by_then = λ message at.
          let leaves : MayLeave (safe_at all) all.done message = goes.left message at in
          in-said message leaves.deed all.done leaves.done_before leaves.its;
    }

-- a node is the one that its journal makes
pub journals-make : {setup : Setup} {all : Processes} → Goes setup all → (name : NodeName) →
    SameNode (node_after (new_node setup name) (all.at name).life.journal) (all.at name).life.node
journals-make {setup} {all} goes name =
    subst (λ (l : Life). SameNode (node_after (new_node setup name) l.journal) l.node) (sym (goes.well name).life)
    (journal-makes setup name (own name all.done))

pub journals-make-nodes : JournalsMakeNodes
journals-make-nodes setup happenings may = journals-make
    (goes-all setup (new_processes setup) happenings goes-new may)
