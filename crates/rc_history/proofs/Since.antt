-- What happens later: of what was done so far nothing is forgotten on which rests what has left.
use Rattle.std.proofs.Common.{◌≡◌, ◌≤◌, ℕ, Bool, true, false, cond, ◌⊎◌, inl, inr, List, [], ◌∷◌, ◌++◌, filter, take, refl, sym, ap, ◌∙◌}
use Rattle.std.proofs.Common.{subst, arith, append_assoc}
use Rattle.std.proofs.lemmas.List.{append-nil}
use Rattle.std.proofs.lemmas.List.Elements.{filter-append}
use Rattle.rc_types.specs.declared.events.Setup.{Setup}
use Rattle.rc_types.specs.declared.messages.Message.{Message}
use Rattle.rc_model.specs.Headline.{In}
use Rattle.rc_model.specs.World.{NodeName, same_node}
use Rattle.rc_model.proofs.Members.{In-append}
use Rattle.rc_history.specs.Nodes.{new_node}
use Rattle.rc_history.specs.Apart.{sent_by, left_at, TakenApart}
use Rattle.rc_history.specs.Lives.{Life, new_life, life_next, stops, replayed, remade}
use Rattle.rc_history.specs.Processes.{Deed, Process, Processes, new_processes, Happening, Takes, Syncs, Leaves, Falls, deed_of, is_left}
use Rattle.rc_history.specs.Processes.{stop_deeds, after, MayLeave, safe_at, May, MayAll, after_all}
use Rattle.rc_history.specs.LifeClaims.{GoesOn, WhatHasLeftStays}
use Rattle.rc_history.proofs.OwnLife.{IsLived, life_of, lived-first, lived-last}
use Rattle.rc_history.proofs.Global.{own, AllBrought, Goes, goes-all, goes-new, in-filter, left-passes, put-safe}
use Rattle.rc_history.proofs.Telling.{Further, told-none, told-from, in-said, said_by}

record Since (early now : Processes) : Type 0 where
  kept : List Deed
  rest : List Deed
  same : now.done ≡ kept ++ rest
  from : (deed : Deed) → In deed kept → In deed early.done
  stays : (deed : Deed) → In deed early.done → deed.rests ≤ safe_at early deed.node → In deed kept
  rises : (name : NodeName) → safe_at early name ≤ safe_at now name

in-filtered : (p : Deed → Bool) (deed : Deed) (deeds : List Deed) → In deed (filter p deeds) → In deed deeds
in-filtered p deed [] at = at
in-filtered p deed (one ∷ deeds) at = by (p one) at (in-filtered p deed deeds)
  where
    by : (b : Bool) → In deed (cond b (one ∷ filter p deeds) (filter p deeds)) → (In deed (filter p deeds) → In deed deeds) →
        In deed (one ∷ deeds)
    by true (inl e) later = inl e
    by true (inr at) later = inr (later at)
    by false at later = inr (later at)

since-same : (early : Processes) → Since early early
since-same early = record {
  kept = early.done;
  rest = [];
  same = sym (append-nil early.done);
  from = λ deed at. at;
  stays = λ deed at e. at;
  rises = λ name. omega arith;
}

through : {early now : Processes} (next : Processes) → ((name : NodeName) → safe_at now name ≤ safe_at next name) → Since early now →
    (name : NodeName) →
    safe_at early name ≤ safe_at next name
through {early} {now} next rises since name = let a : safe_at early name ≤ safe_at now name = since.rises name in
    let b : safe_at now name ≤ safe_at next name = rises name in omega arith

since-after : (setup : Setup) {early now : Processes} (one : Happening) → Since early now → May now one →
    Since early (after setup now one)
since-after setup {now} (Takes name work) since may =
    let process : Process = record { life = life_next name (now.at name).life work; safe = (now.at name).safe } in
    record {
      kept = since.kept;
      rest = since.rest ++ deed_of name (now.at name).life work ∷ [];
      same = ap (λ l. l ++ deed_of name (now.at name).life work ∷ []) since.same
          ∙ append_assoc since.kept since.rest (deed_of name (now.at name).life work ∷ []);
      from = since.from;
      stays = since.stays;
      rises = through (after setup now (Takes name work)) (put-safe now.at name process (omega arith)) since;
    }
since-after setup {now} (Syncs name count) since may =
    let process : Process = record { life = (now.at name).life; safe = count } in
    record {
      kept = since.kept;
      rest = since.rest;
      same = since.same;
      from = since.from;
      stays = since.stays;
      rises = through (after setup now (Syncs name count)) (put-safe now.at name process may.no_less) since;
    }
since-after setup (Leaves message) since may = record {
  kept = since.kept;
  rest = since.rest;
  same = since.same;
  from = since.from;
  stays = since.stays;
  rises = since.rises;
}
since-after setup {early} {now} (Falls name k) since may =
    let kept = take k (now.at name).life.journal in
    let again : Life = replayed setup name kept in
    let stop : List Deed = stop_deeds name again (stops again.node) in
    let process : Process = record { life = remade setup name kept; safe = (now.at name).safe } in
    record {
      kept = filter (is_left name k) since.kept;
      rest = filter (is_left name k) since.rest ++ stop;
      same = ap (λ l. filter (is_left name k) l ++ stop) since.same
          ∙ (ap (λ l. l ++ stop) (filter-append (is_left name k) since.kept since.rest)
          ∙ append_assoc (filter (is_left name k) since.kept) (filter (is_left name k) since.rest) stop);
      from = λ deed at. since.from deed (in-filtered (is_left name k) deed since.kept at);
      stays = λ deed at e.
          in-filter (is_left name k) deed since.kept (since.stays deed at e)
          (left-passes (safe_at now) deed may.no_less
          (let r : safe_at early deed.node ≤ safe_at now deed.node = since.rises deed.node in omega arith));
      rises = through (after setup now (Falls name k)) (put-safe now.at name process (omega arith)) since;
    }

since-all : (setup : Setup) (early now : Processes) (more : List Happening) → Since early now → MayAll setup now more →
    Since early (after_all setup now more)
since-all setup early now [] since may = since
since-all setup early now (one ∷ more) since may =
    since-all setup early (after setup now one) more (since-after setup one since may.0) may.1

-- The history of both

own-append : (name : NodeName) (deeds more : List Deed) → own name (deeds ++ more) ≡ own name deeds ++ own name more
own-append name deeds more = filter-append (λ (d : Deed). same_node d.node name) deeds more

brought-first : (safe : NodeName → ℕ) (earlier deeds more : List Deed) → AllBrought safe earlier (deeds ++ more) →
    AllBrought safe earlier deeds
brought-first safe earlier [] more is = tt
brought-first safe earlier (deed ∷ deeds) more is = (is.0, brought-first safe (earlier ++ deed ∷ []) deeds more is.1)

pub brought-last : (safe : NodeName → ℕ) (earlier deeds more : List Deed) → AllBrought safe earlier (deeds ++ more) →
    AllBrought safe (earlier ++ deeds) more
brought-last safe earlier [] more is = subst (λ l. AllBrought safe l more) (sym (append-nil earlier)) is
brought-last safe earlier (deed ∷ deeds) more is =
    subst (λ l. AllBrought safe l more) (append_assoc earlier (deed ∷ []) deeds)
    (brought-last safe (earlier ++ deed ∷ []) deeds more is.1)

from-said : (message : Message) (deeds : List Deed) → In message (said_by deeds) → (deed : Deed) × In deed deeds × In message deed.sent
from-said message [] at = absurd at
from-said message (one ∷ deeds) at = by (In-append message one.sent (said_by deeds) at) (from-said message deeds)
  where
    by : In message one.sent ⊎ In message (said_by deeds) →
        (In message (said_by deeds) → (deed : Deed) × In deed deeds × In message deed.sent) →
        (deed : Deed) × In deed (one ∷ deeds) × In message deed.sent
    by (inl here) later = (one, inl refl, here)
    by (inr there) later = let found : (deed : Deed) × In deed deeds × In message deed.sent = later there in
        (found.0, inr found.1, found.2)

go-on : {setup : Setup} (early now : Processes) → Goes setup early → Goes setup now → Since early now → GoesOn setup early now
go-on {setup} early now goes goes_now since =
    let brought : AllBrought (safe_at now) [] (since.kept ++ since.rest) = subst (AllBrought (safe_at now) []) since.same goes_now.brought
    in
    let lived = λ (name : NodeName).
    subst (IsLived name (new_life setup name)) (ap (own name) since.same ∙ own-append name since.kept since.rest)
    (goes_now.well name).lived in
    let first : Further setup [] since.kept told-none = told-from (safe_at now) since.kept
    (brought-first (safe_at now) [] since.kept since.rest brought)
    (λ name. lived-first name (new_life setup name) (own name since.kept) (own name since.rest) (lived name)) in
    let last : Further setup since.kept since.rest first.told = told-from (safe_at now) since.rest
    (brought-last (safe_at now) [] since.kept since.rest brought)
    (λ name. lived-last name (new_life setup name) (own name since.kept) (own name since.rest) (lived name)) in
    let all : sent_by last.told.steps ≡ said_by now.done = last.told.sent ∙ ap said_by (sym since.same) in
    record {
      steps = first.told.steps;
      more = last.rest;
      apart = subst (TakenApart setup) last.same last.told.apart;
      left_by_then = λ message at.
          let leaves : MayLeave (safe_at early) early.done message = goes.left message at in
          subst (In message) (sym first.told.sent)
          (in-said message leaves.deed since.kept (since.stays leaves.deed leaves.done_before leaves.safe_by_now) leaves.its);
      left_by_now = λ message at.
          let leaves : MayLeave (safe_at now) now.done message = goes_now.left message at in
          subst (λ l. In message (sent_by l)) last.same
          (subst (In message) (sym all) (in-said message leaves.deed now.done leaves.done_before leaves.its));
      done_by_then = λ message at.
          let found : (deed : Deed) × In deed since.kept × In message deed.sent = from-said message since.kept
          (subst (In message) first.told.sent at) in
          record { deed = found.0; done_before = since.from found.0 found.1; its = found.2 };
      nodes = λ name. ap (left_at name (new_node setup name)) (sym last.same) ∙ (last.told.nodes name
          ∙ (ap (λ l. (life_of name (new_life setup name) (own name l)).node) (sym since.same)
          ∙ ap (λ (l : Life). l.node) (sym (goes_now.well name).life)));
    }

after-append : (setup : Setup) (all : Processes) (early more : List Happening) →
    after_all setup all (early ++ more) ≡ after_all setup (after_all setup all early) more
after-append setup all [] more = refl
after-append setup all (one ∷ early) more = after-append setup (after setup all one) early more

may-first : (setup : Setup) (all : Processes) (early more : List Happening) → MayAll setup all (early ++ more) → MayAll setup all early
may-first setup all [] more may = tt
may-first setup all (one ∷ early) more may = (may.0, may-first setup (after setup all one) early more may.1)

may-last : (setup : Setup) (all : Processes) (early more : List Happening) → MayAll setup all (early ++ more) →
    MayAll setup (after_all setup all early) more
may-last setup all [] more may = may
may-last setup all (one ∷ early) more may = may-last setup (after setup all one) early more may.1

pub stays-left : WhatHasLeftStays
stays-left setup early more may =
    let then : Processes = after_all setup (new_processes setup) early in
    let goes : Goes setup then = goes-all setup (new_processes setup) early goes-new
    (may-first setup (new_processes setup) early more may) in
    let later : MayAll setup then more = may-last setup (new_processes setup) early more may in
    subst (GoesOn setup then) (sym (after-append setup (new_processes setup) early more))
    (go-on then (after_all setup then more) goes (goes-all setup then more goes later)
    (since-all setup then then more (since-same then) later))
