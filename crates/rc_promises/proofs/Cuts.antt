-- A history of processes, cut where some of what is done had been done.
use Rattle.std.proofs.Common.{◌≡◌, ℕ, List, [], ◌∷◌, ◌++◌, sym, ap, ◌∙◌, subst}
use Rattle.std.proofs.lemmas.List.{map-append}
use Rattle.std.proofs.lemmas.List.Elements.{filter-append}
use Rattle.rc_types.specs.declared.events.Setup.{Setup}
use Rattle.rc_model.specs.Model.{Event, Message, replay}
use Rattle.rc_model.specs.World.{NodeName, same_node}
use Rattle.rc_history.proofs.Since.{brought-last}
use Rattle.rc_history.specs.Apart.{Step, events_by, sent_by, TakenApart}
use Rattle.rc_step_laws.specs.WordClaims.{sent_after}
use Rattle.rc_history.specs.Lives.{new_life}
use Rattle.rc_history.specs.Processes.{Deed, Processes, safe_at}
use Rattle.rc_history.proofs.OwnLife.{IsLived, lived-first, lived-last}
use Rattle.rc_history.proofs.Global.{own, AllBrought, Goes}
use Rattle.rc_history.proofs.Telling.{Further, told-none, told-from}
use Rattle.rc_promises.proofs.ServiceApart.{sent-apart}
use Rattle.rc_promises.specs.LinearProcesses.{sent_by_deeds}

-- events that have sent the first of these messages, and with more events all of them
pub record Cut (setup : Setup) (first whole : List Message) : Type 0 where
  pub early : List Event
  pub gap : List Event
  pub early_is : (replay setup early).sent ≡ first
  pub whole_is : (replay setup (early ++ gap)).sent ≡ whole

brought-first : (safe : NodeName → ℕ) (earlier deeds more : List Deed) → AllBrought safe earlier (deeds ++ more) →
    AllBrought safe earlier deeds
brought-first safe earlier [] more is = tt
brought-first safe earlier (deed ∷ deeds) more is = (is.0, brought-first safe (earlier ++ deed ∷ []) deeds more is.1)

pub cut : {setup : Setup} {all : Processes} (kept rest : List Deed) → Goes setup all → all.done ≡ kept ++ rest →
    Cut setup (sent_by_deeds kept) (sent_by_deeds all.done)
cut {setup} {all} kept rest goes same = record {
  early = events_by first.told.steps;
  gap = events_by last.rest;
  early_is = sent-apart first.told.apart ∙ first.told.sent;
  whole_is = ap (sent_after setup) (sym (map-append (λ (step : Step). step.event) first.told.steps last.rest))
      ∙ (sent-apart (subst (TakenApart setup) last.same last.told.apart)
      ∙ (ap sent_by (sym last.same) ∙ (last.told.sent ∙ ap sent_by_deeds (sym same))));
}
  where
    brought : AllBrought (safe_at all) [] (kept ++ rest)
    brought = subst (AllBrought (safe_at all) []) same goes.brought

    lived : (name : NodeName) → IsLived name (new_life setup name) (own name kept ++ own name rest)
    lived name = subst (IsLived name (new_life setup name))
        (ap (own name) same ∙ filter-append (λ (d : Deed). same_node d.node name) kept rest) (goes.well name).lived

    first : Further setup [] kept told-none
    first = told-from (safe_at all) kept (brought-first (safe_at all) [] kept rest brought)
        (λ name. lived-first name (new_life setup name) (own name kept) (own name rest) (lived name))

    last : Further setup kept rest first.told
    last = told-from (safe_at all) rest (brought-last (safe_at all) [] kept rest brought)
        (λ name. lived-last name (new_life setup name) (own name kept) (own name rest) (lived name))
