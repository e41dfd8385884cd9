-- Messages without their entries are judged as the messages are, where no recovery was accepted.
use Rattle.std.proofs.Common.{◌≡◌, ℕ, suc, List, [], ◌∷◌, map, length, Option, Some, None, Result, Ok, Err, IfOk}
use Rattle.std.proofs.Common.{refl, sym, ap, subst, ◌∙◌}
use Rattle.rc_types.specs.declared.ids.Addr.{Addr}
use Rattle.rc_types.specs.declared.messages.Message.{Message}
use Rattle.rc_types.specs.declared.messages.Body.{Body}
use Rattle.rc_types.specs.declared.messages.Body.TheVariants as body
use Rattle.std.specs.declared.alloc.AllocError.{AllocError}
use Rattle.rc_model.specs.Model.{Breach, grant_in, granted, Ack, ack_in, all_acknowledged, plan_in, accepted, breach}
use Rattle.rc_model.specs.Breach.{first_fall, falls_of}
use Rattle.rc_traces.specs.Outline.{no_entries, without_entries, outlined}
use Rattle.rc_traces.specs.Ends.{judgement}
use Rattle.rc_traces.specs.Judged.{finding_in, finding_of, text_of}
use Rattle.rc_traces.specs.declared.judging.Judgement.{Judgement}
use Rattle.rc_traces.specs.declared.judging.Finding.TheVariants.{Bad}

record SameParts (to : Addr) (one other : Body) : Type 0 where
  grant : grant_in to one ≡ grant_in to other
  ack : ack_in one ≡ ack_in other
  plan : plan_in one ≡ plan_in other

same_parts : (to : Addr) (body : Body) → SameParts to (no_entries body) body
same_parts to (body.Write a b c) = record { grant = refl; ack = refl; plan = refl }
same_parts to _ = record { grant = refl; ack = refl; plan = refl }

granted_bare : (sent : List Message) → granted (map without_entries sent) ≡ granted sent
granted_bare [] = refl
granted_bare (message ∷ sent) = rw ((same_parts message.to message.body).grant, granted_bare sent) refl

acknowledged_bare : (sent : List Message) → all_acknowledged (map without_entries sent) ≡ all_acknowledged sent
acknowledged_bare [] = refl
acknowledged_bare (message ∷ sent) = rw ((same_parts message.to message.body).ack, acknowledged_bare sent) refl

accepted_bare : (sent : List Message) → accepted (map without_entries sent) ≡ accepted sent
accepted_bare [] = refl
accepted_bare (message ∷ sent) = rw ((same_parts message.to message.body).plan, accepted_bare sent) refl

length_bare : (sent : List Message) → length (map without_entries sent) ≡ length sent
length_bare [] = refl
length_bare (message ∷ sent) = ap suc (length_bare sent)

-- whether versions fall is seen by the grants alone
module _ (one other : List Message) (same : granted one ≡ granted other) where
  first_same : (later : Ack) (acks : List Ack) → first_fall one later acks ≡ first_fall other later acks
  first_same later [] = refl
  first_same later (earlier ∷ acks) = rw (same, first_same later acks) refl

  falls_same : (all : List Ack) (acks : List Ack) → all_acknowledged one ≡ all → all_acknowledged other ≡ all →
      falls_of one acks ≡ falls_of other acks
  falls_same all [] e f = refl
  falls_same all (later ∷ acks) e f = rw (e, f, first_same later all, falls_same all acks e f) refl

falls_alone : (sent : List Message) → accepted sent ≡ [] → breach sent ≡ falls_of sent (all_acknowledged sent)
falls_alone sent none = rw none refl

breach_bare : (sent : List Message) → accepted sent ≡ [] → breach (map without_entries sent) ≡ breach sent
breach_bare sent none =
    falls_alone (map without_entries sent) (accepted_bare sent ∙ none)
    ∙ ap (falls_of (map without_entries sent)) (acknowledged_bare sent)
    ∙ falls_same (map without_entries sent) sent (granted_bare sent) (all_acknowledged sent) (all_acknowledged sent)
    (acknowledged_bare sent) refl
    ∙ sym (falls_alone sent none)

pub record JudgedAlike (items : List Message) (read : Result (List Message) ℕ) : Type 0 where
  pub finding : finding_in (breach items) ≡ finding_of read
  pub text : judgement items ≡ text_of read

of_bare : (sent : List Message) → accepted sent ≡ [] → JudgedAlike (map without_entries sent) (Ok sent)
of_bare sent none = record {
  finding = ap finding_in (breach_bare sent none);
  text = rw (length_bare sent, breach_bare sent none) refl;
}

pub judged_bare : (read : Result (List Message) ℕ) (items : List Message) → outlined read ≡ Ok items →
    accepted items ≡ [] → JudgedAlike items read
judged_bare (Err place) items e none = absurd (cc)
judged_bare (Ok sent) items e none =
    let same : map without_entries sent ≡ items = cc in
    subst (λ xs. JudgedAlike xs (Ok sent)) same
    (of_bare sent (sym (accepted_bare sent) ∙ ap accepted same ∙ none))

-- what was judged is no trace that is wrong
pub never_bad : (result : Result Judgement AllocError) (found : Option Breach) (X : Type 0) →
    IfOk result (λ judged. judged.finding ≡ finding_in found) →
    IfOk result (λ judged. (place : ℕ) → judged.finding ≡ Bad place → X)
never_bad (Ok judged) None X is = λ place bad. absurd (cc)
never_bad (Ok judged) (Some breach) X is = λ place bad. absurd (cc)
never_bad (Err e) found X is = tt
