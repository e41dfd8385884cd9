-- How the standings of the masters grow, acknowledgement by acknowledgement.
use Rattle.std.proofs.Common.{◌≡◌, ℕ, ◌+◌, Bool, true, false, cond, ◌&&◌, max, List, [], ◌∷◌, ◌++◌, Some, refl, sym}
use Rattle.std.proofs.Common.{ap, ◌∙◌, append_assoc, arith}
use Rattle.std.specs.Prelude.{nat_eq}
use Rattle.std.specs.BTreeMap.{BTreeMap}
use Rattle.std.proofs.lemmas.List.{append-nil}
use Rattle.std.proofs.lemmas.Grind.{common_steps}
use Rattle.std.proofs.lemmas.Bool.Decides.{nat_tests}
use Rattle.rc_model.specs.Model.{ServerId, Message, same_id, is_server, made, Ack, ack_in, acknowledged, all_agree}
use Rattle.rc_model.proofs.Ids.{same_id-true}
use Rattle.rc_audit.specs.declared.writes.AckedWrite.{AckedWrite}
use Rattle.rc_audit.specs.declared.standing.Standing.{Standing}
use Rattle.rc_audit.specs.Writes.{ack_of, acks_from, acks_by}
use Rattle.rc_audit.specs.Standings.{acked_below, all_kept, kept_at, below_at, StandsFor}
use Rattle.rc_audit.proofs.PlaceLemmas.{and_assoc}

-- the acknowledged writes, with one more message
pub acknowledged-push : (sent : List Message) (message : Message) (m : ServerId) →
    acknowledged (sent ++ message ∷ []) m ≡ acknowledged sent m ++ acks_from message m
acknowledged-push [] message m = last (is_server m message.from) (ack_in message.body)
  where
    last : (b : Bool) (acks : List Ack) → cond b (acks ++ []) [] ≡ cond b acks []
    last true acks = append-nil acks
    last false acks = refl
acknowledged-push (first ∷ sent) message m =
    both_first (is_server m first.from) (ack_in first.body) (acknowledged (sent ++ message ∷ []) m)
    (acknowledged sent m) (acks_from message m) (acknowledged-push sent message m)
  where
    both_first : (b : Bool) (one more some last : List Ack) → more ≡ some ++ last →
        cond b (one ++ more) more ≡ cond b (one ++ some) some ++ last
    both_first true one more some last e = ap (λ x. one ++ x) e ∙ sym (append_assoc one some last)
    both_first false one more some last e = e

all_kept-push : (sent : List Message) (m : ServerId) (acks : List Ack) (ack : Ack) →
    all_kept sent m (acks ++ ack ∷ []) ≡ (all_kept sent m acks && all_agree ack (made sent m ack.seg ack.offset))
all_kept-push sent m [] ack = grind (arith, common_steps)
all_kept-push sent m (first ∷ acks) ack =
    ap (λ x. all_agree first (made sent m first.seg first.offset) && x) (all_kept-push sent m acks ack) ∙
    and_assoc (all_agree first (made sent m first.seg first.offset)) (all_kept sent m acks)
    (all_agree ack (made sent m ack.seg ack.offset))

acked_below-push : (acks : List Ack) (ack : Ack) (s : ℕ) →
    acked_below (acks ++ ack ∷ []) s ≡ cond (nat_eq ack.seg s) (max (ack.offset + 1) (acked_below acks s))
    (acked_below acks s)
acked_below-push [] ack s = grind (arith, common_steps)
acked_below-push (first ∷ acks) ack s =
    later (nat_eq first.seg s) (nat_eq ack.seg s) (acked_below (acks ++ ack ∷ []) s) (acked_below acks s)
    (first.offset + 1) (ack.offset + 1) (acked_below-push acks ack s)
  where
    later : (b c : Bool) (all some one last : ℕ) → all ≡ cond c (max last some) some →
        cond b (max one all) all ≡ cond c (max last (cond b (max one some) some)) (cond b (max one some) some)
    later true true all some one last e = omega arith
    later true false all some one last e = omega arith
    later false true all some one last e = e
    later false false all some one last e = e

same_id-flip : (a b : ServerId) → same_id a b ≡ same_id b a
same_id-flip a b = grind (arith, nat_tests)

-- the standings with one more acknowledged write
pub stands_more : (old new : BTreeMap ServerId Standing) (sent some : List Message) (message : Message)
    (master : ServerId) (write : AckedWrite) (agrees : Bool) →
    StandsFor old sent (acknowledged some) → ((m : ServerId) → acks_by (Some (master, write)) m ≡ acks_from message m) →
    agrees ≡ all_agree (ack_of write) (made sent master write.seg write.offset) →
    ((m : ServerId) → kept_at new m ≡ cond (same_id master m) (kept_at old m && agrees) (kept_at old m)) →
    ((m : ServerId) (s : ℕ) → below_at new m s ≡ cond (same_id master m && nat_eq write.seg s)
    (max (write.offset + 1) (below_at old m s)) (below_at old m s)) →
    StandsFor new sent (acknowledged (some ++ message ∷ []))
stands_more old new sent some message master write agrees before acked is now_kept now_below = record {
  kept = λ m. now_kept m
      ∙ kept_step m (same_id master m) (same_id m master) (same_id-flip master m) (λ e. same_id-true e)
      (kept_at old m) (acknowledged some m) (before.kept m)
      ∙ ap (λ x. all_kept sent m x) (sym (acknowledged-push some message m ∙ ap (λ x. acknowledged some m ++ x) (sym (acked m))));
  below = λ m s. now_below m s
      ∙ below_step (same_id master m) (same_id m master) (same_id-flip master m) s (below_at old m s)
      (acknowledged some m) (before.below m s)
      ∙ ap (λ x. acked_below x s) (sym (acknowledged-push some message m ∙ ap (λ x. acknowledged some m ++ x) (sym (acked m))));
}
  where
    kept_step : (m : ServerId) (b c : Bool) → b ≡ c → (c ≡ true → m ≡ master) → (kept : Bool) (acks : List Ack) →
        kept ≡ all_kept sent m acks →
        cond b (kept && agrees) kept ≡ all_kept sent m (acks ++ cond c (ack_of write ∷ []) [])
    kept_step m true true same here kept acks e =
        let at : all_agree (ack_of write) (made sent m write.seg write.offset) ≡ agrees =
        ap (λ x. all_agree (ack_of write) (made sent x write.seg write.offset)) (here refl) ∙ sym is in
        ap (λ x. x && agrees) e ∙ ap (λ x. all_kept sent m acks && x) (sym at) ∙ sym (all_kept-push sent m acks (ack_of write))
    kept_step m false false same here kept acks e = e ∙ ap (λ x. all_kept sent m x) (sym (append-nil acks))
    kept_step m true false same here kept acks e = cc
    kept_step m false true same here kept acks e = cc

    below_step : (b c : Bool) → b ≡ c → (s below : ℕ) (acks : List Ack) → below ≡ acked_below acks s →
        cond (b && nat_eq write.seg s) (max (write.offset + 1) below) below ≡ acked_below (acks ++ cond c (ack_of write ∷ []) []) s
    below_step true true same s below acks e = ap (λ x. cond (nat_eq write.seg s) (max (write.offset + 1) x) x) e ∙
        sym (acked_below-push acks (ack_of write) s)
    below_step false false same s below acks e = e ∙ ap (λ x. acked_below x s) (sym (append-nil acks))
    below_step true false same s below acks e = cc
    below_step false true same s below acks e = cc

-- and with a message that acknowledges nothing
pub stands_same : (standings : BTreeMap ServerId Standing) (sent some : List Message) (message : Message) →
    StandsFor standings sent (acknowledged some) → ((m : ServerId) → [] ≡ acks_from message m) →
    StandsFor standings sent (acknowledged (some ++ message ∷ []))
stands_same standings sent some message before none = record {
  kept = λ m. before.kept m ∙ ap (λ x. all_kept sent m x) (sym (same m));
  below = λ m s. before.below m s ∙ ap (λ x. acked_below x s) (sym (same m));
}
  where
    same : (m : ServerId) → acknowledged (some ++ message ∷ []) m ≡ acknowledged some m
    same m = acknowledged-push some message m ∙ ap (λ x. acknowledged some m ++ x) (sym (none m)) ∙ append-nil (acknowledged some m)
