-- What a result says that is the picked plan or refusal, or for want of memory F1.
use Rattle.std.proofs.Common.{◌≡◌, ◌≢◌, ◌⊎◌, ℕ, ⊎_elim, inr, inl, IfOk, IfErr, List, Some, None, Result, Ok, Err, ap}
use Rattle.rc_model.specs.Model.{ServerId, Pair, Row, Fault, HeadMissing, SegmentMissing, HeldRow, head_row, pick, IsPickable}
use Rattle.rc_types.specs.declared.rows.Plan.{Plan}
use Rattle.rc_types.specs.declared.faults.Fault.TheVariants.{OutOfMemory}
use Rattle.rc_model.specs.PickMissing.{HasNoHead, IsLeastMissing}
use Rattle.rc_model.proofs.Pickable.{pick_none, picked-from_pickable, pickable-from_picked}
use Rattle.rc_model.proofs.NonePickable.{head_none, head_missing, segment_missing, missing_segment}

given_ok : (picked result : Result Plan Fault) → IfOk result (λ plan. picked ≡ Ok plan) →
    IfErr result (λ e. (e ≡ OutOfMemory) ⊎ (picked ≡ Err e)) → (plan : Plan) → picked ≡ Ok plan →
    (result ≡ Ok plan) ⊎ (result ≡ Err OutOfMemory)
given_ok picked (Ok other) ok err plan is = let same : other ≡ plan = cc in inl (ap Ok same)
given_ok picked (Err e) ok err plan is = ⊎_elim {C = (◌≡◌ {A = Result Plan Fault} (Err e) (Ok plan)) ⊎
    (Err e ≡ Err OutOfMemory)} (λ (f1 : e ≡ OutOfMemory). inr (ap Err f1)) (λ (other : picked ≡ Err e). absurd cc) err

given_err : (picked result : Result Plan Fault) → IfOk result (λ plan. picked ≡ Ok plan) →
    IfErr result (λ e. (e ≡ OutOfMemory) ⊎ (picked ≡ Err e)) → (fault : Fault) → picked ≡ Err fault →
    (result ≡ Err fault) ⊎ (result ≡ Err OutOfMemory)
given_err picked (Ok other) ok err fault is = absurd cc
given_err picked (Err e) ok err fault is = ⊎_elim {C = (◌≡◌ {A = Result Plan Fault} (Err e) (Err fault)) ⊎
    (Err e ≡ Err OutOfMemory)} (λ (f1 : e ≡ OutOfMemory). inr (ap Err f1)) (λ (other : picked ≡ Err e).
    let same : e ≡ fault = cc in inl (ap Err same)) err

picked_err : (picked result : Result Plan Fault) → IfErr result (λ e. (e ≡ OutOfMemory) ⊎ (picked ≡ Err e)) →
    (fault : Fault) → fault ≢ OutOfMemory → result ≡ Err fault → picked ≡ Err fault
picked_err picked (Ok other) err fault apart is = absurd cc
picked_err picked (Err e) err fault apart is =
    let same : e ≡ fault = cc in
    ⊎_elim {C = picked ≡ Err fault} (λ (f1 : e ≡ OutOfMemory). let f1' : fault ≡ OutOfMemory = cc in absurd (apart f1'))
    (λ (other : picked ≡ Err e). cc) err

module _ (min : Pair) (replies : List (ServerId × List Row)) where
  pub if_pickable : (result : Result Plan Fault) → IfOk result (λ plan. pick min replies ≡ Ok plan) → IfOk result (IsPickable min replies)
  if_pickable (Ok plan) ok = pickable-from_picked min replies ok
  if_pickable (Err e) ok = tt

  pub is_picked : (result : Result Plan Fault) (plan : Plan) → IfOk result (λ plan. pick min replies ≡ Ok plan) →
      IfErr result (λ e. (e ≡ OutOfMemory) ⊎ (pick min replies ≡ Err e)) → IsPickable min replies plan →
      (result ≡ Ok plan) ⊎ (result ≡ Err OutOfMemory)
  is_picked result plan ok err is = given_ok (pick min replies) result ok err plan (picked-from_pickable min replies is)

  pub is_missed : (result : Result Plan Fault) (seg : ℕ) → IfOk result (λ plan. pick min replies ≡ Ok plan) →
      IfErr result (λ e. (e ≡ OutOfMemory) ⊎ (pick min replies ≡ Err e)) → IsLeastMissing min replies seg →
      (result ≡ Err (SegmentMissing seg)) ⊎ (result ≡ Err OutOfMemory)
  is_missed result seg ok err is = given_err (pick min replies) result ok err (SegmentMissing seg) (missing_segment min replies is)

  pub is_missing : (result : Result Plan Fault) (seg : ℕ) →
      IfErr result (λ e. (e ≡ OutOfMemory) ⊎ (pick min replies ≡ Err e)) → result ≡ Err (SegmentMissing seg) →
      IsLeastMissing min replies seg
  is_missing result seg err is =
      segment_missing min replies (picked_err (pick min replies) result err (SegmentMissing seg) (λ same. cc) is)

  pub no_head : (result : Result Plan Fault) → IfErr result (λ e. (e ≡ OutOfMemory) ⊎ (pick min replies ≡ Err e)) →
      result ≡ Err HeadMissing → HasNoHead min replies
  no_head result err is = head_missing min replies (picked_err (pick min replies) result err HeadMissing (λ same. cc) is)

  -- there is none where no head row is found, and there is one where one is
  pub none_found : head_row min replies ≡ None → HasNoHead min replies
  none_found none = head_missing min replies (pick_none min replies none)

  pub one_found : (head : HeldRow) → head_row min replies ≡ Some head → HasNoHead min replies → ⊥
  one_found head is none = let nothing : head_row min replies ≡ None = head_none min replies none in cc

pub ruleset picking = (if_pickable, is_missing, no_head, none_found, one_found)
