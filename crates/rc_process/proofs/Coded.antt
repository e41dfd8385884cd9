-- A message that has come as bytes, the start of a host, and faults.
use Rattle.std.proofs.Common.{◌≡◌, ℕ, ◌<◌, ◌≤◌, ◌⊎◌, inl, inr, List, [], ◌∷◌, ◌++◌, length, refl, sym, ap, ◌∙◌, arith, length-append}
use Rattle.std.proofs.Common.{Result, Ok, Err, Some, None}
use Rattle.std.proofs.lemmas.List.{append-nil}
use Rattle.rc_types.specs.declared.events.NodeWork.{NodeWork}
use Rattle.rc_types.specs.declared.events.NodeWork.TheVariants as work
use Rattle.rc_types.specs.declared.messages.Message.{Message}
use Rattle.rc_codec.specs.Claims.{DecodesFront, BeginsWithNone}
use Rattle.rc_codec.specs.Bodies.{coded_message}
use Rattle.rc_codec.specs.declared.faults.DecodeFault.{DecodeFault}
use Rattle.rc_codec.specs.declared.faults.DecodeFault.TheVariants.{OutOfMemory as F1}
use Rattle.rc_backup.specs.BackupView.{Holdings, backup_of}
use Rattle.rc_model.specs.Backup.{open_names}
use Rattle.rc_world.specs.NodeView.{NodeData, OutsideData, CoordinatorData, HostNodeData, node_seen, backup_in}
use Rattle.rc_keeping.specs.Spelling.{sealed, record_of}
use Rattle.rc_keeping.specs.declared.faults.SaveFault.{SaveFault}
use Rattle.rc_keeping.specs.declared.faults.SaveFault.TheVariants.{OutOfMemory, Outside}
use Rattle.rc_process.specs.View.{IsNoMessage, IsDeliveryOf, whole_start}

-- a message that takes all of the bytes
pub whole : (bytes : List ℕ) (code rest : List ℕ) (n : ℕ) → n ≡ length code → bytes ≡ code ++ rest → length bytes ≤ n → bytes ≡ code
whole bytes code [] n is e h = e ∙ append-nil code
whole bytes code (x ∷ rest) n is e h = absurd (omega (arith, ap length e ∙ length-append code (x ∷ rest)))

-- the second of two pairs
second-same : (answer : Result (Message × ℕ) DecodeFault) (one other : Message × ℕ) → answer ≡ Ok one → answer ≡ Ok other →
    one.1 ≡ other.1
second-same answer one other p q = let e : one ≡ other = cc in ap (λ (x : Message × ℕ). x.1) e

-- where it takes fewer the bytes are none
pub not_whole : (bytes : List ℕ) (found : Message × ℕ) (answer : Result (Message × ℕ) DecodeFault) →
    DecodesFront coded_message bytes answer → answer ≡ Ok found → found.1 < length bytes → IsNoMessage bytes
not_whole bytes found answer again is few other e = by (again other [] (e ∙ sym (append-nil (coded_message other))))
  where
    by : (answer ≡ Ok (other, length (coded_message other))) ⊎ (answer ≡ Err F1) → ⊥
    by (inl same) =
        let count : found.1 ≡ length (coded_message other) = second-same answer found (other, length (coded_message other)) is same in
        let all : length bytes ≡ length (coded_message other) = ap length e in
        omega arith
    by (inr none) = cc

-- none stands at their front
pub none_in : (bytes : List ℕ) → BeginsWithNone coded_message bytes → IsNoMessage bytes
none_in bytes none message e = none message [] (e ∙ sym (append-nil (coded_message message)))

-- the record of a delivery has the bytes of the message behind a 1
pub sealed_delivery : (given : NodeWork) (bytes : List ℕ) → IsDeliveryOf given bytes → sealed (1 ∷ bytes) ≡ record_of given
sealed_delivery (work.Deliver message) bytes is = ap (λ b. sealed (1 ∷ b)) is
sealed_delivery _ bytes is = absurd is

-- the start of a host names what its backup has open
pub starts_whole : (node : NodeData) (holdings : Holdings) → backup_in node ≡ Some holdings →
    whole_start (node_seen node) ≡ work.Start (open_names (backup_of holdings))
starts_whole OutsideData holdings e = absurd cc
starts_whole (CoordinatorData book) holdings e = absurd cc
starts_whole (HostNodeData host) holdings e =
    ap (λ (h : Holdings). work.Start (open_names (backup_of h))) (let s : host.backup ≡ holdings = cc in s)

pub starts_nothing : (node : NodeData) → backup_in node ≡ None → whole_start (node_seen node) ≡ work.Start []
starts_nothing OutsideData e = refl
starts_nothing (CoordinatorData book) e = refl
starts_nothing (HostNodeData host) e = absurd cc

-- why nothing was saved
pub save_faults : (fault : SaveFault) → (fault ≡ Outside) ⊎ (fault ≡ OutOfMemory)
save_faults Outside = inl refl
save_faults OutOfMemory = inr refl
