-- A coordinator that is loaded is the one that was saved, and a host but for its master; and no save is a record of a
-- journal.
use Rattle.std.proofs.Common.{◌≡◌, Bool, true, false, ◌||◌, nat_eq, cond, Some, None, List, [], ◌∷◌}
use Rattle.std.proofs.Common.{◌++◌, drop, filter, ℕ, refl, sym, ap, ◌∙◌, subst}
use Rattle.std.proofs.lemmas.List.{drop_at}
use Rattle.std.specs.Prelude.{is_some}
use Rattle.rc_model.specs.Model.{Master, new_master, runs}
use Rattle.rc_model.proofs.Tests.{true_false}
use Rattle.rc_history.specs.Remade.{host_keeps, coordinator_keeps, SameButMaster}
use Rattle.rc_coordinator.specs.Book.{Book, coordinator_of}
use Rattle.rc_world.specs.HostView.{HostData, host_of}
use Rattle.rc_world.specs.HostParts.{HostParts, head_of, last_server, host_from}
use Rattle.rc_world.specs.NodeView.{NodeData, OutsideData, CoordinatorData, HostNodeData, node_seen}
use Rattle.rc_types.specs.declared.events.NodeWork.{NodeWork}
use Rattle.rc_types.specs.declared.events.NodeWork.TheVariants as work
use Rattle.rc_types.specs.declared.events.Order.{Order}
use Rattle.rc_types.specs.declared.events.Order.TheVariants as order
use Rattle.rc_keeping.specs.Claims.{AreReadFrom}
use Rattle.rc_keeping.specs.Keeping.{host_given, coordinator_given}
use Rattle.rc_keeping.specs.Spelling.{coded_work, journal_of}
use Rattle.rc_keeping.proofs.JournalLaws.{written-is-read-back}
use Rattle.rc_keeping.proofs.ComingBack.{saved-hosts-come-back, coordinators-come-back}
use Rattle.rc_keeping.proofs.SaveLaws.{seals-apart, saved-is-loaded}
use Rattle.rc_keeping.specs.Saved.{Saved, HostSave, CoordinatorSave, saved_of, node_from, coded, save_of}
use Rattle.rc_keeping.specs.SaveClaims.{IsLoaded, SavesAreNoRecords, LoadedIsSame, LoadedGoesOn, HostsComeBack}
use Rattle.rc_keeping.specs.SaveClaims.{LoadedIsTheSaved, CoordinatorsComeBack}

runs-where : (b : Bool) (master : Master) → is_some (cond b (Some master) None) ≡ b
runs-where true master = refl
runs-where false master = refl

abbrev parts_in : HostData → HostParts
parts_in host = record { head = head_of (host_of host); backup = host.backup }

same-host : (host : HostData) → SameButMaster (host_from (parts_in host)) (host_of host)
same-host host =
    let head = head_of (host_of host) in record {
      runs = runs-where (runs (host_of host)) (new_master (last_server head) head.setup);
      rest = refl;
    }

save-of-host : (parts other : HostParts) → Some (HostSave parts) ≡ Some (HostSave other) → parts ≡ other
save-of-host parts other e = cc

pub loaded-is-same : LoadedIsSame
loaded-is-same host parts is =
    let same : parts_in host ≡ parts = save-of-host (parts_in host) parts is in
    subst (λ (p : HostParts). SameButMaster (host_from p) (host_of host)) same (same-host host)

pub loaded-goes-on : LoadedGoesOn
loaded-goes-on host parts works is =
    saved-hosts-come-back (host_from parts) (host_of host) works (loaded-is-same host parts is)

-- ---- from a disk

same-save : (one other : Saved) → Some one ≡ Some other → one ≡ other
same-save one other e = cc

same-book : (one other : Book) → Some (CoordinatorSave one) ≡ Some (CoordinatorSave other) → one ≡ other
same-book one other e = cc

-- what stands behind a save is read from where the save ends
behind : (saved : Saved) (bytes rest : List ℕ) (node : NodeData) (count : ℕ) (read : List NodeWork) (good : ℕ) →
    bytes ≡ save_of saved → IsLoaded (bytes ++ rest) node count → AreReadFrom (drop count (bytes ++ rest)) read good →
    (node_seen node ≡ node_from saved) × AreReadFrom rest read good
behind saved bytes rest node count read good is loaded all =
    let there = saved-is-loaded saved rest node count (subst (λ (xs : List ℕ). IsLoaded (xs ++ rest) node count) is loaded) in
    let past : drop count (bytes ++ rest) ≡ rest =
    ap (λ (xs : List ℕ). drop count (xs ++ rest)) is ∙ drop_at (save_of saved) rest count (sym there.2) in
    (there.0, subst (λ (xs : List ℕ). AreReadFrom xs read good) past all)

pub hosts-come-back : HostsComeBack
hosts-come-back host works saved node count read good is loaded all =
    let kept : List NodeWork = filter host_keeps works in
    let mine : is.saved ≡ HostSave (parts_in host) = sym (same-save (HostSave (parts_in host)) is.saved is.its) in
    let found = behind is.saved saved (journal_of kept) node count read good is.written loaded all in
    let same : read ≡ kept = written-is-read-back kept read good found.1 in (
      host_from (parts_in host),
      found.0 ∙ ap node_from mine,
      subst (λ (given : List NodeWork). SameButMaster (host_given (host_from (parts_in host)) given) (host_given (host_of host) works))
          (sym same) (loaded-goes-on host (parts_in host) works refl),
    )

-- ---- the coordinator

coordinator-saved : (node : NodeData) (book : Book) → saved_of node ≡ Some (CoordinatorSave book) → node ≡ CoordinatorData book
coordinator-saved OutsideData book e = absurd cc
coordinator-saved (CoordinatorData other) book e = ap CoordinatorData (same-book other book e)
coordinator-saved (HostNodeData host) book e = absurd cc

pub loaded-is-the-saved : LoadedIsTheSaved
loaded-is-the-saved book saved rest node count is loaded =
    let mine : is.saved ≡ CoordinatorSave book = sym (same-save (CoordinatorSave book) is.saved is.its) in
    let there = saved-is-loaded is.saved rest node count
    (subst (λ (xs : List ℕ). IsLoaded (xs ++ rest) node count) is.written loaded) in
    coordinator-saved node book (there.1 ∙ ap (λ (s : Saved). Some s) mine)

pub coordinators-are-back : CoordinatorsComeBack
coordinators-are-back book works saved node count read good is loaded all =
    let kept : List NodeWork = filter coordinator_keeps works in
    let mine : is.saved ≡ CoordinatorSave book = sym (same-save (CoordinatorSave book) is.saved is.its) in
    let found = behind is.saved saved (journal_of kept) node count read good is.written loaded all in
    let same : read ≡ kept = written-is-read-back kept read good found.1 in (
      coordinator_of book,
      found.0 ∙ ap node_from mine,
      ap (coordinator_given (coordinator_of book)) same ∙ coordinators-come-back (coordinator_of book) works,
    )

-- ---- what stands behind the version

kind_of : List ℕ → ℕ
kind_of [] = 0
kind_of (version ∷ []) = 0
kind_of (version ∷ kind ∷ rest) = kind

-- the kinds of saves are no kinds of works
abbrev is_of_save : ℕ → Bool
is_of_save kind = nat_eq kind 9 || nat_eq kind 10

order-kind : (x : Order) → is_of_save (kind_of (coded_work (work.Order x))) ≡ false
unfolding kind_of
order-kind (order.Suspect id) = refl
order-kind (order.Decide id) = refl
order-kind (order.Create table owner) = refl
order-kind (order.Split table at) = refl

work-kind : (w : NodeWork) → is_of_save (kind_of (coded_work w)) ≡ false
unfolding kind_of
work-kind (work.Order x) = order-kind x
work-kind work.Tick = refl
work-kind _ = refl

save-kind : (saved : Saved) → is_of_save (kind_of (coded saved)) ≡ true
unfolding kind_of
save-kind (HostSave parts) = refl
save-kind (CoordinatorSave book) = refl

pub saves-are-no-records : SavesAreNoRecords
saves-are-no-records saved rest w after e =
    let same : coded saved ≡ coded_work w = (seals-apart (coded saved) (coded_work w) rest after e).0 in
    true_false (sym (save-kind saved) ∙ (ap (λ bytes. is_of_save (kind_of bytes)) same ∙ work-kind w))
