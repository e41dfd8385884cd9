-- What is loaded is what was saved.
use Rattle.std.proofs.Common.{◌≡◌, ℕ, ◌+◌, ◌-◌, List, [], ◌∷◌, ◌++◌, length, take, Some, None}
use Rattle.std.proofs.Common.{refl, sym, ap, subst, ◌∙◌, append_assoc, arith}
use Rattle.std.proofs.lemmas.List.{take_at, length-append, append-nil}
use Rattle.rc_codec.specs.Claims.{IsPrefixFree, BeginsWithNone}
use Rattle.rc_codec.specs.Reading.{Fails}
use Rattle.rc_codec.specs.declared.faults.DecodeFault.{DecodeFault}
use Rattle.rc_codec.specs.declared.faults.DecodeFault.TheVariants.{OutOfMemory, Malformed}
use Rattle.rc_codec.proofs.Promises.{is_prefix_free}
use Rattle.rc_codec.proofs.Lawful.{IsBytes, some_is}
use Rattle.rc_coordinator.specs.Book.{Book, IsBook}
use Rattle.rc_world.specs.HostView.{IsMasterSetup}
use Rattle.rc_world.specs.HostParts.{HostParts, host_parts_in}
use Rattle.rc_world.specs.NodeView.{NodeData, OutsideData, CoordinatorData, HostNodeData, node_seen, book_in}
use Rattle.rc_keeping.specs.Spelling.{sealed, sum_of}
use Rattle.rc_keeping.proofs.RecordLaws.{head_code, head_law, head_of}
use Rattle.rc_keeping.proofs.SealLaws.{sealed_law}
use Rattle.rc_keeping.specs.Saved.{Saved, HostSave, CoordinatorSave, saved_of, node_from, coded, save_of}
use Rattle.rc_keeping.specs.Order.{IsInOrder, IsSound}
use Rattle.rc_keeping.specs.SaveReaders.{alone_at}
use Rattle.rc_keeping.specs.SaveClaims.{IsSaved, IsLoaded, IsNodeOf, CodesNothing, BeginsWithNoSave}
use Rattle.rc_keeping.specs.SaveClaims.{SavedIsLoaded, SavesAreTaken, CutIsRefused, DamagedIsRefused}
use Rattle.rc_keeping.proofs.CodedLaws.{coded_law, alone-again, alone-takes}

-- ---- what a node is saved as

pub saved_host : (node : NodeData) (parts : HostParts) → host_parts_in node ≡ Some parts → saved_of node ≡ Some (HostSave parts)
saved_host OutsideData parts e = absurd cc
saved_host (CoordinatorData book) parts e = absurd cc
saved_host (HostNodeData host) parts e = ap (λ (p : HostParts). Some (HostSave p)) (some_is _ parts e)

pub saved_book : (node : NodeData) (book : Book) → book_in node ≡ Some book → saved_of node ≡ Some (CoordinatorSave book)
saved_book OutsideData book e = absurd cc
saved_book (CoordinatorData other) book e = ap (λ (b : Book). Some (CoordinatorSave b)) (some_is other book e)
saved_book (HostNodeData host) book e = absurd cc

pub saved_nothing : (node : NodeData) → host_parts_in node ≡ None → book_in node ≡ None → saved_of node ≡ None
saved_nothing OutsideData no_host no_coordinator = refl
saved_nothing (CoordinatorData book) no_host no_coordinator = absurd cc
saved_nothing (HostNodeData host) no_host no_coordinator = absurd cc

pub is_saved_host : (node : NodeData) (parts : HostParts) (before after : List ℕ) → host_parts_in node ≡ Some parts →
    IsMasterSetup parts.head.setup → IsInOrder parts.backup.table → after ≡ before ++ save_of (HostSave parts) →
    IsSaved node before after
is_saved_host node parts before after its limits order written = record {
  saved = HostSave parts;
  its = saved_host node parts its;
  sound = record { limits = limits; order = order };
  written = written;
}

pub is_saved_book : (node : NodeData) (book : Book) (before after : List ℕ) → book_in node ≡ Some book → IsBook book →
    after ≡ before ++ save_of (CoordinatorSave book) → IsSaved node before after
is_saved_book node book before after its sound written = record {
  saved = CoordinatorSave book;
  its = saved_book node book its;
  sound = sound;
  written = written;
}

-- ---- the bytes of that alone

pub node-of-code : (code : List ℕ) (saved : Saved) (node : NodeData) → IsBytes code → alone_at code ≡ Some saved →
    node_seen node ≡ node_from saved → saved_of node ≡ Some saved → IsNodeOf code node
node-of-code code saved node fits read made its =
    record { saved = saved; its = its; made = made; is = alone-takes code saved fits read }

pub codes-unsound : (code : List ℕ) (saved : Saved) → alone_at code ≡ Some saved → (IsSound saved → ⊥) → CodesNothing code
codes-unsound code saved read unsound other sound is =
    let same : saved ≡ other = some_is saved other (sym read ∙ ap alone_at is ∙ alone-again other) in
    unsound (subst IsSound (sym same) sound)

codes-nothing : (code : List ℕ) → alone_at code ≡ None → CodesNothing code
codes-nothing code read other sound is =
    let found : alone_at code ≡ Some other = ap alone_at is ∙ alone-again other in
    cc

pub codes-refused : (code : List ℕ) (fault : DecodeFault) → Fails fault (alone_at code) → fault ≡ Malformed → CodesNothing code
codes-refused code OutOfMemory read e = absurd cc
codes-refused code Malformed read e = codes-nothing code read

-- ---- in their frame

pub seals-apart : IsPrefixFree sealed
seals-apart = is_prefix_free sealed_law

pub saves-apart : IsPrefixFree save_of
saves-apart one other xs ys e =
    let both = seals-apart (coded one) (coded other) xs ys e in
    let plain : coded one ++ [] ≡ coded other ++ [] = ap (λ (zs : List ℕ). zs ++ []) both.0 in
    ((is_prefix_free coded_law one other [] [] plain).0, both.1)

pub is-loaded : (bytes code rest : List ℕ) (node : NodeData) → bytes ≡ sealed code ++ rest → IsNodeOf code node →
    IsLoaded bytes node (length bytes - length rest)
is-loaded bytes code rest node front of =
    let whole : bytes ≡ save_of of.saved ++ rest = front ∙ ap (λ (zs : List ℕ). sealed zs ++ rest) of.is in
    let long : length bytes ≡ length (save_of of.saved) + length rest =
    ap length whole ∙ length-append (save_of of.saved) rest in record {
      saved = of.saved;
      its = of.its;
      made = of.made;
      front = (omega (arith, long), (rest, whole));
    }

pub none-sealed : (bytes : List ℕ) → BeginsWithNone sealed bytes → BeginsWithNoSave bytes
none-sealed bytes none saved rest sound e = none (coded saved) rest e

pub none-coded : (bytes code rest : List ℕ) → bytes ≡ sealed code ++ rest → CodesNothing code → BeginsWithNoSave bytes
none-coded bytes code rest front none saved after sound e =
    none saved sound (seals-apart code (coded saved) rest after (sym front ∙ e)).0

-- ---- the laws

pub saved-is-loaded : SavedIsLoaded
saved-is-loaded saved rest node count is =
    let same : saved ≡ is.saved = (saves-apart saved is.saved rest is.front.1.0 is.front.1.1).0 in (
      is.made ∙ ap node_from (sym same),
      is.its ∙ ap (λ (s : Saved). Some s) (sym same),
      is.front.0 ∙ ap (λ (s : Saved). length (save_of s)) (sym same),
    )

pub saves-are-taken : SavesAreTaken
saves-are-taken saved rest sound none = none saved rest sound refl

nothing-left : (xs ys : List ℕ) → [] ≡ xs ++ ys → ys ≡ []
nothing-left [] ys e = sym e
nothing-left (x ∷ xs) ys e = absurd cc

pub cut-is-refused : CutIsRefused
cut-is-refused saved cut lost whole some other rest e =
    let joined : save_of saved ++ [] ≡ save_of other ++ (rest ++ lost) =
    append-nil (save_of saved) ∙ whole ∙ ap (λ (zs : List ℕ). zs ++ lost) e ∙ append_assoc (save_of other) rest lost in
    some (nothing-left rest lost (saves-apart saved other [] (rest ++ lost) joined).1)

-- the front of a list, of so many elements
same-front : (xs ys more others : List ℕ) → xs ++ more ≡ ys ++ others → length xs ≡ length ys → xs ≡ ys
same-front xs ys more others whole long =
    sym (take_at xs more (length xs) refl) ∙ ap (λ (zs : List ℕ). take (length xs) zs) whole
    ∙ ap (λ (n : ℕ). take n (ys ++ others)) long ∙ take_at ys others (length ys) refl

pub damaged-is-refused : DamagedIsRefused
damaged-is-refused sum damaged rest wrong saved after e =
    let code : List ℕ = coded saved in
    let both = is_prefix_free head_law (length damaged, sum) (head_of code) (damaged ++ rest) (code ++ after)
    (sym (append_assoc (head_code (length damaged, sum)) damaged rest) ∙ e ∙ append_assoc (head_code (head_of code)) code after) in
    let long : length damaged ≡ length code = ap (λ (p : ℕ × ℕ). p.0) both.0 in
    let summed : sum ≡ sum_of code = ap (λ (p : ℕ × ℕ). p.1) both.0 in
    wrong (ap sum_of (same-front damaged code rest after both.1 long) ∙ sym summed)
