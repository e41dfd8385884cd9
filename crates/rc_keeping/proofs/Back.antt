-- What comes back of what a crash leaves of a file.
use Rattle.std.proofs.Common.{◌≡◌, ◌≤◌, ◌<◌, ◌+◌, ◌⊎◌, inl, inr, ℕ, zero, suc, List, [], ◌∷◌, ◌++◌, length, take, drop}
use Rattle.std.proofs.Common.{refl, sym, ap, ◌∙◌, subst, arith, append_assoc, length-append, Some}
use Rattle.std.proofs.lemmas.List.{drop_at, append-nil}
use Rattle.rc_types.specs.declared.events.NodeWork.{NodeWork}
use Rattle.rc_history.specs.Events.{StartsWith}
use Rattle.rc_codec.specs.Claims.{IsPrefixFree, BeginsWithNone}
use Rattle.rc_codec.proofs.Promises.{is_prefix_free}
use Rattle.rc_world.specs.NodeView.{node_seen}
use Rattle.rc_keeping.specs.Claims.{AreReadFrom}
use Rattle.rc_keeping.specs.Spelling.{record_of, journal_of}
use Rattle.rc_keeping.proofs.RecordLaws.{record_law}
use Rattle.rc_keeping.proofs.JournalLaws.{what-stands-before-is-read}
use Rattle.rc_keeping.specs.SaveClaims.{IsLoaded}
use Rattle.rc_keeping.specs.Saved.{save_of, node_from, saved_of}
use Rattle.rc_keeping.proofs.SaveLaws.{saved-is-loaded}
use Rattle.rc_keeping.specs.Files.{CutsAreLeft, WhatIsLeftComesBack}

free : IsPrefixFree record_of
free = is_prefix_free record_law

-- a list that begins with another one, of which enough is there
front : (xs ys left lost : List ℕ) → xs ++ ys ≡ left ++ lost → length xs ≤ length left →
    (rest : List ℕ) × (left ≡ xs ++ rest) × (ys ≡ rest ++ lost)
front [] ys left lost e h = (left, refl, e)
front (x ∷ xs) ys [] lost e h = let none : ⊥ = omega (arith, h) in absurd none
front (x ∷ xs) ys (z ∷ left) lost e h =
    let head : x ≡ z = cc in
    let tail : xs ++ ys ≡ left ++ lost = cc in
    let found : (rest : List ℕ) × (left ≡ xs ++ rest) × (ys ≡ rest ++ lost) = front xs ys left lost tail (omega (arith, h)) in
    (found.0, ap (λ l. z ∷ l) found.1 ∙ ap (λ (y : ℕ). y ∷ xs ++ found.0) (sym head), found.2)

pub journal-append : (one two : List NodeWork) → journal_of (one ++ two) ≡ journal_of one ++ journal_of two
journal-append [] two = refl
journal-append (w ∷ one) two =
    ap (λ l. record_of w ++ l) (journal-append one two) ∙ sym (append_assoc (record_of w) (journal_of one) (journal_of two))

some-bytes : (w : NodeWork) (xs : List ℕ) → [] ≡ record_of w ++ xs → ⊥
some-bytes w xs e = cc

-- a cut through records

record IsCut (works : List NodeWork) (rest : List ℕ) : Type 0 where
  count : ℕ
  behind : List ℕ
  whole : rest ≡ journal_of (take count works) ++ behind
  no_record : BeginsWithNone record_of behind
  no_more : count ≤ length works
  no_less : (k : ℕ) → k ≤ length works → length (journal_of (take k works)) ≤ length rest → k ≤ count

pub le_or_lt : (a b : ℕ) → (a ≤ b) ⊎ (b < a)
le_or_lt zero b = inl (omega arith)
le_or_lt (suc a) zero = inr (omega arith)
le_or_lt (suc a) (suc b) = by (le_or_lt a b)
  where
    by : (a ≤ b) ⊎ (b < a) → (suc a ≤ suc b) ⊎ (suc b < suc a)
    by (inl h) = inl (omega arith)
    by (inr h) = inr (omega arith)

cut-whole : (w : NodeWork) (works : List NodeWork) (rest : List ℕ) → IsCut works rest → IsCut (w ∷ works) (record_of w ++ rest)
cut-whole w works rest cut = record {
  count = suc cut.count;
  behind = cut.behind;
  whole = ap (λ l. record_of w ++ l) cut.whole ∙ sym (append_assoc (record_of w) (journal_of (take cut.count works)) cut.behind);
  no_record = cut.no_record;
  no_more = let n = cut.no_more in omega arith;
  no_less = λ k. less k;
}
  where
    less : (k : ℕ) → k ≤ suc (length works) → length (journal_of (take k (w ∷ works))) ≤ length (record_of w ++ rest) → k ≤ suc cut.count
    less zero h l = omega arith
    less (suc k) h l =
        let one : length (record_of w ++ journal_of (take k works)) ≡ length (record_of w) + length (journal_of (take k works)) =
        length-append (record_of w) (journal_of (take k works)) in
        let two : length (record_of w ++ rest) ≡ length (record_of w) + length rest = length-append (record_of w) rest in
        let within : k ≤ cut.count = cut.no_less k (omega arith) (omega arith) in
        omega arith

cut-within : (w : NodeWork) (works : List NodeWork) (rest lost : List ℕ) → record_of w ++ journal_of works ≡ rest ++ lost →
    length rest < length (record_of w) → IsCut (w ∷ works) rest
cut-within w works rest lost e short = record {
  count = 0;
  behind = rest;
  whole = refl;
  no_record = λ v xs is.
      let both : (w ≡ v) × (journal_of works ≡ xs ++ lost) =
      free w v (journal_of works) (xs ++ lost) (e ∙ (ap (λ l. l ++ lost) is ∙ append_assoc (record_of v) xs lost)) in
      let size : length rest ≡ length (record_of v) + length xs = ap length is ∙ length-append (record_of v) xs in
      let same : length (record_of w) ≡ length (record_of v) = ap (λ (u : NodeWork). length (record_of u)) both.0 in
      omega (arith, short, size, same);
  no_more = omega arith;
  no_less = λ k. less k;
}
  where
    less : (k : ℕ) → k ≤ suc (length works) → length (journal_of (take k (w ∷ works))) ≤ length rest → k ≤ 0
    less zero h l = omega arith
    less (suc k) h l =
        let one : length (record_of w ++ journal_of (take k works)) ≡ length (record_of w) + length (journal_of (take k works)) =
        length-append (record_of w) (journal_of (take k works)) in
        omega (arith, one, l, short)

cut-journal : (works : List NodeWork) (rest lost : List ℕ) → journal_of works ≡ rest ++ lost → IsCut works rest
cut-journal [] [] lost e = record {
  count = 0;
  behind = [];
  whole = refl;
  no_record = λ v xs is. some-bytes v xs is;
  no_more = omega arith;
  no_less = λ k h l. h;
}
cut-journal [] (x ∷ rest) lost e = absurd cc
cut-journal (w ∷ works) rest lost e =
    by (le_or_lt (length (record_of w)) (length rest)) (λ more. cut-journal works more lost)
  where
    by : (length (record_of w) ≤ length rest) ⊎ (length rest < length (record_of w)) →
        ((more : List ℕ) → journal_of works ≡ more ++ lost → IsCut works more) → IsCut (w ∷ works) rest
    by (inl h) later =
        let split : (more : List ℕ) × (rest ≡ record_of w ++ more) × (journal_of works ≡ more ++ lost) =
        front (record_of w) (journal_of works) rest lost e h in
        subst (IsCut (w ∷ works)) (sym split.1) (cut-whole w works split.0 (later split.0 split.2))
    by (inr h) later = cut-within w works rest lost e h

pub cuts-are-left : CutsAreLeft
cuts-are-left saved works safe left lost e long safe_within =
    let save : List ℕ = save_of saved in
    let split : (rest : List ℕ) × (left ≡ save ++ rest) × (journal_of works ≡ rest ++ lost) =
    front save (journal_of works) left lost e long in
    let cut : IsCut works split.0 = cut-journal works split.0 lost split.2 in
    let total : length left ≡ length save + length split.0 = ap length split.1 ∙ length-append save split.0 in
    record {
      count = cut.count;
      behind = cut.behind;
      whole = split.1 ∙ (ap (λ l. save ++ l) cut.whole ∙ sym (append_assoc save (journal_of (take cut.count works)) cut.behind));
      no_record = cut.no_record;
      no_more = cut.no_more;
      no_less = λ k h l.
          let one : length (save ++ journal_of (take k works)) ≡ length save + length (journal_of (take k works)) =
          length-append save (journal_of (take k works)) in
          cut.no_less k h (omega (arith, one, l, total, safe_within));
    }

-- what stands behind the works that are left is no work
none-behind : (kept read more : List NodeWork) (behind rest : List ℕ) → BeginsWithNone record_of behind → read ≡ kept ++ more →
    journal_of kept ++ behind ≡ journal_of read ++ rest → read ≡ kept
none-behind kept read [] behind rest none is e = is ∙ append-nil kept
none-behind kept read (w ∷ more) behind rest none is e = absurd (none w (journal_of more ++ rest) (same kept
    (e ∙ (ap (λ l. journal_of l ++ rest) is ∙ (ap (λ l. l ++ rest) (journal-append kept (w ∷ more))
    ∙ append_assoc (journal_of kept) (journal_of (w ∷ more)) rest))
    ∙ ap (λ l. journal_of kept ++ l) (append_assoc (record_of w) (journal_of more) rest))))
  where
    cancel : (xs ys zs : List ℕ) → xs ++ ys ≡ xs ++ zs → ys ≡ zs
    cancel [] ys zs e = e
    cancel (x ∷ xs) ys zs e = let tail : xs ++ ys ≡ xs ++ zs = cc in cancel xs ys zs tail

    same : (kept : List NodeWork) → journal_of kept ++ behind ≡ journal_of kept ++ (record_of w ++ (journal_of more ++ rest)) →
        behind ≡ record_of w ++ (journal_of more ++ rest)
    same kept e = cancel (journal_of kept) behind (record_of w ++ (journal_of more ++ rest)) e

pub what-is-left : WhatIsLeftComesBack
what-is-left saved works safe left is node count read good loaded behind =
    let save : List ℕ = save_of saved in
    let kept : List NodeWork = take is.count works in
    let rest : List ℕ = journal_of kept ++ is.behind in
    let whole : left ≡ save ++ rest = is.whole ∙ append_assoc save (journal_of kept) is.behind in
    let at : (node_seen node ≡ node_from saved) × (saved_of node ≡ Some saved) × (count ≡ length save) =
    saved-is-loaded saved rest node count (subst (λ l. IsLoaded l node count) whole loaded) in
    let cut : drop count left ≡ rest = ap (drop count) whole ∙ drop_at save rest count (sym at.2) in
    let its : AreReadFrom rest read good = subst (λ l. AreReadFrom l read good) cut behind in
    let begun : StartsWith read kept = what-stands-before-is-read kept read is.behind good its in
    let same : read ≡ kept = none-behind kept read begun.rest is.behind (drop good rest) is.no_record begun.same its.whole in
    let sizes : length (save ++ journal_of kept) ≡ length save + length (journal_of kept) = length-append save (journal_of kept) in
    let long : length (journal_of read) ≡ length (journal_of kept) = ap (λ l. length (journal_of l)) same in
    let first : count ≡ length save = at.2 in
    let second : good ≡ length (journal_of read) = its.count in
    record { loaded = at.0; same = same; bytes = omega (arith, sizes, long, first, second) }
