-- What a journal gives back.
use Rattle.std.proofs.Common.{◌≡◌, ℕ, ◌+◌, ◌-◌, ◌<◌, List, [], ◌∷◌, ◌++◌, length, drop, Some, refl, sym, ap}
use Rattle.std.proofs.Common.{subst, ◌∙◌, append_assoc, arith}
use Rattle.std.proofs.lemmas.List.{drop_at, length-append, append-nil}
use Rattle.rc_history.specs.Events.{StartsWith}
use Rattle.rc_codec.specs.Claims.{BeginsWithNone, IsPrefixFree}
use Rattle.rc_codec.specs.Reading.{Fails}
use Rattle.rc_codec.specs.declared.faults.DecodeFault.TheVariants.{Malformed}
use Rattle.rc_codec.proofs.Lawful.{IsBytes, IsBytes-after}
use Rattle.rc_codec.proofs.Promises.{is_prefix_free, refuses_so}
use Rattle.rc_types.specs.declared.events.NodeWork.{NodeWork}
use Rattle.rc_keeping.specs.Spelling.{record_of, journal_of}
use Rattle.rc_keeping.specs.Readers.{record_at}
use Rattle.rc_keeping.specs.Claims.{AreReadFrom, WrittenIsReadBack, CutGivesABeginning, WhatStandsBeforeIsRead}
use Rattle.rc_keeping.proofs.RecordLaws.{record_law}

free : IsPrefixFree record_of
free = is_prefix_free record_law

-- a record is not empty
some-bytes : (w : NodeWork) (xs : List ℕ) → [] ≡ record_of w ++ xs → ⊥
some-bytes w xs e = cc

-- the works after which nothing can be read are all that the bytes began with
ahead : (written works : List NodeWork) (xs ys : List ℕ) → journal_of written ++ xs ≡ journal_of works ++ ys →
    BeginsWithNone record_of ys → StartsWith works written
ahead [] works xs ys e ends = record { rest = works; same = refl }
ahead (w ∷ written) [] xs ys e ends =
    absurd (ends w (journal_of written ++ xs) (sym e ∙ append_assoc (record_of w) (journal_of written) xs))
ahead (w ∷ written) (v ∷ works) xs ys e ends =
    let moved : record_of w ++ (journal_of written ++ xs) ≡ record_of v ++ (journal_of works ++ ys) =
    sym (append_assoc (record_of w) (journal_of written) xs) ∙ e ∙ append_assoc (record_of v) (journal_of works) ys in
    let both = free w v (journal_of written ++ xs) (journal_of works ++ ys) moved in
    let others = ahead written works xs ys both.1 ends in
    record {
      rest = others.rest;
      same = ap (λ (u : NodeWork). u ∷ works) (sym both.0) ∙ ap (λ (us : List NodeWork). w ∷ us) others.same;
    }

-- works whose records stand in a journal are a beginning of it
within : (written works : List NodeWork) (xs : List ℕ) → journal_of written ≡ journal_of works ++ xs → StartsWith written works
within written [] xs e = record { rest = written; same = refl }
within [] (v ∷ works) xs e = absurd (some-bytes v (journal_of works ++ xs) (e ∙ append_assoc (record_of v) (journal_of works) xs))
within (w ∷ written) (v ∷ works) xs e =
    let both = free w v (journal_of written) (journal_of works ++ xs) (e ∙ append_assoc (record_of v) (journal_of works) xs) in
    let others = within written works xs both.1 in
    record {
      rest = others.rest;
      same = ap (λ (u : NodeWork). u ∷ written) both.0 ∙ ap (λ (us : List NodeWork). v ∷ us) others.same;
    }

-- each begins the other
same-length : (ws vs : List NodeWork) → StartsWith ws vs → StartsWith vs ws → ws ≡ vs
same-length ws vs one other = by one.rest one.same other.rest other.same
  where
    by : (more : List NodeWork) → ws ≡ vs ++ more → (back : List NodeWork) → vs ≡ ws ++ back → ws ≡ vs
    by [] e back f = e ∙ append-nil vs
    by (u ∷ more) e back f =
        let longer : length ws ≡ length vs + length (u ∷ more) = ap length e ∙ length-append vs (u ∷ more) in
        let shorter : length vs ≡ length ws + length back = ap length f ∙ length-append ws back in
        absurd (omega (arith, longer, shorter))

pub written-is-read-back : WrittenIsReadBack
written-is-read-back written works count h =
    let rest = drop count (journal_of written) in
    same-length works written
    (ahead written works [] rest (append-nil (journal_of written) ∙ h.whole) h.ends) (within written works rest h.whole)

pub cut-gives-a-beginning : CutGivesABeginning
cut-gives-a-beginning written works cut lost count e h =
    within written works (drop count cut ++ lost)
    (e ∙ ap (λ (xs : List ℕ). xs ++ lost) h.whole ∙ append_assoc (journal_of works) (drop count cut) lost)

pub what-stands-before-is-read : WhatStandsBeforeIsRead
what-stands-before-is-read written works damaged count h =
    ahead written works damaged (drop count (journal_of written ++ damaged)) h.whole h.ends

-- ---- for the loop that reads

-- one more record
pub journal-push : (works : List NodeWork) (w : NodeWork) → journal_of (works ++ w ∷ []) ≡ journal_of works ++ record_of w
journal-push [] w = append-nil (record_of w)
journal-push (v ∷ works) w =
    ap (λ (xs : List ℕ). record_of v ++ xs) (journal-push works w) ∙ sym (append_assoc (record_of v) (journal_of works) (record_of w))

-- what is left has bytes too
pub rest-fits : (bytes : List ℕ) (works : List NodeWork) (rest : List ℕ) → bytes ≡ journal_of works ++ rest → IsBytes bytes → IsBytes rest
rest-fits bytes works rest e fits = IsBytes-after (journal_of works) rest (subst IsBytes e fits)

pub one-record-more : (bytes : List ℕ) (works : List NodeWork) (rest : List ℕ) (w : NodeWork) (after : List ℕ) →
    bytes ≡ journal_of works ++ rest → IsBytes rest → record_at rest ≡ Some (w, after) → bytes ≡ journal_of (works ++ w ∷ []) ++ after
one-record-more bytes works rest w after e fits h =
    e ∙ ap (λ (xs : List ℕ). journal_of works ++ xs) (record_law.takes rest w after fits h)
    ∙ sym (append_assoc (journal_of works) (record_of w) after) ∙ ap (λ (xs : List ℕ). xs ++ after) (sym (journal-push works w))

-- what is left is shorter
pub less-is-left : (rest : List ℕ) (w : NodeWork) (after : List ℕ) → IsBytes rest → record_at rest ≡ Some (w, after) →
    length after < length rest
less-is-left rest w after fits h =
    let long : length rest ≡ length (record_of w) + length after =
    ap length (record_law.takes rest w after fits h) ∙ length-append (record_of w) after in
    omega (arith, long)

pub are-read : (bytes : List ℕ) (works : List NodeWork) (rest : List ℕ) → bytes ≡ journal_of works ++ rest →
    Fails Malformed (record_at rest) → AreReadFrom bytes works (length bytes - length rest)
are-read bytes works rest e fails =
    let long : length bytes ≡ length (journal_of works) + length rest = ap length e ∙ length-append (journal_of works) rest in
    let count : length bytes - length rest ≡ length (journal_of works) = omega (arith, long) in
    let left : drop (length bytes - length rest) bytes ≡ rest =
    ap (λ (k : ℕ). drop k bytes) count ∙ ap (drop (length (journal_of works))) e
    ∙ drop_at (journal_of works) rest (length (journal_of works)) refl in
    record {
      count = count;
      whole = e ∙ ap (λ (xs : List ℕ). journal_of works ++ xs) (sym left);
      ends = subst (BeginsWithNone record_of) (sym left) (refuses_so record_law rest Malformed fails refl);
    }
