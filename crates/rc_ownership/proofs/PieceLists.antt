-- Entries in pieces: cut off one by one, and joined one by one.
use Rattle.std.proofs.Common.{◌≡◌, ℕ, ◌≤◌, List, [], ◌∷◌, ◌++◌, map, length}
use Rattle.std.proofs.Common.{append_assoc, sym, ap, ◌∙◌, refl, arith}
use Rattle.std.proofs.lemmas.List.{append-nil, map-append}
use Rattle.rc_types.specs.declared.entries.Entry.{Entry}
use Rattle.rc_model.specs.Ownership.{under_term}
use Rattle.rc_ownership.specs.Replay.{all_waiting}
use Rattle.rc_ownership.specs.Pieces.{NoneIsLong}
use Rattle.rc_ownership.specs.declared.pieces.TheConstants.{PIECE}

pub waiting-push : (pieces : List (List Entry)) (piece : List Entry) →
    all_waiting (pieces ++ piece ∷ []) ≡ all_waiting pieces ++ piece
waiting-push [] piece = append-nil piece
waiting-push (first ∷ pieces) piece =
    ap (λ rest. first ++ rest) (waiting-push pieces piece) ∙ sym (append_assoc first (all_waiting pieces) piece)

pub none_long-push : (pieces : List (List Entry)) (piece : List Entry) → NoneIsLong pieces → length piece ≤ PIECE →
    NoneIsLong (pieces ++ piece ∷ [])
none_long-push [] piece none short = (short, tt)
none_long-push (first ∷ pieces) piece none short = (none.0, none_long-push pieces piece none.1 short)

-- a piece is cut off
pub cut-off : (old new : List (List Entry)) (piece rest later entries : List Entry) → all_waiting old ++ rest ≡ entries →
    new ≡ old ++ piece ∷ [] → rest ≡ piece ++ later → all_waiting new ++ later ≡ entries
cut-off old new piece rest later entries before pushed cut =
    ap (λ pieces. all_waiting pieces ++ later) pushed
    ∙ ap (λ first. first ++ later) (waiting-push old piece)
    ∙ append_assoc (all_waiting old) piece later
    ∙ ap (λ more. all_waiting old ++ more) (sym cut)
    ∙ before

-- a piece joins
pub piece-joined : (term : ℕ) (old joined new : List (List Entry)) (piece : List Entry) (later pieces : List (List Entry)) →
    all_waiting joined ++ map (under_term term) (piece ++ all_waiting later)
    ≡ all_waiting old ++ map (under_term term) (all_waiting pieces) →
    all_waiting new ≡ all_waiting joined ++ map (under_term term) piece →
    all_waiting new ++ map (under_term term) (all_waiting later) ≡ all_waiting old ++ map (under_term term) (all_waiting pieces)
piece-joined term old joined new piece later pieces before pushed =
    ap (λ first. first ++ map (under_term term) (all_waiting later)) pushed
    ∙ append_assoc (all_waiting joined) (map (under_term term) piece) (map (under_term term) (all_waiting later))
    ∙ ap (λ more. all_waiting joined ++ more) (sym (map-append (under_term term) piece (all_waiting later)))
    ∙ before

-- the first piece joins, and then the others
pub pieces-joined : (term : ℕ) (old between new : List (List Entry)) (first : List Entry) (others : List (List Entry))
    (whole : List Entry) → all_waiting between ≡ all_waiting old ++ map (under_term term) first →
    all_waiting new ≡ all_waiting between ++ map (under_term term) (all_waiting others) →
    first ++ all_waiting others ≡ whole → all_waiting new ≡ all_waiting old ++ map (under_term term) whole
pieces-joined term old between new first others whole one more is =
    more
    ∙ ap (λ front. front ++ map (under_term term) (all_waiting others)) one
    ∙ append_assoc (all_waiting old) (map (under_term term) first) (map (under_term term) (all_waiting others))
    ∙ ap (λ rest. all_waiting old ++ rest) (sym (map-append (under_term term) first (all_waiting others)))
    ∙ ap (λ entries. all_waiting old ++ map (under_term term) entries) is

nothing : {X : Type 0} (list : List X) → length list ≡ 0 → list ≡ []
nothing [] none = refl
nothing (first ∷ list) none = absurd (omega (arith, none))

-- nothing is left to cut off
pub all-cut : (first front : List Entry) (others : List (List Entry)) (rest after entries : List Entry) → first ≡ front →
    all_waiting others ++ rest ≡ after → length rest ≡ 0 → entries ≡ front ++ after → first ++ all_waiting others ≡ entries
all-cut first front others rest after entries copied cut none whole =
    ap (λ list. list ++ all_waiting others) copied
    ∙ ap (λ list. front ++ list) (sym (append-nil (all_waiting others))
    ∙ ap (λ more. all_waiting others ++ more) (sym (nothing rest none)) ∙ cut)
    ∙ sym whole

-- nothing is left to join
pub all-joined : (term : ℕ) (old joined rest pieces : List (List Entry)) →
    all_waiting joined ++ map (under_term term) (all_waiting rest)
    ≡ all_waiting old ++ map (under_term term) (all_waiting pieces) → length rest ≡ 0 →
    all_waiting joined ≡ all_waiting old ++ map (under_term term) (all_waiting pieces)
all-joined term old joined rest pieces is none =
    sym (append-nil (all_waiting joined))
    ∙ ap (λ more. all_waiting joined ++ map (under_term term) (all_waiting more)) (sym (nothing rest none)) ∙ is
