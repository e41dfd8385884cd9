-- What was written part by part is written as a whole.
use Rattle.std.proofs.Common.{◌≡◌, ℕ, ◌+◌, ◌<◌, List, [], ◌∷◌, ◌++◌, length, get_or, take, Option, sym, ap, ◌∙◌, append_assoc}
use Rattle.std.specs.List.{flat_map}
use Rattle.std.proofs.lemmas.List.{take_more, flat_map_more}
use Rattle.rc_model.specs.Model.{Pair, ServerId, Grant, Row, Decision, Attempt, ServerList}
use Rattle.rc_codec.specs.Parts.{four_bytes, eight_bytes, optional, listed}
use Rattle.rc_codec.specs.Fields.{id_code, tablet_code, grant_code, up_code}
use Rattle.rc_coordinator.specs.Book.{Book}
use Rattle.rc_keeping.specs.Saved.{reply_code, decision_code, attempt_code, least_code, current_code, known_code, begun_code}

-- a list of which one element more was written
pub one-more : {X : Type 0} (code : X → List ℕ) (xs : List X) (i : ℕ) (x d : X) (before old new : List ℕ) → i < length xs →
    x ≡ get_or xs i d → old ≡ before ++ flat_map code (take i xs) → new ≡ old ++ code x → new ≡ before ++ flat_map code (take (i + 1) xs)
one-more {X} code xs i x d before old new within is so_far added =
    added ∙ ap (λ (ys : List ℕ). ys ++ code x) so_far ∙ flat_map_more code before (take i xs) x
    ∙ ap (λ (ys : List X). before ++ flat_map code ys) (ap (λ (y : X). take i xs ++ y ∷ []) is ∙ sym (take_more xs i d within))

joined-three : (before a b c one two three : List ℕ) → one ≡ before ++ a → two ≡ one ++ b → three ≡ two ++ c →
    three ≡ before ++ (a ++ b ++ c)
joined-three before a b c one two three ea eb ec =
    ec ∙ ap (λ (xs : List ℕ). xs ++ c) (eb ∙ ap (λ (xs : List ℕ). xs ++ b) ea) ∙ simp append_assoc

joined-five : (before a b c d e one two three four : List ℕ) → one ≡ before ++ a ++ b → two ≡ one ++ c → three ≡ two ++ d →
    four ≡ three ++ e → four ≡ before ++ (a ++ b ++ c ++ d ++ e)
joined-five before a b c d e one two three four ea eb ec ed =
    ed ∙ ap (λ (xs : List ℕ). xs ++ e) (ec ∙ ap (λ (xs : List ℕ). xs ++ d) (eb ∙ ap (λ (xs : List ℕ). xs ++ c) ea)) ∙ simp append_assoc

listed-joined : (before a b c d e one two three four five : List ℕ) → one ≡ before ++ a → two ≡ one ++ b → three ≡ two ++ c →
    four ≡ three ++ d → five ≡ four ++ e → five ≡ before ++ ((a ++ b) ++ c ++ d ++ e)
listed-joined before a b c d e one two three four five ea eb ec ed ee =
    ee
    ∙ ap (λ (xs : List ℕ). xs ++ e)
    (ed ∙ ap (λ (xs : List ℕ). xs ++ d) (ec ∙ ap (λ (xs : List ℕ). xs ++ c) (eb ∙ ap (λ (xs : List ℕ). xs ++ b) ea)))
    ∙ simp append_assoc

pub attempt-written : (attempt : Attempt) (master : ServerId) (replies : List (ServerId × List Row)) (decided : Option Decision)
    (before one two three : List ℕ) → master ≡ attempt.master → replies ≡ attempt.replies → decided ≡ attempt.decided →
    one ≡ before ++ id_code master → two ≡ one ++ listed reply_code replies → three ≡ two ++ optional decision_code decided →
    three ≡ before ++ attempt_code attempt
attempt-written attempt master replies decided before one two three same_master same_replies same_decided ea eb ec =
    joined-three before (id_code attempt.master) (listed reply_code attempt.replies) (optional decision_code attempt.decided) one two three
    (ea ∙ ap (λ (id : ServerId). before ++ id_code id) same_master)
    (eb ∙ ap (λ (all : List (ServerId × List Row)). one ++ listed reply_code all) same_replies)
    (ec ∙ ap (λ (d : Option Decision). two ++ optional decision_code d) same_decided)

-- ---- both parts of a book

pub known-written : (book : Book) (servers : ServerList) (ready : List ServerId) (least : List (ServerId × Pair))
    (before one two three four : List ℕ) → servers ≡ book.servers → ready ≡ book.ready → least ≡ book.least →
    one ≡ before ++ four_bytes servers.version ++ listed up_code servers.rows → two ≡ one ++ listed id_code ready →
    three ≡ two ++ listed tablet_code book.tablets → four ≡ three ++ listed least_code least → four ≡ before ++ known_code book
known-written book servers ready least before one two three four same_servers same_ready same_least ea eb ec ed =
    joined-five before (four_bytes book.servers.version) (listed up_code book.servers.rows) (listed id_code book.ready)
    (listed tablet_code book.tablets) (listed least_code book.least) one two three four
    (ea ∙ ap (λ (s : ServerList). before ++ four_bytes s.version ++ listed up_code s.rows) same_servers)
    (eb ∙ ap (λ (ids : List ServerId). one ++ listed id_code ids) same_ready)
    ec
    (ed ∙ ap (λ (pairs : List (ServerId × Pair)). three ++ listed least_code pairs) same_least)

pub begun-written : (book : Book) (attempts : List Attempt) (current : List (ServerId × ℕ)) (grants : List Grant) (term : ℕ)
    (before one two three four five : List ℕ) → attempts ≡ book.attempts → current ≡ book.current → grants ≡ book.grants →
    term ≡ book.last_term → one ≡ before ++ eight_bytes (length attempts) → two ≡ one ++ flat_map attempt_code attempts →
    three ≡ two ++ listed current_code current → four ≡ three ++ listed grant_code grants → five ≡ four ++ four_bytes term →
    five ≡ before ++ begun_code book
begun-written book attempts current grants term before one two three four five
    same_attempts same_current same_grants same_term ea eb ec ed ee =
    listed-joined before (eight_bytes (length book.attempts)) (flat_map attempt_code book.attempts) (listed current_code book.current)
    (listed grant_code book.grants) (four_bytes book.last_term) one two three four five
    (ea ∙ ap (λ (all : List Attempt). before ++ eight_bytes (length all)) same_attempts)
    (eb ∙ ap (λ (all : List Attempt). one ++ flat_map attempt_code all) same_attempts)
    (ec ∙ ap (λ (all : List (ServerId × ℕ)). two ++ listed current_code all) same_current)
    (ed ∙ ap (λ (all : List Grant). three ++ listed grant_code all) same_grants)
    (ee ∙ ap (λ (n : ℕ). four ++ four_bytes n) same_term)
