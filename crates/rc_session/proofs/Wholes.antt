-- Bytes that are one coding, and nothing behind it.
use Rattle.std.proofs.Common.{◌≡◌, ℕ, List, [], ◌∷◌, ◌++◌, length, ◌⊎◌, ⊎_elim, sym, ap, subst, ◌∙◌, arith, Result, Ok, Err}
use Rattle.std.proofs.Common.{length-append, ◌<◌, OnOk, true}
use Rattle.std.proofs.lemmas.List.{append-nil}
use Rattle.rc_types.specs.declared.events.NodeWork.{NodeWork}
use Rattle.rc_types.specs.declared.events.NodeWork.TheVariants.{Deliver}
use Rattle.rc_types.specs.declared.messages.Message.{Message}
use Rattle.rc_codec.specs.Bodies.{coded_message}
use Rattle.rc_codec.proofs.EachKind.{coded_message_law}
use Rattle.rc_codec.proofs.Promises.{is_prefix_free}
use Rattle.rc_keeping.specs.Spelling.{coded_work}
use Rattle.rc_process.specs.View.{ProcessView, given, written_down}
use Rattle.rc_session.specs.declared.faults.SessionFault.{SessionFault}
use Rattle.rc_session.specs.View.{SessionView, takes}
use Rattle.rc_session.specs.Claims.{TakesWork, TakesMessage}
use Rattle.rc_history.specs.Nodes.{Node, node_can}
use Rattle.rc_codec.specs.Claims.{IsFront, DecodesFront, BeginsWithNone}
use Rattle.rc_codec.specs.declared.faults.DecodeFault.{DecodeFault}
use Rattle.rc_codec.specs.declared.faults.DecodeFault.TheVariants.{OutOfMemory}

none-left : {A : Type 0} (xs ys : List A) → length xs ≡ length (xs ++ ys) → xs ++ ys ≡ xs
none-left xs [] e = append-nil xs
none-left xs (y ∷ ys) e = let l = length-append xs (y ∷ ys) in absurd (omega arith)

-- what was decoded is all of the bytes, where it takes as many as there are
pub whole_is : (code : List ℕ) (n : ℕ) (xs : List ℕ) → IsFront code n xs → n ≡ length xs → xs ≡ code
whole_is code n xs front all = front.1.1 ∙ none-left code front.1.0 (sym front.0 ∙ (all ∙ ap length front.1.1))

-- bytes that are a coding begin with it
whole-front : {A : Type 0} (code : A → List ℕ) (bytes : List ℕ) (x : A) → bytes ≡ code x → bytes ≡ code x ++ []
whole-front code bytes x is = is ∙ sym (append-nil (code x))

pub none_whole : {A : Type 0} (code : A → List ℕ) (bytes : List ℕ) → BeginsWithNone code bytes → (x : A) → bytes ≡ code x → ⊥
none_whole code bytes none x is = none x [] (whole-front code bytes x is)

abbrev done : {A : Type 0} → A × ℕ → Result (A × ℕ) DecodeFault
done p = Ok p

abbrev found_or : {A : Type 0} → A × ℕ → Result (A × ℕ) DecodeFault → A × ℕ
found_or other (Ok p) = p
found_or other (Err fault) = other

same-found : {A : Type 0} (p q : A × ℕ) → done p ≡ done q → p ≡ q
same-found p q e = ap (found_or p) e

-- of what was decoded
pub found_length : {A : Type 0} (code : A → List ℕ) (bytes : List ℕ) (x : A) (n : ℕ) → DecodesFront code bytes (Ok (x, n)) →
    (y : A) → bytes ≡ code y → n ≡ length bytes
found_length {A} code bytes x n front y is =
    ⊎_elim (λ e. ap (λ (p : A × ℕ). p.1) (same-found (x, n) (y, length (code y)) e) ∙ ap length (sym is)) (λ e. absurd cc)
    (front y [] (whole-front code bytes y is))

-- of a fault
pub found_fault : {A : Type 0} (code : A → List ℕ) (bytes : List ℕ) (fault : DecodeFault) → DecodesFront code bytes (Err fault) →
    (y : A) → bytes ≡ code y → fault ≡ OutOfMemory
found_fault code bytes fault front y is = ⊎_elim (λ e. absurd cc) (λ e. cc) (front y [] (whole-front code bytes y is))

-- bytes with nothing behind them
pub nothing_behind : (bytes code rest : List ℕ) → bytes ≡ code ++ rest → length rest < 1 → bytes ≡ code
nothing_behind bytes code [] e h = e ∙ append-nil code
nothing_behind bytes code (b ∷ rest) e h = absurd (omega arith)

-- the work that the bytes are
pub takes_work : {A : Type 0} (answer : Result A SessionFault) (one : NodeWork) (bytes : List ℕ) (old new : SessionView) →
    OnOk answer (new ≡ takes old one) → ((work : NodeWork) → bytes ≡ coded_work work → one ≡ work) →
    OnOk answer (TakesWork bytes old new)
takes_work (Ok x) one bytes old new taken same = λ work is. taken ∙ ap (takes old) (same work is)
takes_work (Err fault) one bytes old new taken same = tt

-- and it can be given that
pub can_take : {A : Type 0} (answer : Result A SessionFault) (one : NodeWork) (bytes : List ℕ) (node : Node) →
    OnOk answer (node_can node one ≡ true) → ((work : NodeWork) → bytes ≡ coded_work work → one ≡ work) →
    OnOk answer ((work : NodeWork) → bytes ≡ coded_work work → node_can node work ≡ true)
can_take (Ok x) one bytes node can same = λ work is. subst (λ w. node_can node w ≡ true) (same work is) can
can_take (Err fault) one bytes node can same = tt

-- what becomes of a session whose process takes a work
pub took : (old : SessionView) (process : ProcessView) (journal : List ℕ) (work : NodeWork) →
    process ≡ given old.process work → journal ≡ old.journal ++ written_down old.process.node work →
    record old { process = process; journal = journal } ≡ takes old work
took old process journal work is written = cc

-- a coding is that of one message
one-message : (x y : Message) → coded_message x ≡ coded_message y → x ≡ y
one-message x y e = (is_prefix_free coded_message_law x y [] [] (ap (λ (code : List ℕ). code ++ []) e)).0

-- the message that was given, and what is written down of it
pub takes_given : (old : SessionView) (process : ProcessView) (journal : List ℕ) (one : Message) (bytes : List ℕ) →
    bytes ≡ coded_message one → process ≡ given old.process (Deliver one) →
    journal ≡ old.journal ++ written_down old.process.node (Deliver one) →
    TakesMessage bytes old (record old { process = process; journal = journal })
takes_given old process journal one bytes coded taken written = λ message is.
    let e : one ≡ message = one-message one message (sym coded ∙ is) in
    subst (λ (m : Message). record old { process = process; journal = journal } ≡ takes old (Deliver m)) e cc
