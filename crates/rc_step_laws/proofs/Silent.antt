-- Messages that free nothing, and those of a master that frees.
use Rattle.std.proofs.Common.{◌≡◌, ◌⊎◌, ℕ, List, [], ◌∷◌, ◌++◌, refl, sym, ap, ◌∙◌, subst, inl, inr}
use Rattle.std.proofs.lemmas.List.{append_assoc}
use Rattle.rc_model.specs.Model.{ServerId, Message, Body, Free, Log, to_ids, to_unlost, ids_of, not_lost, frees_segments, In}
use Rattle.rc_model.proofs.Members.{In-append}
use Rattle.rc_model.proofs.Sending.{Each, each-to_ids}
use Rattle.rc_step_laws.specs.Freed.{freed_by, freed_in}

-- they free nothing
abbrev pub Silent : List Message → Type 0
Silent messages = freed_in messages ≡ []

pub silent-none : Silent []
silent-none = refl

pub freed-append : (first second : List Message) → freed_in (first ++ second) ≡ freed_in first ++ freed_in second
freed-append [] second = refl
freed-append (message ∷ first) second =
    ap (λ (some : List ℕ). freed_by message.body ++ some) (freed-append first second) ∙
    sym (append_assoc (freed_by message.body) (freed_in first) (freed_in second))

-- the message frees nothing
abbrev pub Frees : Message → Type 0
Frees message = freed_by message.body ≡ []

pub silent-all : (messages : List Message) → Each Frees messages → Silent messages
silent-all [] all = refl
silent-all (message ∷ messages) all =
    ap (λ (some : List ℕ). some ++ freed_in messages) (all message (inl refl)) ∙ silent-all messages (λ other at. all other (inr at))

pub silent-ids : (own : ServerId) (ids : List ServerId) (body : Body) → freed_by body ≡ [] → Silent (to_ids own ids body)
silent-ids own ids body is = silent-all (to_ids own ids body) (each-to_ids Frees ids (λ id _. is))

-- what the Frees of these segments free
freed-ids : (own : ServerId) (ids : List ServerId) (seg s : ℕ) → In s (freed_in (to_ids own ids (Free seg))) → s ≡ seg
freed-ids own [] seg s at = absurd at
freed-ids own (id ∷ ids) seg s (inl same) = same
freed-ids own (id ∷ ids) seg s (inr rest) = freed-ids own ids seg s rest

pub freed-segments : (log : Log) (segs : List ℕ) (s : ℕ) → In s (freed_in (frees_segments log segs)) → In s segs
freed-segments log [] s at = absurd at
freed-segments log (seg ∷ segs) s at =
    by (In-append s (freed_in (to_unlost log seg (Free seg))) (freed_in (frees_segments log segs))
    (subst (In s) (freed-append (to_unlost log seg (Free seg)) (frees_segments log segs)) at))
    (freed-segments log segs s)
  where
    by : In s (freed_in (to_unlost log seg (Free seg))) ⊎ In s (freed_in (frees_segments log segs)) →
        (In s (freed_in (frees_segments log segs)) → In s segs) → (s ≡ seg) ⊎ In s segs
    by (inl here) rec = inl (freed-ids log.own (ids_of (not_lost (log.segments seg).config.members)) seg s here)
    by (inr rest) rec = inr (rec rest)
