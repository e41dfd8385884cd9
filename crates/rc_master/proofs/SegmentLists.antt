-- Lists of messages that go through the segments.
use Rattle.std.proofs.Common.{◌≡◌, ⊎_elim, ℕ, ◌+◌, ◌<◌, ◌≤◌, zero, suc, List, [], ◌∷◌, ◌++◌, map, filter, Bool, cond}
use Rattle.std.proofs.Common.{true, false, not, ◌&&◌, ◌||◌, is_some, ap, sym, ◌∙◌, add-one, append_assoc, refl, subst, arith}
use Rattle.std.proofs.lemmas.Bool.{cases_eq, and_parts, cond_both, cond-false, false≢true}
use Rattle.std.proofs.lemmas.List.{append-nil}
use Rattle.rc_model.specs.Model.{Member, Message, Commit, between, to_coordinator, all_placed, Log, numbers_to}
use Rattle.rc_model.specs.Model.{place_of, stood, standing, reminds_shut_members, reminds_open, reminds_shut, awaits_commit}
use Rattle.rc_headroll.proofs.WatchLemmas.{wants-parts}
use Rattle.rc_config.specs.Resting.{have_told, wants_nothing}
use Rattle.rc_master.specs.Reminders.{reminds_if_open, reminds_if_shut, commit_again}

-- what is added after what was added before
pub adds-more : {X : Type 0} → (old before now more after all : List X) →
    before ≡ old ++ now → after ≡ before ++ more → all ≡ now ++ more →
    after ≡ old ++ all
adds-more old before now more after all was added is =
    added ∙ ap (λ l. l ++ more) was ∙ append_assoc old now more ∙ ap (λ l. old ++ l) (sym is)

-- the Commits that are sent again, up to a segment
abbrev pub commits_to : Log → ℕ → List Message
commits_to log n =
    map (λ seg. to_coordinator log.own (Commit seg (log.segments seg).config.epoch))
    (filter (λ seg. awaits_commit (log.segments seg)) (numbers_to n))

open-append : (before log : Log) (segs : List ℕ) (seg : ℕ) →
    reminds_open before log (segs ++ seg ∷ []) ≡ reminds_open before log segs ++ reminds_if_open before log seg
open-append before log [] seg = append-nil _
open-append before log (s ∷ segs) seg =
    ap (λ l. reminds_if_open before log s ++ l) (open-append before log segs seg)
    ∙ sym (append_assoc (reminds_if_open before log s) (reminds_open before log segs) (reminds_if_open before log seg))

-- one more segment
pub open-more : (before log : Log) (n : ℕ) →
    reminds_open before log (numbers_to (n + 1)) ≡ reminds_open before log (numbers_to n) ++ reminds_if_open before log (n + 1)
open-more before log n = rw (add-one n) (open-append before log (numbers_to n) (suc n))

shut-append : (before log : Log) (segs : List ℕ) (seg : ℕ) →
    reminds_shut before log (segs ++ seg ∷ []) ≡ reminds_shut before log segs ++ reminds_if_shut before log seg
shut-append before log [] seg = append-nil _
shut-append before log (s ∷ segs) seg =
    ap (λ l. reminds_if_shut before log s ++ l) (shut-append before log segs seg)
    ∙ sym (append_assoc (reminds_if_shut before log s) (reminds_shut before log segs) (reminds_if_shut before log seg))

pub shut-more : (before log : Log) (n : ℕ) →
    reminds_shut before log (numbers_to (n + 1)) ≡ reminds_shut before log (numbers_to n) ++ reminds_if_shut before log (n + 1)
shut-more before log n = rw (add-one n) (shut-append before log (numbers_to n) (suc n))

one-chosen : {X Y : Type 0} (f : X → Y) (b : Bool) (x : X) → map f (cond b (x ∷ []) []) ≡ cond b (f x ∷ []) []
one-chosen f true x = refl
one-chosen f false x = refl

first-chosen : {X Y : Type 0} (f : X → Y) (b : Bool) (x : X) (more : List Y) (xs ys : List X) →
    map f xs ≡ map f ys ++ more →
    map f (cond b (x ∷ xs) xs) ≡ map f (cond b (x ∷ ys) ys) ++ more
first-chosen f true x more xs ys e = ap (λ l. f x ∷ l) e
first-chosen f false x more xs ys e = e

chosen-append : {X Y : Type 0} (f : X → Y) (p : X → Bool) (xs : List X) (x : X) →
    map f (filter p (xs ++ x ∷ [])) ≡ map f (filter p xs) ++ cond (p x) (f x ∷ []) []
chosen-append f p [] x = one-chosen f (p x) x
chosen-append f p (y ∷ ys) x =
    first-chosen f (p y) y (cond (p x) (f x ∷ []) []) (filter p (ys ++ x ∷ [])) (filter p ys) (chosen-append f p ys x)

pub commits-more : (log : Log) (n : ℕ) → commits_to log (n + 1) ≡ commits_to log n ++ commit_again log (n + 1)
commits-more log n = rw (add-one n)
    (chosen-append (λ seg. to_coordinator log.own (Commit seg (log.segments seg).config.epoch))
    (λ seg. awaits_commit (log.segments seg)) (numbers_to n) (suc n))

-- Segments that want nothing are passed over

-- one of which nothing is said
pub skips : {X : Type 0} (walk one : ℕ → List X) → ((n : ℕ) → walk (n + 1) ≡ walk n ++ one (n + 1)) → (done n : ℕ) → done ≤ n →
    ((o : ℕ) → done < o → o ≤ n → one o ≡ []) → walk n ≡ walk done
skips walk one more done zero below none = let same : done ≡ 0 = omega arith in rw same refl
skips walk one more done (suc n) below none = ⊎_elim {C = walk (suc n) ≡ walk done}
    (λ (here : done ≡ suc n). ap walk (sym here))
    (λ (apart : done ≡ suc n → ⊥).
    let within : done ≤ n = omega (arith, apart) in
    let next : n + 1 ≡ suc n = omega arith in
    ap walk (sym next) ∙ more n ∙ ap (λ l. walk n ++ l) (none (n + 1) (omega arith) (omega arith)) ∙ append-nil (walk n)
    ∙ skips walk one more done n within (λ o above below. none o above (omega arith)))
    (cases_eq done (suc n))

-- up to the next one
pub skips-to : {X : Type 0} (walk one : ℕ → List X) → ((n : ℕ) → walk (n + 1) ≡ walk n ++ one (n + 1)) → (done seg : ℕ) → done < seg →
    ((o : ℕ) → done < o → o < seg → one o ≡ []) → walk seg ≡ walk done ++ one seg
skips-to walk one more done zero above none = absurd (omega arith)
skips-to walk one more done (suc n) above none =
    let next : n + 1 ≡ suc n = omega arith in
    let last : walk (n + 1) ≡ walk done ++ one (n + 1) =
    more n ∙ ap (λ l. l ++ one (n + 1)) (skips walk one more done n (omega arith) (λ o later below. none o later (omega arith))) in
    subst (λ (m : ℕ). walk m ≡ walk done ++ one m) next last

pub open-none : (before log : Log) (seg : ℕ) → wants_nothing (log.segments seg) ≡ true → reminds_if_open before log seg ≡ []
open-none before log seg nothing = rw (wants-parts (log.segments seg) nothing).0 refl

pub commit-none : (log : Log) (seg : ℕ) → wants_nothing (log.segments seg) ≡ true → commit_again log seg ≡ []
commit-none log seg nothing =
    let committed : (log.segments seg).config.committed ≡ true = (wants-parts (log.segments seg) nothing).1 in
    by (log.segments seg).commit_sent (log.segments seg).config.committed (all_placed (log.segments seg).config) committed
  where
    by : (sent committed placed : Bool) → committed ≡ true →
        cond (sent && (not committed && placed)) (to_coordinator log.own (Commit seg (log.segments seg).config.epoch) ∷ []) [] ≡ []
    by true true placed e = refl
    by true false placed e = absurd (false≢true e)
    by false committed placed e = refl

-- where all have told something, there is none that has told nothing
all-told : (p : Member → Bool) (members : List Member) → have_told members ≡ true →
    filter (λ member. not (is_some member.told)) (filter p members) ≡ []
all-told p [] told = refl
all-told p (member ∷ members) told =
    let parts = and_parts (is_some member.told) (have_told members) told in
    cond_both (p member) (member ∷ filter p members) (filter p members)
    (λ (ms : List Member). filter (λ other. not (is_some other.told)) ms ≡ [])
    (λ chosen. cond-false (not (is_some member.told)) (member ∷ filter (λ other. not (is_some other.told)) (filter p members))
    (filter (λ other. not (is_some other.told)) (filter p members)) (ap not parts.0) ∙ all-told p members parts.1)
    (λ passed. all-told p members parts.1)

pub shut-none : (before log : Log) (seg : ℕ) → wants_nothing (log.segments seg) ≡ true → reminds_if_shut before log seg ≡ []
shut-none before log seg nothing =
    by (log.segments seg).shut (log.segments seg).freed (have_told (log.segments seg).config.members)
    (wants-parts (log.segments seg) nothing).2
    (λ told. ap (map (λ member. between log.own member.id (place_of log seg true)))
    (all-told (λ member. stood before log seg member.id) (log.segments seg).config.members told))
  where
    by : (shut freed told : Bool) → (freed || told) ≡ true →
        (told ≡ true → reminds_shut_members log seg (standing before log seg) ≡ []) →
        cond (shut && not freed) (reminds_shut_members log seg (standing before log seg)) [] ≡ []
    by true true told either none = refl
    by true false told either none = none either
    by false freed told either none = refl
