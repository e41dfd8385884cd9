-- What the members of an object say after one more.
use Rattle.std.proofs.Common.{◌≡◌, ℕ, List, [], ◌∷◌, Bool, true, false, ◌&&◌, if◌then◌else◌, Option, Some, option_and_then, Ordering, Less}
use Rattle.std.proofs.Common.{Equal, Greater, nat_cmp, is_eq, bytes_eq, true≢false, refl, sym, ap, ◌∙◌, subst}
use Rattle.std.proofs.lemmas.Map.Text.{is_eq-slice_cmp}
use Rattle.std.proofs.lemmas.Slice.Eq.{bytes_eq-Decides}
use Rattle.std.specs.Cmp.Lexicographic.{slice_cmp}
use Rattle.std.specs.Ordering.{match_ordering}
use Rattle.serde_json.specs.Data.{Data, object, Members, no_members, member, put}
use Rattle.serde_json.specs.Find.{get_member}
use Rattle.serde_json.proofs.Views.{get_member-put, get_member-put_other}
use Rattle.rc_reading.specs.Values.{is_one_of, are_among, has_only, field, or_absent, optional}

found_at : (name k : List ℕ) (d : Data) (ms : Members) (b : Bool) → bytes_eq k name ≡ b →
    get_member name (put k d ms) ≡ (if b then Some d else get_member name ms)
found_at name k d ms true is = let same : k ≡ name =
    (bytes_eq-Decides k name).0 is in subst (λ n. get_member n (put k d ms) ≡ Some d) same (get_member-put k d ms)
found_at name k d ms false is =
    get_member-put_other name k d ms (λ same. differ (bytes_eq k name) is ((bytes_eq-Decides k name).1 (sym same)))
  where
    differ : (b : Bool) → b ≡ false → b ≡ true → ⊥
    differ true e h = absurd (true≢false e)
    differ false e h = absurd (true≢false (sym h))

said_of : {A : Type 0} (says : Data → Option A) (d : Data) (o : Option Data) (b : Bool) →
    option_and_then says (if b then Some d else o) ≡ (if b then says d else option_and_then says o)
said_of says d o true = refl
said_of says d o false = refl

pub field_put : {A : Type 0} (name : List ℕ) (says : Data → Option A) (k : List ℕ) (d : Data) (ms : Members)
    → field name says (object (put k d ms)) ≡ (if bytes_eq k name then says d else field name says (object ms))
field_put name says k d ms = ap (option_and_then says) (found_at name k d ms (bytes_eq k name) refl) ∙
    said_of says d (get_member name ms) (bytes_eq k name)

absent_of : {A : Type 0} (a : A) (says : Data → Option A) (d : Data) (o : Option Data) (b : Bool) →
    or_absent a says (if b then Some d else o) ≡ (if b then says d else or_absent a says o)
absent_of a says d o true = refl
absent_of a says d o false = refl

pub optional_put : {A : Type 0} (a : A) (name : List ℕ) (says : Data → Option A) (k : List ℕ) (d : Data) (ms : Members)
    → optional a name says (object (put k d ms)) ≡ (if bytes_eq k name then says d else optional a name says (object ms))
optional_put a name says k d ms = ap (or_absent a says) (found_at name k d ms (bytes_eq k name) refl) ∙
    absent_of a says d (get_member name ms) (bytes_eq k name)

again : (b c : Bool) → (b && c) ≡ (b && (b && c))
again true c = refl
again false c = refl

turned : (a b c : Bool) → (a && (b && c)) ≡ (b && (a && c))
turned true b c = refl
turned false true c = refl
turned false false c = refl

among_at : (names k l : List ℕ) (all : List (List ℕ)) (o : Ordering) (d e : Data) (ms : Members) →
    slice_cmp nat_cmp k l ≡ o → are_among all (put k d ms) ≡ (is_one_of all k && are_among all ms)
    → are_among all (match_ordering o (member k d (member l e ms)) (member l d ms) (member l e (put k d ms))) ≡
    (is_one_of all k && (is_one_of all l && are_among all ms))
among_at names k l all Less d e ms is later = refl
among_at names k l all Equal d e ms is later =
    let same : k ≡ l = (bytes_eq-Decides k l).0 (sym (is_eq-slice_cmp k l) ∙ ap is_eq is) in
    rw same (again (is_one_of all l) (are_among all ms))
among_at names k l all Greater d e ms is later =
    ap (λ b. is_one_of all l && b) later ∙ turned (is_one_of all l) (is_one_of all k) (are_among all ms)

among_put : (all : List (List ℕ)) (k : List ℕ) (d : Data) (ms : Members) →
    are_among all (put k d ms) ≡ (is_one_of all k && are_among all ms)
among_put all k d no_members = refl
among_put all k d (member l e ms) = among_at [] k l all _ d e ms refl (among_put all k d ms)

pub only_put : (all : List (List ℕ)) (k : List ℕ) (d : Data) (ms : Members) →
    has_only all (object (put k d ms)) ≡ (is_one_of all k && has_only all (object ms))
only_put all k d ms = among_put all k d ms

pub either : {P : Type 0} (b : Bool) → (b ≡ true → P) → (b ≡ false → P) → P
either true yes_so not_so = yes_so refl
either false yes_so not_so = not_so refl

-- What holds at each of these names, and where a text is none of them

abbrev at_each : (List ℕ → Type 0) → List (List ℕ) → Type 0 → Type 0
at_each P [] goal = goal
at_each P (name ∷ names) goal = P name → at_each P names goal

abbrev at_none : List ℕ → List (List ℕ) → Type 0 → Type 0
at_none text [] goal = goal
at_none text (name ∷ names) goal = bytes_eq text name ≡ false → at_none text names goal

passed : (P : List ℕ → Type 0) (names : List (List ℕ)) (goal : Type 0) → goal → at_each P names goal
passed P [] goal is = is
passed P (name ∷ names) goal is = λ _. passed P names goal is

mapped : (P : List ℕ → Type 0) (names : List (List ℕ)) (one other : Type 0) → (one → other) → at_each P names one → at_each P names other
mapped P [] one other f is = f is
mapped P (name ∷ names) one other f is = λ here. mapped P names one other f (is here)

pub by_names : (P : List ℕ → Type 0) (text : List ℕ) (names : List (List ℕ)) → at_each P names (at_none text names (P text) → P text)
by_names P text [] = λ other. other
by_names P text (name ∷ names) = λ is. either (bytes_eq text name)
    (λ same. passed P names _ (λ other. subst P (sym ((bytes_eq-Decides text name).0 same)) is))
    (λ apart. mapped P names _ _ (λ by other. by (other apart)) (by_names P text names))
