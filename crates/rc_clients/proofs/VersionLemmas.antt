-- The writes and the values of each version, with one event more.
use Rattle.std.proofs.Common.{◌≡◌, ◌≢◌, ◌⊎◌, ◌∙◌, ℕ, ◌+◌, ◌<◌, Bool, true, false, cond, List, [], length}
use Rattle.std.proofs.Common.{Option, Some, None, unwrap_or, refl, sym, ap, subst, inl, inr, true≢false, arith}
use Rattle.std.specs.Prelude.{option_and_then}
use Rattle.std.specs.Ordering.{nat_cmp, ordering_then, is_eq}
use Rattle.std.specs.BTreeMap.{BTreeMap, get, is_at}
use Rattle.rc_clients.specs.declared.events.ClientEvent.{ClientEvent}
use Rattle.rc_clients.specs.declared.operations.Kind.{Kind}
use Rattle.rc_clients.specs.declared.operations.Kind.TheVariants.{Write, Read}
use Rattle.rc_clients.specs.declared.operations.Operation.{Operation}
use Rattle.rc_clients.specs.declared.doubled.VersionName.{VersionName}
use Rattle.rc_clients.specs.declared.judging.Violation.TheVariants as violation
use Rattle.rc_clients.specs.Operations.{operation_at, value_of, IsOperation}
use Rattle.rc_clients.specs.Linearizable.{AreOnKey, Breaks, HasWrite}
use Rattle.rc_clients.specs.Evidence.{AreFirsts, AreWrites, IsOneValue, if_write, version_of, version_order, write_at}
use Rattle.rc_clients.proofs.Facts.{answered_below, get_empty, is_operation, number_itself, numbers_same, one_at, then_equal, told, within}

-- a version by its parts
version_from : {a b : VersionName} → a.table ≡ b.table → a.key ≡ b.key → a.version ≡ b.version → a ≡ b
version_from {a} {b} table key version =
    let whole : ◌≡◌ {A = VersionName} (record { table = a.table; key = a.key; version = a.version })
    (record { table = b.table; key = b.key; version = b.version }) = cc in whole

pub same_version : {a b : VersionName} → is_at (version_order a) b ≡ true → a ≡ b
same_version {a} {b} e =
    let one = then_equal (nat_cmp a.table b.table) (ordering_then (nat_cmp a.key b.key) (nat_cmp a.version b.version)) e in
    let two = then_equal (nat_cmp a.key b.key) (nat_cmp a.version b.version) one.1 in
    version_from (numbers_same one.0) (numbers_same two.0) (numbers_same two.1)

version_itself : (a : VersionName) → is_at (version_order a) a ≡ true
version_itself a = ap is_eq (ap (λ o. ordering_then o (ordering_then (nat_cmp a.key a.key) (nat_cmp a.version a.version)))
    (number_itself a.table) ∙ ap (λ o. ordering_then o (nat_cmp a.version a.version)) (number_itself a.key) ∙ number_itself a.version)

some_number : {x y : ℕ} → ◌≡◌ {A = Option ℕ} (Some x) (Some y) → x ≡ y
some_number {x} e = ap (λ o. unwrap_or o x) e

no_some : {A : Type 0} {o : Option A} {x : A} → o ≡ None → o ≡ Some x → ⊥
no_some none some = cc

-- Writes

write_some : (history : List ClientEvent) (moment : ℕ) (a : Operation) → operation_at history moment ≡ Some a →
    a.kind ≡ Write → write_at history moment ≡ Some a
write_some history moment a at kind = ap (option_and_then (λ op. if_write op.kind op)) at ∙ ap (λ k. if_write k a) kind

write_told : (history : List ClientEvent) (moment : ℕ) {op : Operation} → write_at history moment ≡ Some op →
    (operation_at history moment ≡ Some op) × (op.kind ≡ Write)
write_told history moment {op} e = by (operation_at history moment) refl e
  where
    same : (x : Operation) → ◌≡◌ {A = Option Operation} (Some x) (Some op) → x ≡ op
    same x h = ap (λ o. unwrap_or o x) h

    kinded : (x : Operation) (k : Kind) → x.kind ≡ k → operation_at history moment ≡ Some x → if_write k x ≡ Some op →
        (operation_at history moment ≡ Some op) × (op.kind ≡ Write)
    kinded x Write kind at h = (
      subst (λ y. operation_at history moment ≡ Some y) (same x h) at,
      subst (λ (y : Operation). y.kind ≡ Write) (same x h) kind,
    )
    kinded x Read kind at h = cc

    by : (o : Option Operation) → operation_at history moment ≡ o → option_and_then (λ x. if_write x.kind x) o ≡ Some op →
        (operation_at history moment ≡ Some op) × (op.kind ≡ Write)
    by None at h = cc
    by (Some x) at h = kinded x x.kind refl at h

pub writes_begin : {history : List ClientEvent} {writes : BTreeMap VersionName ℕ} → writes.entries ≡ [] →
    AreWrites history 0 writes
writes_begin {writes} e = record {
  found = λ q r got. absurd (no_some (get_empty version_order writes q e) got);
  kept = λ a is kind before. absurd (none a.response before);
}
  where
    none : (n : ℕ) → n < 0 → ⊥
    none n h = omega (arith, h)

pub writes_none : {history : List ClientEvent} {moment : ℕ} {writes : BTreeMap VersionName ℕ} →
    write_at history moment ≡ None → AreWrites history moment writes → AreWrites history (moment + 1) writes
writes_none {history} {moment} {writes} none was = record {
  found = λ q r got. let h = was.found q r got in let b = h.4 in (h.0, h.1, h.2, h.3, omega (arith, b));
  kept = λ a is kind before. by a is kind (answered_below history is before);
}
  where
    by : (a : Operation) → IsOperation history a → a.kind ≡ Write →
        (a.response < moment) ⊎ (operation_at history moment ≡ Some a) →
        get version_order writes (version_of a) ≡ Some a.response
    by a is kind (inl h) = was.kept a is kind h
    by a is kind (inr at) = absurd (no_some none (write_some history moment a at kind))

pub writes_more : {history : List ClientEvent} {moment : ℕ} {old new : BTreeMap VersionName ℕ} {op : Operation}
    {name : VersionName} → write_at history moment ≡ Some op → name ≡ version_of op →
    get version_order old name ≡ None → AreWrites history moment old →
    ((q : VersionName) → get version_order new q ≡ cond (is_at (version_order name) q) (Some moment) (get version_order old q)) →
    AreWrites history (moment + 1) new
writes_more {history} {moment} {old} {op} {name} is named none was updates = record {
  found = λ q r got. found q r (is_at (version_order name) q) refl (sym (updates q) ∙ got);
  kept = λ a at kind before. updates (version_of a) ∙ kept a at kind (is_at (version_order name) (version_of a)) refl
      (answered_below history at before);
}
  where
    here : (operation_at history moment ≡ Some op) × (op.kind ≡ Write)
    here = write_told history moment is

    found : (q : VersionName) (r : ℕ) (b : Bool) → is_at (version_order name) q ≡ b →
        cond b (Some moment) (get version_order old q) ≡ Some r →
        (o : Operation) × (operation_at history r ≡ Some o) × (version_of o ≡ q) × (o.kind ≡ Write) × (r < moment + 1)
    found q r true e got =
        let at : moment ≡ r = some_number got in
        (op, subst (λ m. operation_at history m ≡ Some op) at here.0, sym named ∙ same_version e, here.1, omega (arith, at))
    found q r false e got = let h = was.found q r got in let b = h.4 in (h.0, h.1, h.2, h.3, omega (arith, b))

    kept : (a : Operation) → IsOperation history a → a.kind ≡ Write → (b : Bool) →
        is_at (version_order name) (version_of a) ≡ b → (a.response < moment) ⊎ (operation_at history moment ≡ Some a) →
        cond b (Some moment) (get version_order old (version_of a)) ≡ Some a.response
    kept a at kind true e (inl h) = absurd (no_some none
        (subst (λ k. get version_order old k ≡ Some a.response) (sym (same_version e)) (was.kept a at kind h)))
    kept a at kind true e (inr now) = ap Some (sym (told now).response_is)
    kept a at kind false e (inl h) = was.kept a at kind h
    kept a at kind false e (inr now) =
        let same : op ≡ a = one_at history moment here.0 now in
        let own : is_at (version_order name) (version_of a) ≡ true =
        subst (λ k. is_at (version_order name) k ≡ true) (named ∙ ap version_of same) (version_itself name) in
        absurd (true≢false (sym own ∙ e))

pub two_writes : {history : List ClientEvent} {moment other : ℕ} {writes : BTreeMap VersionName ℕ} {op : Operation}
    {name : VersionName} → write_at history moment ≡ Some op → name ≡ version_of op →
    get version_order writes name ≡ Some other → AreWrites history moment writes →
    Breaks history (violation.TwoWrites other moment)
two_writes {history} {moment} {other} {op} {name} is named got was =
    let here = write_told history moment is in
    let there = was.found name other got in
    let same : version_of there.0 ≡ version_of op = there.2 ∙ named in
    let before : other < moment = there.4 in (
      there.0,
      op,
      record {
        first = there.1;
        second = here.0;
        on_key = record { table_is = ap (λ (v : VersionName). v.table) same; key_is = ap (λ (v : VersionName). v.key) same };
      },
      ap (λ (v : VersionName). v.version) same,
      there.3,
      here.1,
      λ e. differ e before,
    )
  where
    differ : other ≡ moment → other < moment → ⊥
    differ e h = omega (arith, e, h)

-- of one version there is one
pub one_write : (history : List ClientEvent) (writes : BTreeMap VersionName ℕ) (a b : Operation) →
    AreWrites history (length history) writes → IsOperation history a → IsOperation history b → AreOnKey a b →
    a.version ≡ b.version → a.kind ≡ Write → b.kind ≡ Write → a.response ≡ b.response
one_write history writes a b are is_a is_b on version kind_a kind_b =
    let same : version_of a ≡ version_of b = version_from on.table_is on.key_is version in
    some_number (sym (are.kept a is_a kind_a (within history is_a))
    ∙ ap (get version_order writes) same ∙ are.kept b is_b kind_b (within history is_b))

pub write_there : {history : List ClientEvent} {writes : BTreeMap VersionName ℕ} {op : Operation} {name : VersionName}
    {response : ℕ} → AreWrites history (length history) writes → name ≡ version_of op →
    get version_order writes name ≡ Some response → HasWrite history op
write_there {history} {op} {name} {response} are named got =
    let there = are.found name response got in
    let same : version_of there.0 ≡ version_of op = there.2 ∙ named in (
      there.0,
      record {
        is = is_operation history response there.1;
        on_key = record { table_is = ap (λ (v : VersionName). v.table) same; key_is = ap (λ (v : VersionName). v.key) same };
        kind = there.3;
        version_is = ap (λ (v : VersionName). v.version) same;
      },
    )

pub write_absent : {history : List ClientEvent} {writes : BTreeMap VersionName ℕ} {op : Operation} {name : VersionName} →
    AreWrites history (length history) writes → name ≡ version_of op → get version_order writes name ≡ None →
    HasWrite history op → ⊥
write_absent {history} {writes} {op} are named none has =
    let write = has.0 in let h = has.1 in
    let same : version_of write ≡ version_of op =
    version_from h.on_key.table_is h.on_key.key_is h.version_is in
    no_some none (ap (get version_order writes) (named ∙ sym same) ∙ are.kept write h.is h.kind (within history h.is))

-- Values

pub firsts_begin : {history : List ClientEvent} {firsts : BTreeMap VersionName Operation} → firsts.entries ≡ [] →
    AreFirsts history 0 firsts
firsts_begin {firsts} e = record {
  found = λ q op got. absurd (no_some (get_empty version_order firsts q e) got);
  kept = λ a is before. absurd (none a.response before);
}
  where
    none : (n : ℕ) → n < 0 → ⊥
    none n h = omega (arith, h)

pub firsts_none : {history : List ClientEvent} {moment : ℕ} {firsts : BTreeMap VersionName Operation} →
    operation_at history moment ≡ None → AreFirsts history moment firsts → AreFirsts history (moment + 1) firsts
firsts_none {history} {moment} {firsts} none was = record {
  found = λ q op got. let h = was.found q op got in let b = h.2 in (h.0, h.1, omega (arith, b));
  kept = λ a is before. by a is (answered_below history is before);
}
  where
    by : (a : Operation) → IsOperation history a → (a.response < moment) ⊎ (operation_at history moment ≡ Some a) →
        (op : Operation) × (get version_order firsts (version_of a) ≡ Some op) × (value_of history op ≡ value_of history a)
    by a is (inl h) = was.kept a is h
    by a is (inr at) = absurd (no_some none at)

pub firsts_same : {history : List ClientEvent} {moment : ℕ} {firsts : BTreeMap VersionName Operation} {op first : Operation}
    {name : VersionName} → operation_at history moment ≡ Some op → name ≡ version_of op →
    get version_order firsts name ≡ Some first → value_of history first ≡ value_of history op →
    AreFirsts history moment firsts → AreFirsts history (moment + 1) firsts
firsts_same {history} {moment} {firsts} {op} {first} is named got like was = record {
  found = λ q other got. let h = was.found q other got in let b = h.2 in (h.0, h.1, omega (arith, b));
  kept = λ a at before. by a at (answered_below history at before);
}
  where
    by : (a : Operation) → IsOperation history a → (a.response < moment) ⊎ (operation_at history moment ≡ Some a) →
        (f : Operation) × (get version_order firsts (version_of a) ≡ Some f) × (value_of history f ≡ value_of history a)
    by a at (inl h) = was.kept a at h
    by a at (inr now) =
        let same : op ≡ a = one_at history moment is now in
        (first, ap (get version_order firsts) (sym (named ∙ ap version_of same)) ∙ got, like ∙ ap (value_of history) same)

pub firsts_more : {history : List ClientEvent} {moment : ℕ} {old new : BTreeMap VersionName Operation} {op : Operation}
    {name : VersionName} → operation_at history moment ≡ Some op → name ≡ version_of op →
    get version_order old name ≡ None → AreFirsts history moment old →
    ((q : VersionName) → get version_order new q ≡ cond (is_at (version_order name) q) (Some op) (get version_order old q)) →
    AreFirsts history (moment + 1) new
firsts_more {history} {moment} {old} {new} {op} {name} is named none was updates = record {
  found = λ q f got. found q f (is_at (version_order name) q) refl (sym (updates q) ∙ got);
  kept = λ a at before. kept a (is_at (version_order name) (version_of a)) refl at (answered_below history at before);
}
  where
    some_op : (x y : Operation) → ◌≡◌ {A = Option Operation} (Some x) (Some y) → x ≡ y
    some_op x y h = ap (λ o. unwrap_or o x) h

    own : op.response < moment + 1
    own = let e = (told is).response_is in omega (arith, e)

    found : (q : VersionName) (f : Operation) (b : Bool) → is_at (version_order name) q ≡ b →
        cond b (Some op) (get version_order old q) ≡ Some f →
        IsOperation history f × (version_of f ≡ q) × (f.response < moment + 1)
    found q f true e got = subst (λ x. IsOperation history x × (version_of x ≡ q) × (x.response < moment + 1)) (some_op op f got)
        (is_operation history moment is, sym named ∙ same_version e, own)
    found q f false e got = let h = was.found q f got in let b = h.2 in (h.0, h.1, omega (arith, b))

    kept : (a : Operation) (b : Bool) → is_at (version_order name) (version_of a) ≡ b → IsOperation history a →
        (a.response < moment) ⊎ (operation_at history moment ≡ Some a) →
        (f : Operation) × (get version_order new (version_of a) ≡ Some f) × (value_of history f ≡ value_of history a)
    kept a true e at (inl h) =
        let there = was.kept a at h in
        absurd (no_some none (subst (λ k. get version_order old k ≡ Some there.0) (sym (same_version e)) there.1))
    kept a true e at (inr now) = (
      op,
      updates (version_of a) ∙ ap (λ b. cond b (Some op) (get version_order old (version_of a))) e,
      ap (value_of history) (one_at history moment is now),
    )
    kept a false e at (inl h) =
        let there = was.kept a at h in
        (there.0, updates (version_of a) ∙ ap (λ b. cond b (Some op) (get version_order old (version_of a))) e ∙ there.1, there.2)
    kept a false e at (inr now) =
        let same : op ≡ a = one_at history moment is now in
        let own : is_at (version_order name) (version_of a) ≡ true =
        subst (λ k. is_at (version_order name) k ≡ true) (named ∙ ap version_of same) (version_itself name) in
        absurd (true≢false (sym own ∙ e))

pub two_values : {history : List ClientEvent} {moment : ℕ} {firsts : BTreeMap VersionName Operation} {op first : Operation}
    {name : VersionName} → operation_at history moment ≡ Some op → name ≡ version_of op →
    get version_order firsts name ≡ Some first → value_of history first ≢ value_of history op →
    AreFirsts history moment firsts → Breaks history (violation.TwoValues first.response moment)
two_values {op} {first} {name} is named got differ was =
    let there = was.found name first got in
    let same : version_of first ≡ version_of op = there.1 ∙ named in (
      first,
      op,
      record {
        first = there.0;
        second = is;
        on_key = record { table_is = ap (λ (v : VersionName). v.table) same; key_is = ap (λ (v : VersionName). v.key) same };
      },
      ap (λ (v : VersionName). v.version) same,
      differ,
    )

pub one_value : (history : List ClientEvent) (firsts : BTreeMap VersionName Operation) →
    AreFirsts history (length history) firsts → IsOneValue history
one_value history firsts are = record {
  each = λ a b is_a is_b on version.
      let same : version_of a ≡ version_of b = version_from on.table_is on.key_is version in
      let one = are.kept a is_a (within history is_a) in
      let other = are.kept b is_b (within history is_b) in
      let first : one.0 ≡ other.0 = some_op one.0 other.0 (sym one.1 ∙ ap (get version_order firsts) same ∙ other.1) in
      sym one.2 ∙ ap (value_of history) first ∙ other.2;
}
  where
    some_op : (x y : Operation) → ◌≡◌ {A = Option Operation} (Some x) (Some y) → x ≡ y
    some_op x y h = ap (λ o. unwrap_or o x) h
