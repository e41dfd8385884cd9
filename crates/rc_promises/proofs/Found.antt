-- What a read finds among entries: the greatest version of its key under its term, of one of them, or 0.
use Rattle.std.proofs.Common.{◌≡◌, ◌⊎◌, ℕ, ◌≤◌, true, ◌&&◌, nat_lt, List, [], ◌∷◌, Option, Some, None}
use Rattle.std.proofs.Common.{refl, sym, ap, ◌∙◌, subst, inl, inr, arith}
use Rattle.std.proofs.lemmas.Bool.{and_parts, eqb-true, ltb-true, and_from}
use Rattle.std.specs.List.{fold}
use Rattle.rc_model.specs.Model.{Entry, is_of, is_above, Found, found_in, or_greater, read_of, In}
use Rattle.rc_model.proofs.Tests.{either}
use Rattle.rc_owner_laws.proofs.Appending.{is-of-true}

of-is : {term table key : ℕ} (entry : Entry) → is_of term table key entry ≡ true → (entry.term ≡ term) × (entry.table ≡ table)
    × (entry.key ≡ key)
of-is {term} {table} {key} entry e = search (arith, and_parts, eqb-true)

module _ (term table key : ℕ) where
  -- what is found is an entry's
  pub record IsFound (entries : List Entry) (found : Found) : Type 0 where
    pub entry : Entry
    pub among : In entry entries
    pub term_is : entry.term ≡ term
    pub table_is : entry.table ≡ table
    pub key_is : entry.key ≡ key
    pub version_is : found.version ≡ entry.version
    pub value_is : found.value ≡ entry.value

  -- an entry was found: one of these
  record IsOne (entries : List Entry) (found : Option Entry) : Type 0 where
    pub entry : Entry
    pub among : In entry entries
    pub of : is_of term table key entry ≡ true
    pub is : found ≡ Some entry

  or-least : (found : Option Entry) (entry : Entry) →
      (found_in found).version ≤ (found_in (or_greater term table key found entry)).version
  or-least None entry = omega arith
  or-least (Some old) entry = search (arith, nat_lt, ltb-true, and_parts)

  or-above : (found : Option Entry) (entry : Entry) → is_of term table key entry ≡ true →
      entry.version ≤ (found_in (or_greater term table key found entry)).version
  or-above found entry of = search (arith, nat_lt, and_from)

  from-least : (found : Option Entry) (entries : List Entry) →
      (found_in found).version ≤ (found_in (fold (or_greater term table key) found entries)).version
  from-least found [] = omega arith
  from-least found (entry ∷ entries) =
      let a = or-least found entry in
      let b = from-least (or_greater term table key found entry) entries in
      omega arith

  from-above : (found : Option Entry) (entries : List Entry) (entry : Entry) → In entry entries → is_of term table key entry ≡ true →
      entry.version ≤ (found_in (fold (or_greater term table key) found entries)).version
  from-above found [] entry at of = absurd at
  from-above found (first ∷ entries) entry (inr at) of = from-above (or_greater term table key found first) entries entry at of
  from-above found (first ∷ entries) entry (inl same) of = search (arith, or-above, from-least)

  or-is : {found : Option Entry} {entry : Entry} → (or_greater term table key found entry ≡ found)
      ⊎ IsOne (entry ∷ []) (or_greater term table key found entry)
  or-is {found} {entry} = either (λ (now : Option Entry). (now ≡ found) ⊎ IsOne (entry ∷ []) now)
      (is_of term table key entry && is_above found entry.version) (Some entry) found
      (λ e. inr (record {
        entry = entry;
        among = inl refl;
        of = (and_parts (is_of term table key entry) (is_above found entry.version) e).0;
        is = refl;
      })) (λ e. inl refl)

  from-is : (found : Option Entry) (entries : List Entry) → (fold (or_greater term table key) found entries ≡ found)
      ⊎ IsOne entries (fold (or_greater term table key) found entries)
  from-is found [] = inl refl
  from-is found (entry ∷ entries) = by (from-is (or_greater term table key found entry) entries) or-is
    where
      more : IsOne entries (fold (or_greater term table key) (or_greater term table key found entry) entries) →
          IsOne (entry ∷ entries) (fold (or_greater term table key) (or_greater term table key found entry) entries)
      more p = record { entry = p.entry; among = inr p.among; of = p.of; is = p.is }

      first : IsOne (entry ∷ []) (or_greater term table key found entry) →
          IsOne (entry ∷ entries) (or_greater term table key found entry)
      first p = record { entry = p.entry; among = here p.among; of = p.of; is = p.is }
        where
          here : (p.entry ≡ entry) ⊎ ⊥ → (p.entry ≡ entry) ⊎ In p.entry entries
          here (inl e) = inl e
          here (inr never) = absurd never

      by : (fold (or_greater term table key) (or_greater term table key found entry) entries ≡ or_greater term table key found entry)
          ⊎ IsOne entries (fold (or_greater term table key) (or_greater term table key found entry) entries) →
          (or_greater term table key found entry ≡ found) ⊎ IsOne (entry ∷ []) (or_greater term table key found entry) →
          (fold (or_greater term table key) (or_greater term table key found entry) entries ≡ found)
          ⊎ IsOne (entry ∷ entries) (fold (or_greater term table key) (or_greater term table key found entry) entries)
      by (inr p) q = inr (more p)
      by (inl same) (inl still) = inl (same ∙ still)
      by (inl same) (inr p) = inr (subst (IsOne (entry ∷ entries)) (sym same) (first p))

  -- no entry of the key under the term is above what a read finds
  pub read-above : (entries : List Entry) (entry : Entry) → In entry entries → entry.term ≡ term → entry.table ≡ table → entry.key ≡ key →
      entry.version ≤ (read_of term table key entries).version
  read-above entries entry at a b c = from-above None entries entry at (is-of-true entry a b c)

  -- it finds nothing, or one of them,
  pub read-ways : {entries : List Entry} → (read_of term table key entries ≡ record { version = 0; value = None })
      ⊎ IsFound entries (read_of term table key entries)
  read-ways {entries} = by (from-is None entries)
    where
      by : (fold (or_greater term table key) None entries ≡ None) ⊎ IsOne entries (fold (or_greater term table key) None entries) →
          (read_of term table key entries ≡ record { version = 0; value = None }) ⊎ IsFound entries (read_of term table key entries)
      by (inl e) = inl (ap found_in e)
      by (inr p) =
          let of = of-is p.entry p.of in
          inr (record {
            entry = p.entry;
            among = p.among;
            term_is = of.0;
            table_is = of.1;
            key_is = of.2;
            version_is = ap (λ (found : Option Entry). (found_in found).version) p.is;
            value_is = ap (λ (found : Option Entry). (found_in found).value) p.is;
          })

  -- and above 0 it is one of them
  pub read-is : {entries : List Entry} → ((read_of term table key entries).version ≡ 0 → ⊥) →
      IsFound entries (read_of term table key entries)
  read-is {entries} above = search (arith, read-ways)
