-- Tablets that do not overlap: who owns a point after each change of them.
use Rattle.std.proofs.Common.{◌≡◌, ℕ, ◌<◌, Bool, true, false, cond, ◌||◌, List, [], ◌∷◌, nat_eq}
use Rattle.std.proofs.Common.{nat_lt, Option, Some, None, option_map, refl, sym, ap, ◌∙◌, subst, arith}
use Rattle.std.proofs.lemmas.Bool.{eqb-true, and_parts}
use Rattle.std.proofs.lemmas.Bool.Decides.{nat_tests}
use Rattle.rc_model.specs.Model.{lower_half, upper_half, ServerId, Tablet, KeyRange, same_id, holds, tablet_of, has_table, insert_tablet}
use Rattle.rc_model.specs.Model.{whole_table, with_table}
use Rattle.rc_model.specs.Model.{mark_if_owned, marked_crashed, split_at, is_range, has_range, assigned, in_range}
use Rattle.rc_owner_laws.specs.Grants.{TabletsApart, owner_of, owner_at}
use Rattle.rc_model.proofs.Tests.{true_false, either}
use Rattle.rc_step_laws.proofs.Copies.{split}

-- a tablet that holds the point, before others, or the first of the others
first-holds : {tablet : Tablet} (tablets : List Tablet) (table key : ℕ) → holds tablet table key ≡ true →
    tablet_of (tablet ∷ tablets) table key ≡ Some tablet
first-holds {tablet} tablets table key e = ap (λ b. cond b (Some tablet) (tablet_of tablets table key)) e

first-lacks : (tablet : Tablet) (tablets : List Tablet) (table key : ℕ) → holds tablet table key ≡ false →
    tablet_of (tablet ∷ tablets) table key ≡ tablet_of tablets table key
first-lacks tablet tablets table key e = ap (λ b. cond b (Some tablet) (tablet_of tablets table key)) e

pub some-none : {X P : Type 0} {x : X} → Some x ≡ None → P
some-none e = cc

-- Marks

-- a mark changes neither who owns a point nor which points have an owner
mark-owner : (owner : ServerId) (tablet : Tablet) → owner_of (mark_if_owned owner tablet) ≡ owner_of tablet
mark-owner owner tablet = either (λ (now : Tablet). owner_of now ≡ owner_of tablet) (same_id owner tablet.owner)
    (record tablet { crashed = true }) tablet (λ _. refl) (λ _. refl)

mark-holds : (owner : ServerId) (tablet : Tablet) (table key : ℕ) → holds (mark_if_owned owner tablet) table key ≡ holds tablet table key
mark-holds owner tablet table key = either (λ (now : Tablet). holds now table key ≡ holds tablet table key)
    (same_id owner tablet.owner) (record tablet { crashed = true }) tablet (λ _. refl) (λ _. refl)

pub marked-tablet : (owner : ServerId) (tablets : List Tablet) (table key : ℕ) →
    tablet_of (marked_crashed owner tablets) table key ≡ option_map (mark_if_owned owner) (tablet_of tablets table key)
marked-tablet owner [] table key = refl
marked-tablet owner (tablet ∷ tablets) table key = split (holds tablet table key)
    (λ e. first-holds (marked_crashed owner tablets) table key (mark-holds owner tablet table key ∙ e)
    ∙ sym (ap (option_map (mark_if_owned owner)) (first-holds tablets table key e)))
    (λ e. first-lacks (mark_if_owned owner tablet) (marked_crashed owner tablets) table key (mark-holds owner tablet table key ∙ e)
    ∙ (marked-tablet owner tablets table key ∙ sym (ap (option_map (mark_if_owned owner)) (first-lacks tablet tablets table key e))))

marked-owner : (owner : ServerId) (found : Option Tablet) →
    option_map owner_of (option_map (mark_if_owned owner) found) ≡ option_map owner_of found
marked-owner owner None = refl
marked-owner owner (Some tablet) = ap Some (mark-owner owner tablet)

pub owner_at-marked : (owner : ServerId) (tablets : List Tablet) (table key : ℕ) →
    owner_at (marked_crashed owner tablets) table key ≡ owner_at tablets table key
owner_at-marked owner tablets table key =
    ap (option_map owner_of) (marked-tablet owner tablets table key) ∙ marked-owner owner (tablet_of tablets table key)

pub apart-marked : (owner : ServerId) (tablets : List Tablet) → TabletsApart tablets → TabletsApart (marked_crashed owner tablets)
apart-marked owner [] apart = tt
apart-marked owner (tablet ∷ tablets) apart = (
  λ table key e. marked-tablet owner tablets table key ∙ ap (option_map (mark_if_owned owner))
      (apart.0 table key (sym (mark-holds owner tablet table key) ∙ e)),
  apart-marked owner tablets apart.1,
)

-- Splits

lower-lacks : (tablet : Tablet) (at table key : ℕ) → holds (lower_half at tablet) table key ≡ false →
    holds tablet table key ≡ true → holds (upper_half at tablet) table key ≡ true
lower-lacks tablet at table key p q = grind (arith, nat_tests)

upper-lacks : (tablet : Tablet) (at table key : ℕ) → 0 < at → holds (lower_half at tablet) table key ≡ true →
    holds (upper_half at tablet) table key ≡ false
upper-lacks tablet at table key p q = grind (arith, nat_tests)

lower-within : (tablet : Tablet) (table at other key : ℕ) → holds tablet table at ≡ true →
    holds (lower_half at tablet) other key ≡ true → holds tablet other key ≡ true
lower-within tablet table at other key p q = grind (arith, nat_tests)

upper-within : (tablet : Tablet) (table at other key : ℕ) → holds tablet table at ≡ true →
    holds (upper_half at tablet) other key ≡ true → holds tablet other key ≡ true
upper-within tablet table at other key p q = grind (arith, nat_tests)

-- who owns a point stays so where its tablet is split
pub owner_at-split : (table at : ℕ) (tablets : List Tablet) (other key : ℕ) →
    owner_at (split_at table at tablets) other key ≡ owner_at tablets other key
owner_at-split table at [] other key = refl
owner_at-split table at (tablet ∷ tablets) other key =
    either (λ (now : List Tablet). owner_at now other key ≡ owner_at (tablet ∷ tablets) other key) (holds tablet table at)
    (lower_half at tablet ∷ upper_half at tablet ∷ tablets) (tablet ∷ split_at table at tablets)
    (λ e. halves e) (λ _. rest (owner_at-split table at tablets other key))
  where
    rest : owner_at (split_at table at tablets) other key ≡ owner_at tablets other key →
        owner_at (tablet ∷ split_at table at tablets) other key ≡ owner_at (tablet ∷ tablets) other key
    rest rec = search (arith, split, option_map, first-holds, first-lacks)

    halves : holds tablet table at ≡ true →
        owner_at (lower_half at tablet ∷ upper_half at tablet ∷ tablets) other key ≡ owner_at
        (tablet ∷ tablets) other key
    halves e = search (arith, split, option_map, first-holds, lower-within, first-lacks, lower-lacks, upper-within)

-- where nobody owned a point, nobody does after a split
none-of : (found : Option Tablet) → option_map owner_of found ≡ None → found ≡ None
none-of None e = refl
none-of (Some tablet) e = cc

none-split : (table at : ℕ) (tablets : List Tablet) (other key : ℕ) → tablet_of tablets other key ≡ None →
    tablet_of (split_at table at tablets) other key ≡ None
none-split table at tablets other key e =
    none-of (tablet_of (split_at table at tablets) other key) (owner_at-split table at tablets other key ∙ ap (option_map owner_of) e)

pub apart-split : (table at : ℕ) (tablets : List Tablet) → 0 < at → TabletsApart tablets → TabletsApart (split_at table at tablets)
apart-split table at [] above apart = tt
apart-split table at (tablet ∷ tablets) above apart =
    either (λ (now : List Tablet). TabletsApart now) (holds tablet table at)
    (lower_half at tablet ∷ upper_half at tablet ∷ tablets) (tablet ∷ split_at table at tablets) (λ e. (
      λ other key here. first-lacks (upper_half at tablet) tablets other key
          (upper-lacks tablet at other key above here) ∙
          apart.0 other key (lower-within tablet table at other key e here),
      (λ other key here. apart.0 other key (upper-within tablet table at other key e here), apart.1),
    ))
    (λ _. (λ other key e. none-split table at tablets other key (apart.0 other key e), apart-split table at tablets above apart.1))

-- New tables

-- a table that has no tablet has no point with an owner
pub none-of_table : (tablets : List Tablet) (table key : ℕ) → has_table tablets table ≡ false → tablet_of tablets table key ≡ None
none-of_table [] table key e = refl
none-of_table (tablet ∷ tablets) table key e =
    by (nat_eq tablet.range.table table) (has_table tablets table) refl (none-of_table tablets table key) e
  where
    by : (here : Bool) (later : Bool) → nat_eq tablet.range.table table ≡ here →
        (has_table tablets table ≡ false → tablet_of tablets table key ≡ None) →
        has_table (tablet ∷ tablets) table ≡ false → tablet_of (tablet ∷ tablets) table key ≡ None
    by true later is rec e = true_false (sym (ap (λ b. b || has_table tablets table) is) ∙ e)
    by false later is rec e = search (arith, first-lacks)

-- a new tablet owns its points, if nobody did, and no other point changes
inserted : {new : Tablet} (tablets : List Tablet) (table key : ℕ) → holds new table key ≡ true →
    tablet_of tablets table key ≡ None → tablet_of (insert_tablet new tablets) table key ≡ Some new
inserted [] table key e none = first-holds [] table key e
inserted {new} (tablet ∷ tablets) table key e none =
    either (λ (now : List Tablet). tablet_of now table key ≡ Some new) (nat_lt new.range.table tablet.range.table)
    (new ∷ tablet ∷ tablets) (tablet ∷ insert_tablet new tablets) (λ _. first-holds (tablet ∷ tablets) table key e)
    (λ _. split (holds tablet table key) (λ here. some-none (sym (first-holds tablets table key here) ∙ none))
    (λ lacks. first-lacks tablet (insert_tablet new tablets) table key lacks ∙ inserted tablets table key e
    (sym (first-lacks tablet tablets table key lacks) ∙ none)))

beside : (new : Tablet) (tablets : List Tablet) (table key : ℕ) → holds new table key ≡ false →
    tablet_of (insert_tablet new tablets) table key ≡ tablet_of tablets table key
beside new [] table key e = first-lacks new [] table key e
beside new (tablet ∷ tablets) table key e =
    either (λ (now : List Tablet). tablet_of now table key ≡ tablet_of (tablet ∷ tablets) table key)
    (nat_lt new.range.table tablet.range.table) (new ∷ tablet ∷ tablets) (tablet ∷ insert_tablet new tablets)
    (λ _. first-lacks new (tablet ∷ tablets) table key e) (λ _. split (holds tablet table key)
    (λ here. first-holds (insert_tablet new tablets) table key here ∙ sym (first-holds tablets table key here))
    (λ lacks. first-lacks tablet (insert_tablet new tablets) table key lacks ∙
    (beside new tablets table key e ∙ sym (first-lacks tablet tablets table key lacks))))

apart-inserted : (new : Tablet) (tablets : List Tablet) →
    ((table key : ℕ) → holds new table key ≡ true → tablet_of tablets table key ≡ None) → TabletsApart tablets →
    TabletsApart (insert_tablet new tablets)
apart-inserted new [] none apart = (λ table key e. refl, tt)
apart-inserted new (tablet ∷ tablets) none apart =
    either (λ (now : List Tablet). TabletsApart now) (nat_lt new.range.table tablet.range.table) (new ∷ tablet ∷ tablets)
    (tablet ∷ insert_tablet new tablets) (λ _. (none, (apart.0, apart.1))) (λ _. (
      λ table key here. split (holds new table key)
          (λ both. some-none (sym (first-holds tablets table key here) ∙ none table key both))
          (λ lacks. beside new tablets table key lacks ∙ apart.0 table key here),
      apart-inserted new tablets (λ table key e. later table key e) apart.1,
    ))
  where
    later : (table key : ℕ) → holds new table key ≡ true → tablet_of tablets table key ≡ None
    later table key e = search (arith, split, some-none, first-holds, first-lacks)

-- a point of a whole table is one of that table
whole-table : {table other : ℕ} (key : ℕ) (owner : ServerId) (term : ℕ)
    → holds (whole_table table owner term) other key ≡ true → table ≡ other
whole-table key owner term e = grind (arith, nat_tests)

pub owner_at-new : (table : ℕ) {term : ℕ} (other key : ℕ) {owner : ServerId} (tablets : List Tablet) →
    has_table tablets table ≡ false → holds (whole_table table owner term) other key ≡ true →
    owner_at (with_table table owner term tablets) other key ≡ Some (owner, term)
owner_at-new table {term} other key {owner} tablets fresh e = ap (option_map owner_of) (inserted tablets other key e
    (subst (λ t. tablet_of tablets t key ≡ None) (whole-table key owner term e) (none-of_table tablets table key fresh)))

pub owner_at-beside : (table term other key : ℕ) (owner : ServerId) (tablets : List Tablet) →
    holds (whole_table table owner term) other key ≡ false →
    owner_at (with_table table owner term tablets) other key ≡ owner_at tablets other key
owner_at-beside table term other key owner tablets e = ap (option_map owner_of) (beside (whole_table table owner term) tablets other key e)

pub owner_at-before : (table term other key : ℕ) (owner : ServerId) (tablets : List Tablet) →
    has_table tablets table ≡ false → holds (whole_table table owner term) other key ≡ true →
    owner_at tablets other key ≡ None
owner_at-before table term other key owner tablets fresh e = search (arith, option_map, whole-table, none-of_table)

pub apart-new : (table term : ℕ) (owner : ServerId) (tablets : List Tablet) → has_table tablets table ≡ false →
    TabletsApart tablets → TabletsApart (with_table table owner term tablets)
apart-new table term owner tablets fresh apart = search (arith, apart-inserted, whole-table, none-of_table)

-- Grants

-- a tablet of exactly this range holds exactly its points
range-holds : (range : KeyRange) (tablet : Tablet) (table key : ℕ) → is_range range tablet ≡ true →
    holds tablet table key ≡ in_range range table key
range-holds range tablet table key e = search (arith, and_parts, eqb-true)

-- a point in a range that some tablet has is held
ranged-some : (range : KeyRange) (tablets : List Tablet) (table key : ℕ) → has_range range tablets ≡ true →
    in_range range table key ≡ true → tablet_of tablets table key ≡ None → ⊥
ranged-some range [] table key has e none = true_false (sym has)
ranged-some range (tablet ∷ tablets) table key has e none = by (is_range range tablet) refl (ranged-some range tablets table key) has
  where
    by : (here : Bool) → is_range range tablet ≡ here →
        (has_range range tablets ≡ true → in_range range table key ≡ true → tablet_of tablets table key ≡ None → ⊥) →
        (is_range range tablet || has_range range tablets) ≡ true → ⊥
    by true is rec h = some-none (sym (first-holds tablets table key (range-holds range tablet table key is ∙ e)) ∙ none)
    by false is rec h = search (arith, split, some-none, first-holds, first-lacks)

-- a point outside the range keeps its tablet
pub assigned-beside : (range : KeyRange) (id : ServerId) (term : ℕ) (tablets : List Tablet) (table key : ℕ) →
    in_range range table key ≡ false → tablet_of (assigned range id term tablets) table key ≡ tablet_of tablets table
    key
assigned-beside range id term [] table key e = refl
assigned-beside range id term (tablet ∷ tablets) table key e =
    either (λ (now : List Tablet). tablet_of now table key ≡ tablet_of (tablet ∷ tablets) table key) (is_range range tablet)
    (record tablet { owner = id; term = term; crashed = false } ∷ tablets) (tablet ∷ assigned range id term tablets)
    (λ is. first-lacks (record tablet { owner = id; term = term; crashed = false }) tablets table key
    (range-holds range tablet table key is ∙ e)
    ∙ sym (first-lacks tablet tablets table key (range-holds range tablet table key is ∙ e)))
    (λ _. split (holds tablet table key)
    (λ here. first-holds (assigned range id term tablets) table key here ∙ sym (first-holds tablets table key here))
    (λ lacks. first-lacks tablet (assigned range id term tablets) table key lacks ∙
    (assigned-beside range id term tablets table key e ∙ sym (first-lacks tablet tablets table key lacks))))

-- a point within it is the new owner's
pub assigned-within : (range : KeyRange) {id : ServerId} {term : ℕ} (tablets : List Tablet) (table key : ℕ) →
    TabletsApart tablets → has_range range tablets ≡ true → in_range range table key ≡ true →
    owner_at (assigned range id term tablets) table key ≡ Some (id, term)
assigned-within range [] table key apart has e = true_false (sym has)
assigned-within range {id} {term} (tablet ∷ tablets) table key apart has e =
    either (λ (now : List Tablet). owner_at now table key ≡ Some (id, term)) (is_range range tablet)
    (record tablet { owner = id; term = term; crashed = false } ∷ tablets) (tablet ∷ assigned range id term tablets)
    (λ is. ap (option_map owner_of) (first-holds tablets
    table key (range-holds range tablet table key is ∙ e)))
    (λ is_not. later (λ rest. assigned-within range tablets table key apart.1 rest e)
    (sym (ap (λ b. b || has_range range tablets) is_not) ∙ has))
  where
    later : (has_range range tablets ≡ true → owner_at (assigned range id term tablets) table key ≡ Some (id, term)) →
        has_range range tablets ≡ true → owner_at (tablet ∷ assigned range id term tablets) table key ≡ Some (id, term)
    later rec rest = search (arith, split, ranged-some, option_map, first-lacks)

pub apart-assigned : (range : KeyRange) (id : ServerId) (term : ℕ) (tablets : List Tablet) → TabletsApart tablets →
    TabletsApart (assigned range id term tablets)
apart-assigned range id term [] apart = tt
apart-assigned range id term (tablet ∷ tablets) apart =
    either (λ (now : List Tablet). TabletsApart now) (is_range range tablet)
    (record tablet { owner = id; term = term; crashed = false } ∷ tablets) (tablet ∷ assigned range id term tablets)
    (λ _. (apart.0, apart.1))
    (λ _. (λ table key here. none-assigned tablets table key (apart.0 table key here), apart-assigned range id term tablets apart.1))
  where
    none-assigned : (ts : List Tablet) (table key : ℕ) → tablet_of ts table key ≡ None →
        tablet_of (assigned range id term ts) table key ≡ None
    none-assigned [] table key e = refl
    none-assigned (one ∷ ts) table key e = split (holds one table key)
        (λ here. some-none (sym (first-holds ts table key here) ∙ e))
        (λ lacks. either (λ (now : List Tablet). tablet_of now table key ≡ None) (is_range range one)
        (record one { owner = id; term = term; crashed = false } ∷ ts) (one ∷ assigned range id term ts)
        (λ _. first-lacks (record one { owner = id; term = term; crashed = false }) ts table key lacks ∙
        (sym (first-lacks one ts table key lacks) ∙ e))
        (λ _. first-lacks one (assigned range id term ts) table key lacks ∙
        none-assigned ts table key (sym (first-lacks one ts table key lacks) ∙ e)))
