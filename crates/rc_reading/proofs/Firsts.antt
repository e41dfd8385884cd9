-- What a value says by its first token.
use Rattle.std.proofs.Common.{◌≡◌, ℕ, zero, suc, ◌-◌, ◌<◌, List, ◌∷◌, Bool, true, false, Option, Some, None}
use Rattle.std.proofs.Common.{option_map, option_and_then, refl, sym, ap, ◌∙◌, arith}
use Rattle.json.specs.Token.{Token}
use Rattle.json.proofs.Grammar.{left_some}
use Rattle.serde_json.specs.Data.{Num, Data, number, array, object, Items, Members, no_members}
use Rattle.serde_json.specs.Read.{number_of}
use Rattle.serde_json.specs.Find.{as_u64, as_object}
use Rattle.rc_reading.specs.All.{listed, list_of, addr_of, id_in, Said, said_of, both_of, begins_object, data_at, items_at, members_at}
use Rattle.rc_reading.specs.All.{told, says, rest}
use Rattle.rc_types.specs.declared.ids.ServerId.{ServerId}
use Rattle.rc_types.specs.declared.ids.Addr.TheVariants.{Server}
use Rattle.rc_reading.proofs.Turns.{opened_list, opened_object}
use Rattle.rc_reading.proofs.Passing.{at_string, at_bool, at_null, at_number, at_end_object, at_end_array, at_key}
use Rattle.rc_reading.proofs.Passing.{at_bad, too_deep_list, too_deep_object}

pub text_said : (depth : ℕ) (s : List ℕ) (ts : List Token) → says both_of depth (Token.string s ∷ ts) ≡ Some ((Said.text s, None), ts)
text_said depth s ts = ap (told both_of) (at_string depth s ts)

pub flag_said : (depth : ℕ) (b : Bool) (ts : List Token) → says both_of depth (Token.boolean b ∷ ts) ≡ Some ((Said.flag b, None), ts)
flag_said depth b ts = ap (told both_of) (at_bool depth b ts)

pub null_said : (depth : ℕ) (ts : List Token) → says both_of depth (Token.null ∷ ts) ≡ Some ((Said.nothing, None), ts)
null_said depth ts = ap (told both_of) (at_null depth ts)

number_found : (o : Option Num) (read : Option (Option ℕ)) (n : Option ℕ) (ts : List Token) → read ≡ option_map as_u64 o → read ≡ Some n
    → told both_of (option_map (λ x. (number x, ts)) o) ≡ Some ((Said.number n, None), ts)
number_found None read n ts is some = absurd (cc)
number_found (Some x) read n ts is some = let same : as_u64 x ≡ n = cc in ap (λ m. Some ((Said.number m, None), ts)) same

pub number_said : (depth : ℕ) (s : List ℕ) (ts : List Token) (read : Option (Option ℕ)) (n : Option ℕ) →
    read ≡ option_map as_u64 (number_of s) → read ≡ Some n
    → says both_of depth (Token.number s ∷ ts) ≡ Some ((Said.number n, None), ts)
number_said depth s ts read n is some = ap (told both_of) (at_number depth s ts) ∙ number_found (number_of s) read n ts is some

same_end : (x r : List Token) → Some x ≡ Some r → x ≡ r
same_end x r e = cc

object_found : (o : Option (Members × List Token)) (r : List Token) → rest (told object o) ≡ Some r →
    told both_of (told object o) ≡ Some ((Said.other, None), r)
object_found None r e = absurd (cc)
object_found (Some q) r e = ap (λ y. Some ((Said.other, None), y)) (same_end q.1 r e)

pub object_said : (depth : ℕ) (ts r : List Token) → rest (data_at depth (Token.begin_object ∷ ts)) ≡ Some r →
    says both_of depth (Token.begin_object ∷ ts) ≡ Some ((Said.other, None), r)
object_said zero ts r e = absurd (let none : None ≡ Some r = sym (ap rest (too_deep_object ts)) ∙ e in cc)
object_said (suc depth) ts r e =
    let is = opened_object (suc depth) ts (omega arith) in
    ap (told both_of) is ∙ object_found (members_at no_members (suc depth - 1) ts) r (sym (ap rest is) ∙ e)

list_found : (o : Option (Items × List Token)) (r : List Token) → rest o ≡ Some r → told said_of (told array o) ≡ Some (Said.other, r)
list_found None r e = absurd (cc)
list_found (Some q) r e = ap (λ y. Some (Said.other, y)) (same_end q.1 r e)

pub list_said : (depth : ℕ) (ts r : List Token) → 0 < depth → rest (items_at (depth - 1) ts) ≡ Some r →
    says said_of depth (Token.begin_array ∷ ts) ≡ Some (Said.other, r)
list_said depth ts r some e = ap (told said_of) (opened_list depth ts some) ∙ list_found (items_at (depth - 1) ts) r e

-- ---- a list's items

listed_found : {A : Type 0} (f : List Data → Option A) (o : Option (Items × List Token)) →
    told (λ d. option_and_then f (list_of d)) (told array o) ≡ told (λ ds. f (listed ds)) o
listed_found f None = refl
listed_found f (Some q) = refl

pub listed_says : {A : Type 0} (f : List Data → Option A) (depth : ℕ) (ts r : List Token) (a : Option A) → 0 < depth →
    told (λ ds. f (listed ds)) (items_at (depth - 1) ts) ≡ Some (a, r)
    → says (λ d. option_and_then f (list_of d)) depth (Token.begin_array ∷ ts) ≡ Some (a, r)
listed_says f depth ts r a some e = ap (told (λ d. option_and_then f (list_of d))) (opened_list depth ts some) ∙
    listed_found f (items_at (depth - 1) ts) ∙ e

pub list_refused : (depth : ℕ) (ts : List Token) → 0 < depth → items_at (depth - 1) ts ≡ None →
    data_at depth (Token.begin_array ∷ ts) ≡ None
list_refused depth ts some e = opened_list depth ts some ∙ ap (told array) e

pub object_refused : (depth : ℕ) (ts : List Token) → 0 < depth → members_at no_members (depth - 1) ts ≡ None →
    data_at depth (Token.begin_object ∷ ts) ≡ None
object_refused depth ts some e = opened_object depth ts some ∙ ap (told object) e

-- ---- a value that is no object

abbrev probe : Option (Data × List Token) → Option Members
probe o = option_and_then (λ q. as_object q.0) o

no_object_number : (o : Option Num) (ts : List Token) → probe (option_map (λ n. (number n, ts)) o) ≡ None
no_object_number None ts = refl
no_object_number (Some n) ts = refl

no_object_list : (o : Option (Items × List Token)) → probe (told array o) ≡ None
no_object_list None = refl
no_object_list (Some q) = refl

list_probed : (depth : ℕ) (ts : List Token) → probe (data_at depth (Token.begin_array ∷ ts)) ≡ None
list_probed zero ts = ap probe (too_deep_list ts)
list_probed (suc depth) ts = ap probe (opened_list (suc depth) ts (omega arith)) ∙ no_object_list (items_at (suc depth - 1) ts)

probed : (depth : ℕ) (t : Token) (ts : List Token) → begins_object t ≡ false → probe (data_at depth (t ∷ ts)) ≡ None
probed depth Token.begin_object ts apart = absurd (cc)
probed depth Token.end_object ts apart = ap probe (at_end_object depth ts)
probed depth Token.begin_array ts apart = list_probed depth ts
probed depth Token.end_array ts apart = ap probe (at_end_array depth ts)
probed depth (Token.key s) ts apart = ap probe (at_key depth s ts)
probed depth (Token.string s) ts apart = ap probe (at_string depth s ts)
probed depth (Token.number s) ts apart = ap probe (at_number depth s ts) ∙ no_object_number (number_of s) ts
probed depth (Token.boolean b) ts apart = ap probe (at_bool depth b ts)
probed depth Token.null ts apart = ap probe (at_null depth ts)
probed depth Token.bad ts apart = ap probe (at_bad depth ts)

pub no_object : (depth : ℕ) (t : Token) (ts r : List Token) → begins_object t ≡ false →
    rest (data_at depth (t ∷ ts)) ≡ Some r → says as_object depth (t ∷ ts) ≡ Some (None, r)
no_object depth t ts r apart e =
    let d = left_some (data_at depth (t ∷ ts)) r e in
    ap (told as_object) d.1 ∙ ap (λ o. Some (o, r)) (sym (ap probe d.1) ∙ probed depth t ts apart)

pub no_depth : (t : Token) (ts : List Token) → begins_object t ≡ true → data_at 0 (t ∷ ts) ≡ None
no_depth Token.begin_object ts is = too_deep_object ts
no_depth Token.end_object ts is = absurd (cc)
no_depth Token.begin_array ts is = absurd (cc)
no_depth Token.end_array ts is = absurd (cc)
no_depth (Token.key s) ts is = absurd (cc)
no_depth (Token.string s) ts is = absurd (cc)
no_depth (Token.number s) ts is = absurd (cc)
no_depth (Token.boolean b) ts is = absurd (cc)
no_depth Token.null ts is = absurd (cc)
no_depth Token.bad ts is = absurd (cc)

addr_found : (o : Option (Items × List Token)) → told addr_of (told array o) ≡ told (option_map Server) (told (λ ds. id_in (listed ds)) o)
addr_found None = refl
addr_found (Some q) = refl

-- an id where an id or the coordinator's letter is wanted
pub addr_says : (depth : ℕ) (ts r : List Token) (id : Option ServerId) → 0 < depth →
    told (λ ds. id_in (listed ds)) (items_at (depth - 1) ts) ≡ Some (id, r)
    → says addr_of depth (Token.begin_array ∷ ts) ≡ Some (option_map Server id, r)
addr_says depth ts r id some e = ap (told addr_of) (opened_list depth ts some) ∙ addr_found (items_at (depth - 1) ts) ∙
    ap (told (option_map Server)) e
