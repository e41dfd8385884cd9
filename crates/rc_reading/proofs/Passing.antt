-- What follows a value that is passed, and what a value is by its first token.
use Rattle.std.proofs.Common.{◌≡◌, ℕ, ◌-◌, ◌<◌, List, [], ◌∷◌, length, Bool, Option, Some, None, option_map, option_and_then, refl, ap, ◌∙◌}
use Rattle.serde_json.specs.Find.{as_u64}
use Rattle.json.specs.Token.{Token}
use Rattle.json.specs.Json as json
use Rattle.json.specs.Json.{after_end_array, read_key, members, value}
use Rattle.json.proofs.Grammar.{left_some, value_is}
use Rattle.serde_json.specs.Data.{Num, Data, null, boolean, number, string, array, object, Members, no_members, put}
use Rattle.serde_json.specs.Read.{of_json, of_members, converted, number_of}
use Rattle.rc_reading.specs.Ahead.{data_at, items_at, members_at, told, rest}
use Rattle.rc_reading.proofs.Turns.{item_read, member_read, opened_list, opened_object}

pub rest_told : {A B : Type 0} (f : A → B) (o : Option (A × List Token)) → rest (told f o) ≡ rest o
rest_told f None = refl
rest_told f (Some q) = refl

pub item_passed : (depth : ℕ) (ts r : List Token) → after_end_array ts ≡ None → rest (data_at depth ts) ≡ Some r →
    rest (items_at depth ts) ≡ rest (items_at depth r)
item_passed depth ts r going e = let q =
    left_some (data_at depth ts) r e in ap rest (item_read depth ts r q.0 going q.1) ∙ rest_told _ (items_at depth r)

same_after : (k : List ℕ) (ms : json.Members) (f g : Members) (r : List Token) (o : Option Data)
    → ((d : Data) → rest {A = Members} (option_map (λ b. (b, r)) (of_members ms (put k d f))) ≡ rest {A = Members}
    (option_map (λ b. (b, r)) (of_members ms (put k d g))))
    → rest {A = Members} (option_map (λ b. (b, r)) (option_and_then (λ d. of_members ms (put k d f)) o)) ≡ rest
    {A = Members} (option_map (λ b. (b, r)) (option_and_then (λ d. of_members ms (put k d g)) o))
same_after k ms f g r None same = refl
same_after k ms f g r (Some d) same = same d

same_end : (ms : json.Members) (f g : Members) (r : List Token) →
    rest {A = Members} (option_map (λ b. (b, r)) (of_members ms f)) ≡ rest {A = Members}
    (option_map (λ b. (b, r)) (of_members ms g))
same_end json.no_members f g r = refl
same_end (json.member k j ms) f g r = same_after k ms f g r (of_json j) (λ d. same_end ms (put k d f) (put k d g) r)

same_rest : (f g : Members) (o : Option (json.Members × List Token)) →
    rest (converted (λ ms. of_members ms f) o) ≡ rest (converted (λ ms. of_members ms g) o)
same_rest f g None = refl
same_rest f g (Some q) = same_end q.0 f g q.1

members_rest : (f g : Members) (depth : ℕ) (ts : List Token) → rest (members_at f depth ts) ≡ rest (members_at g depth ts)
unfolding members_at
members_rest f g depth ts = same_rest f g (members (value depth) (length ts) ts)

pub member_passed : (depth : ℕ) (k : List ℕ) (ts s r : List Token) → read_key ts ≡ Some (Some k, s) →
    rest (data_at depth s) ≡ Some r → rest (members_at no_members depth ts) ≡ rest (members_at no_members depth r)
member_passed depth k ts s r key e =
    let q = left_some (data_at depth s) r e in
    ap rest (member_read no_members depth k ts s r q.0 key q.1) ∙ members_rest (put k q.0 no_members) no_members depth r

-- ---- by the first token

pub at_string : (depth : ℕ) (s : List ℕ) (ts : List Token) → data_at depth (Token.string s ∷ ts) ≡ Some (string s, ts)
unfolding data_at
at_string depth s ts = ap (converted of_json) (value_is depth (Token.string s ∷ ts))

pub at_bool : (depth : ℕ) (b : Bool) (ts : List Token) → data_at depth (Token.boolean b ∷ ts) ≡ Some (boolean b, ts)
unfolding data_at
at_bool depth b ts = ap (converted of_json) (value_is depth (Token.boolean b ∷ ts))

pub at_null : (depth : ℕ) (ts : List Token) → data_at depth (Token.null ∷ ts) ≡ Some (null, ts)
unfolding data_at
at_null depth ts = ap (converted of_json) (value_is depth (Token.null ∷ ts))

numbered : (ts : List Token) (o : Option Num) →
    option_map {U = Data × List Token} (λ b. (b, ts)) (option_map number o) ≡ option_map (λ n. (number n, ts)) o
numbered ts None = refl
numbered ts (Some n) = refl

pub at_number : (depth : ℕ) (s : List ℕ) (ts : List Token) →
    data_at depth (Token.number s ∷ ts) ≡ option_map (λ n. (number n, ts)) (number_of s)
unfolding data_at
at_number depth s ts = ap (converted of_json) (value_is depth (Token.number s ∷ ts)) ∙ numbered ts (number_of s)

pub at_end_object : (depth : ℕ) (ts : List Token) → data_at depth (Token.end_object ∷ ts) ≡ None
unfolding data_at
at_end_object depth ts = ap (converted of_json) (value_is depth (Token.end_object ∷ ts))

pub at_end_array : (depth : ℕ) (ts : List Token) → data_at depth (Token.end_array ∷ ts) ≡ None
unfolding data_at
at_end_array depth ts = ap (converted of_json) (value_is depth (Token.end_array ∷ ts))

pub at_key : (depth : ℕ) (s : List ℕ) (ts : List Token) → data_at depth (Token.key s ∷ ts) ≡ None
unfolding data_at
at_key depth s ts = ap (converted of_json) (value_is depth (Token.key s ∷ ts))

pub at_bad : (depth : ℕ) (ts : List Token) → data_at depth (Token.bad ∷ ts) ≡ None
unfolding data_at
at_bad depth ts = ap (converted of_json) (value_is depth (Token.bad ∷ ts))

pub at_nothing : (depth : ℕ) → data_at depth [] ≡ None
unfolding data_at
at_nothing depth = ap (converted of_json) (value_is depth [])

pub too_deep_list : (ts : List Token) → data_at 0 (Token.begin_array ∷ ts) ≡ None
unfolding data_at value
too_deep_list ts = refl

pub too_deep_object : (ts : List Token) → data_at 0 (Token.begin_object ∷ ts) ≡ None
unfolding data_at value
too_deep_object ts = refl

pub list_rest : (depth : ℕ) (ts : List Token) → 0 < depth → rest (data_at depth (Token.begin_array ∷ ts)) ≡ rest (items_at (depth - 1) ts)
list_rest depth ts some = ap rest (opened_list depth ts some) ∙ rest_told array (items_at (depth - 1) ts)

pub object_rest : (depth : ℕ) (ts : List Token) → 0 < depth →
    rest (data_at depth (Token.begin_object ∷ ts)) ≡ rest (members_at no_members (depth - 1) ts)
object_rest depth ts some = ap rest (opened_object depth ts some) ∙ rest_told object (members_at no_members (depth - 1) ts)

pub number_rest : (o : Option Num) (read : Option (Option ℕ)) (n : Option ℕ) (ts : List Token) →
    read ≡ option_map as_u64 o → read ≡ Some n → rest {A = Data} (option_map (λ x. (number x, ts)) o) ≡ Some ts
number_rest None read n ts is some = absurd (cc)
number_rest (Some x) read n ts is some = refl

pub number_none : (o : Option Num) (read : Option (Option ℕ)) (ts : List Token) → read ≡ option_map as_u64 o →
    read ≡ None → option_map {U = Data × List Token} (λ x. (number x, ts)) o ≡ None
number_none None read ts is none = refl
number_none (Some x) read ts is none = absurd (cc)
