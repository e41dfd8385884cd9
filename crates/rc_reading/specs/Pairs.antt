-- Lists of exactly two items, an item at a time.
use Rattle.std.specs.Prelude.{ℕ, Option, None}
use Rattle.rc_types.specs.declared.ids.ServerId.{ServerId}
use Rattle.rc_types.specs.declared.limits.TheConstants.{LAST_SEGMENT}
use Rattle.serde_json.specs.Data.{Data}
use Rattle.rc_reading.specs.declared.limits.TheConstants.{LAST_GENERATION}
use Rattle.rc_reading.specs.declared.pairs.Pair.{Pair}
use Rattle.rc_reading.specs.declared.pairs.Pair.TheVariants.{Nothing, First, Both, More}
use Rattle.rc_reading.specs.Values.{whole, given2, host_of, id_of}

-- one more item
abbrev pub paired : {A B : Type 0} → (Data → A) → (Data → B) → Pair A B → Data → Pair A B
paired first second Nothing d = First (first d)
paired first second (First a) d = Both a (second d)
paired first second (Both a b) d = More
paired first second More d = More

-- what both items say, where there are two and both say something
abbrev pub both_in : {A B R : Type 0} → (A → B → R) → Pair (Option A) (Option B) → Option R
both_in f Nothing = None
both_in f (First a) = None
both_in f (Both a b) = given2 f a b
both_in f More = None

abbrev pub generation_of : Data → Option ℕ
generation_of = whole 1 LAST_GENERATION

abbrev pub kept_segment_of : Data → Option ℕ
kept_segment_of = whole 1 LAST_SEGMENT

-- an item of [index, generation]
abbrev pub id_item : Pair (Option ℕ) (Option ℕ) → Data → Pair (Option ℕ) (Option ℕ)
id_item = paired host_of generation_of

-- an item of [id, segment]
abbrev pub name_item : Pair (Option ServerId) (Option ℕ) → Data → Pair (Option ServerId) (Option ℕ)
name_item = paired id_of kept_segment_of

abbrev pub server_id : ℕ → ℕ → ServerId
server_id index generation = record { index = index; generation = generation }

abbrev pub replica_name : ServerId → ℕ → ServerId × ℕ
replica_name id segment = (id, segment)
