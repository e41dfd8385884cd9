-- The bytes of a work, of a record, and of a journal. `docs/BYTES.md` has the same in prose.
use Rattle.std.specs.Prelude.{ℕ, ◌*◌, ◌/◌, ◌%◌, bit_xor, List, [], ◌∷◌, ◌++◌, length}
use Rattle.std.specs.Int.{w64, from_le_bytes}
use Rattle.rc_codec.specs.Parts.{four_bytes, eight_bytes, listed}
use Rattle.rc_codec.specs.Fields.{id_code, kept_code}
use Rattle.rc_codec.specs.Bodies.{body_code, message_code}
use Rattle.rc_codec.specs.Events.{order_code}
use Rattle.rc_types.specs.declared.events.NodeWork.{NodeWork}
use Rattle.rc_types.specs.declared.events.NodeWork.TheVariants as work

-- the kind in one byte, and the fields in their order
abbrev pub work_code : NodeWork → List ℕ
work_code (work.Ask to body) = 0 ∷ id_code to ++ body_code body
work_code (work.Deliver message) = 1 ∷ message_code message
work_code work.Tick = 2 ∷ []
work_code work.Stop = 3 ∷ []
work_code (work.Start kept) = 4 ∷ listed kept_code kept
work_code (work.Order order) = order_code order

-- what is written as a whole: the version of the format, 1, and then the work
abbrev pub coded_work : NodeWork → List ℕ
coded_work w = 1 ∷ work_code w

-- a sum with one more number: the exclusive or of both, multiplied, below 2^64; then the exclusive or of that and its
-- upper half, a quotient by 2^32
abbrev pub sum_with : ℕ → ℕ → ℕ
sum_with sum n =
    let product : ℕ = bit_xor sum n * 11400714819323198485 % 18446744073709551616 in
    bit_xor product (product / 4294967296)

-- a sum over bytes that goes on from another one: eight of them are one number, and each that is left over is one
unfoldable pub sum_from : ℕ → List ℕ → ℕ
sum_from sum [] = sum
sum_from sum (a ∷ b ∷ c ∷ d ∷ e ∷ f ∷ g ∷ h ∷ rest) =
    sum_from (sum_with sum (from_le_bytes w64 (a ∷ b ∷ c ∷ d ∷ e ∷ f ∷ g ∷ h ∷ []))) rest
sum_from sum (b ∷ rest) = sum_from (sum_with sum b) rest

-- the upper half
abbrev pub sum_of : List ℕ → ℕ
sum_of bytes = sum_from 14695981039346656037 bytes / 4294967296

-- how many bytes there are, in eight bytes, the sum over them, in four, and the bytes
abbrev pub sealed : List ℕ → List ℕ
sealed code = eight_bytes (length code) ++ four_bytes (sum_of code) ++ code

abbrev pub record_of : NodeWork → List ℕ
record_of w = sealed (coded_work w)

-- a record for each work
abbrev pub journal_of : List NodeWork → List ℕ
journal_of [] = []
journal_of (w ∷ works) = record_of w ++ journal_of works
