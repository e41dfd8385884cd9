-- HMAC with SHA-256: a sum over a message that only who knows the key can make.
use Rattle.std.specs.Prelude.{ℕ, ◌-◌, nat_lt, if◌then◌else◌, List, ◌++◌, length, map, replicate, bit_xor}
use Rattle.sha2.specs.Sha256.{sha256}

-- a key as it is, or the digest of one that is longer than a block of 64 bytes
abbrev pub short_key : List ℕ → List ℕ
short_key key = if nat_lt 64 (length key) then sha256 key else key

-- in one block: zeros follow
abbrev pub key_block : List ℕ → List ℕ
key_block key = short_key key ++ replicate (64 - length (short_key key)) 0

-- each byte with the same bits turned
abbrev pub turned : ℕ → List ℕ → List ℕ
turned bits bytes = map (λ b. bit_xor b bits) bytes

abbrev pub hmac_sha256 : List ℕ → List ℕ → List ℕ
hmac_sha256 key message = sha256 (turned 0x5c (key_block key) ++ sha256 (turned 0x36 (key_block key) ++ message))
