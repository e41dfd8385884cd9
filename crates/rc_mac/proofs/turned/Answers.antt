use Rattle.std.proofs.Common.{◌<◌, length, get_or, arith, bit_xor}
use Rattle.std.proofs.lemmas.List.{get_or_default}
use Rattle.std.proofs.lemmas.List.Edits.{map_over_more}
use Rattle.rc_mac.proofs.turned.Goals as goal

pub loop-byte-preserved : goal.loop-byte-preserved
loop-byte-preserved c =
    let h : c.loop-byte.byte-index < length c.args.block = omega arith in
    let within : c.loop-byte.byte-index < length c.loop-byte.byte-items = omega arith in
    map_over_more (λ b. bit_xor b c.args.bits) c.args.block c.loop-byte.byte-items c.loop-byte.byte-index
    (get_or c.loop-byte.byte-items c.loop-byte.byte-index 0) h c.loop-byte.invariant
    (get_or_default c.loop-byte.byte-items c.loop-byte.byte-index 0
    (get_or c.loop-byte.byte-items c.loop-byte.byte-index 0) within)
