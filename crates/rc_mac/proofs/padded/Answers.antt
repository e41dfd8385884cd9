use Rattle.std.proofs.Common.{ℕ, length, refl}
use Rattle.std.proofs.lemmas.List.{drop-replicate}
use Rattle.rc_mac.proofs.padded.Goals as goal

pub returns : goal.returns
returns c =
    let after = c.copy_from_slice.ensures.after in let back = c.split_at_mut-front.ensures.back in let whole =
    c.as_mut_slice.ensures.value in
    let zeros = drop-replicate {X = ℕ} (length c.args.bytes.now) 64 0 in rw after (rw back (rw whole (rw zeros refl)))
