use Rattle.std.proofs.Common.{◌≡◌, ◌<◌, ◌++◌, ◌∷◌, [], map, length, sym, ap, subst, arith}
use Rattle.std.proofs.lemmas.Grind.{common_steps}
use Rattle.rc_model.specs.Ownership.{under_term}
use Rattle.rc_ownership.specs.Replay.{NoneIsEmpty}
use Rattle.rc_ownership.proofs.Waiting.{length_under, none_empty-append}
use Rattle.rc_ownership.proofs.replay.push_piece.Goals as goal

pub returns-in_ok-push_back-clause-none_empty : goal.returns-in_ok-push_back-clause-none_empty
returns-in_ok-push_back-clause-none_empty c none =
    let pushed : c.push_back.new.self.items ≡ c.args.joined.now.items ++ map (under_term c.args.term)
    c.in_ok-entries.entries ∷ [] = grind (arith, common_steps) in
    let more : 0 < length (map (under_term c.args.term) c.in_ok-entries.entries) =
    omega (
      arith,
      c.len.ensures,
      c.if-len-gt0.true,
      ap length c.in_ok-entries.ensures,
      length_under c.args.term c.in_ok-entries.entries,
    ) in
    subst NoneIsEmpty (sym pushed)
    (none_empty-append c.args.joined.now.items (map (under_term c.args.term) c.in_ok-entries.entries ∷ []) none (more, tt))
