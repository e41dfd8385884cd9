use Rattle.std.proofs.Common.{◌≡◌, ◌≤◌, ◌++◌, ◌∷◌, [], length, sym, ap, subst, ◌∙◌, arith}
use Rattle.std.proofs.lemmas.Grind.{common_steps}
use Rattle.rc_ownership.specs.Pieces.{NoneIsLong}
use Rattle.rc_ownership.specs.declared.pieces.TheConstants.{PIECE}
use Rattle.rc_ownership.proofs.PieceLists.{none_long-push, cut-off, all-cut}
use Rattle.rc_ownership.proofs.pieces.Pieces.from_entries.Goals as goal

pub loop-piece-preserved : goal.loop-piece-preserved
loop-piece-preserved c =
    let cut = c.in-Some.ensures in
    let piece = c.in-Some.piece.now in
    let list = c.loop-piece.others.items in
    let put : c.push.new.self.items ≡ list ++ c.in_ok-copies.copies ∷ [] = grind (arith, common_steps) in
    let pushed : c.push.new.self.items ≡ list ++ piece ∷ [] = put ∙ ap (λ copies. list ++ copies ∷ []) c.in_ok-copies.ensures in
    record {
      entries = cut-off list c.push.new.self.items piece c.loop-piece.rest.now c.in-Some.later.now c.split_piece.result.1.now
          c.loop-piece.invariant.entries pushed cut.whole;
      none_long = subst NoneIsLong (sym pushed) (none_long-push list piece c.loop-piece.invariant.none_long cut.short);
    }

pub invariant_of-result : goal.invariant_of-result
invariant_of-result c = record {
  first_short = subst (λ first. length first ≤ PIECE) (sym c.in_ok-first.ensures) c.split_piece.ensures.short;
  others_short = c.loop-piece.invariant.none_long;
  counted = ap length (sym (all-cut c.in_ok-first.first c.split_piece.result.0.now c.loop-piece.others.items
      c.loop-piece.rest.now c.split_piece.result.1.now c.args.entries.now c.in_ok-first.ensures
      c.loop-piece.invariant.entries c.in_default.ensures c.split_piece.ensures.whole));
}

pub returns : goal.returns
returns c =
    all-cut c.in_ok-first.first c.split_piece.result.0.now c.loop-piece.others.items c.loop-piece.rest.now
    c.split_piece.result.1.now c.args.entries.now c.in_ok-first.ensures c.loop-piece.invariant.entries
    c.in_default.ensures c.split_piece.ensures.whole
