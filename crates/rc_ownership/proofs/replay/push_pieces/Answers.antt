use Rattle.std.proofs.Common.{◌++◌, map, sym, ap, ◌∙◌}
use Rattle.rc_model.specs.Ownership.{under_term}
use Rattle.rc_ownership.specs.Replay.{all_waiting}
use Rattle.rc_ownership.proofs.PieceLists.{piece-joined, all-joined}
use Rattle.rc_ownership.proofs.replay.push_pieces.Goals as goal

pub loop-piece-preserved : goal.loop-piece-preserved
loop-piece-preserved c =
    let cut = c.in-Some.ensures.cases.0 in
    let joined = c.loop-piece.joined.items in
    record {
      entries = piece-joined c.args.term c.args.joined.now.items joined c.push_piece.new.joined.items c.in-Some.piece.now
          c.in-Some.later.now c.args.pieces.now
          (ap (λ rest. all_waiting joined ++ map (under_term c.args.term) (all_waiting rest)) (sym cut)
          ∙ c.loop-piece.invariant.entries)
          c.in_ok-push_piece.ensures.entries;
      none_empty = λ none. c.push_piece.ensures.none_empty (c.loop-piece.invariant.none_empty none);
    }

pub returns-clause-entries : goal.returns-clause-entries
returns-clause-entries c =
    all-joined c.args.term c.args.joined.now.items c.loop-piece.joined.items c.loop-piece.rest.now c.args.pieces.now
    c.loop-piece.invariant.entries c.in_default.ensures.cases
