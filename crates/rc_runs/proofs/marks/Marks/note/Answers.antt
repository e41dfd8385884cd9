use Rattle.std.proofs.Common.{◌≡◌, ◌<◌, ap, refl, length, length-append, false, ◌∷◌, [], Some, slice_get, arith}
use Rattle.std.proofs.lemmas.Option.{slice_get_read}
use Rattle.rc_runs.proofs.marks.Marks.note.Goals as goal

pub loop-number-preserved : goal.loop-number-preserved
loop-number-preserved c =
    let before = c.loop-number.self in
    let noted = c.loop-number.invariant.noted in
    let marks = c.in_ok-note_one.ensures.delivered in
    let message = c.index-sent-number.result in
    let within : c.loop-number.number < length c.args.sent.now = omega arith in
    record {
      noted = omega (arith, noted, ap length marks, length-append before.delivered.items (false ∷ []));
      kept = λ events fits.
          let at : slice_get c.args.sent.now (length before.delivered.items) ≡ Some message =
          rw noted (slice_get_read c.args.sent.now (length c.args.sent.now) c.loop-number.number message refl within
          c.index-sent-number.is) in
          c.in_ok-note_one.ensures.kept events c.args.sent.now at (c.loop-number.invariant.kept events fits);
    }

pub returns-in_err-note_one-clause-kept : goal.returns-in_err-note_one-clause-kept
returns-in_err-note_one-clause-kept c events fits =
    rw (c.in_err-note_one.ensures.err.0, c.in_err-note_one.ensures.err.1) (c.loop-number.invariant.kept events fits)
