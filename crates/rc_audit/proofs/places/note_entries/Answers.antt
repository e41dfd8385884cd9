use Rattle.std.proofs.Common.{◌≡◌, ◌∙◌, ap, Some, arith}
use Rattle.std.specs.Prelude.{slice_get}
use Rattle.std.proofs.lemmas.Grind.{common_steps}
use Rattle.std.proofs.lemmas.Option.{gets}
use Rattle.rc_audit.specs.Places.{with_sent, summary_at}
use Rattle.rc_audit.proofs.PlaceLemmas.{notes_more, sent_below-all}
use Rattle.rc_audit.proofs.places.note_entries.Goals as goal

pub loop-index-preserved : goal.loop-index-preserved
loop-index-preserved c =
    let found : slice_get c.args.entries.now c.loop-index.index ≡ Some c.index-entries-index.result = grind (arith, common_steps, gets) in
    notes_more _ _ _ (record { master = c.args.master; seg = c.args.seg; offset = c.in-Some.offset }) c.args.start
    c.args.entries.now c.loop-index.index _
    found (grind arith) (grind arith) c.loop-index.invariant c.in_ok-note.ensures

pub returns-after-loop-index : goal.returns-after-loop-index
returns-after-loop-index c = record {
  each = λ q h. c.loop-index.invariant.each q h ∙ ap (λ x. with_sent (summary_at c.args.made.now q) x)
      (sent_below-all c.args.master c.args.seg c.args.start c.args.entries.now c.loop-index.index q (omega arith));
}
