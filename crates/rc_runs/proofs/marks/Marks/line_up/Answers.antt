use Rattle.std.proofs.Common.{◌≡◌, Some, length, ℕ, refl, sym, ap, ◌∙◌, arith}
use Rattle.std.proofs.lemmas.Option.{slice_get_read}
use Rattle.rc_runs.specs.Lanes.{Lane}
use Rattle.rc_runs.proofs.LaneLemmas.{joins_at, joins_end, longer}
use Rattle.rc_runs.proofs.marks.Marks.line_up.Goals as goal

pub returns-then-suits-clause-ok : goal.returns-then-suits-clause-ok
returns-then-suits-clause-ok c =
    let lines = c.args.self.now.lines.items in
    let number = length c.args.self.now.delivered.items in
    let place = c.index-place.result.now in
    let here = slice_get_read lines c.len.result place c.index.result.now (omega arith) c.if-place-len.true c.index.ensures in
    let there = slice_get_read lines c.len.result place c.index_mut.result.now (omega arith) c.if-place-len.true
    c.index_mut.ensures.value in
    let some : Some c.index_mut.result.now ≡ Some c.index.result.now = sym there ∙ here in
    let same : c.index_mut.result.now ≡ c.index.result.now = cc in
    let last : c.len-then-suits.result ≡ number = omega arith in
    let made : c.push.new.self ≡ longer c.index.result.now number =
    c.in_ok-push.ensures.ok ∙ ap (λ (n : ℕ). longer c.index_mut.result.now n) last ∙ ap (λ (l : Lane). longer l number) same in
    joins_at c.args.kind c.args.to number place c.index.result.now c.push.new.self lines here (omega (arith, c.if-place-len.true))
    (c.if-suits.ensures refl) made

pub returns-clause-ok : goal.returns-clause-ok
returns-clause-ok c =
    joins_end c.args.kind c.args.to (length c.args.self.now.delivered.items) c.args.self.now.lines.items
    c.add_line.new.self.lines.items c.in_ok-add_line.ensures.ok
