use Rattle.std.proofs.Common.{◌≡◌, ◌-◌, ◌<◌, ◌≤◌, ℕ, Bool, ◌&&◌, eqb, length, ap, sym, ◌∙◌, arith}
use Rattle.std.specs.List.{list_any}
use Rattle.std.proofs.lemmas.Bool.{eq-eqb, ne_eqb}
use Rattle.rc_model.specs.Model.{same_id, Config}
use Rattle.rc_headroll.specs.contracts.log.LogHead.{the_view}
use Rattle.rc_config.proofs.SegmentTables.{segment_at-read}
use Rattle.rc_headroll.proofs.Stood.{stood-same, stood-kept}
use Rattle.rc_headroll.proofs.log.LogHead.stood.Goals as goal

pub returns-in-None : goal.returns-in-None
returns-in-None c =
    let above : 0 < c.args.seg = omega (arith, c.if-seg-eq0.false) in
    let within : c.args.seg ≤ c.self.inside.before.mark.head = omega (arith, c.if-head-from.false, c.head.ensures, c.from.ensures) in
    let inside : c.from-2.result - 1 < length c.self.inside.segments.items =
    omega (arith, above, within, c.self.invariant.0.back.known, c.from-2.ensures) in
    let is = segment_at-read c.self.inside.segments.items c.args.seg (c.from-2.result - 1) c.index.result.now
    (omega (arith, above, c.from-2.ensures)) inside c.index.ensures in
    rw (← c.self.view_is)
    (stood-same (the_view c.self.inside) c.args.seg c.args.id above within c.index.result.now is c.has_member.result c.in-None.ensures
    (c.has_member.ensures ∙ ap (λ (config : Config). list_any (λ member. same_id c.args.id member.id) config.members) c.config-now.ensures))

pub returns-then-epoch : goal.returns-then-epoch
returns-then-epoch c =
    let above : 0 < c.args.seg = omega (arith, c.if-seg-eq0.false) in
    let within : c.args.seg ≤ c.self.inside.before.mark.head = omega (arith, c.if-head-from.false, c.head.ensures, c.from.ensures) in
    let inside : c.from-2.result - 1 < length c.self.inside.segments.items =
    omega (arith, above, within, c.self.invariant.0.back.known, c.from-2.ensures) in
    let is = segment_at-read c.self.inside.segments.items c.args.seg (c.from-2.result - 1) c.index.result.now
    (omega (arith, above, c.from-2.ensures)) inside c.index.ensures in
    let epoch : c.in-Some.state.now.config.epoch ≡ c.index.result.now.config.epoch =
    sym c.epoch.ensures ∙ c.if-epoch.true ∙ c.epoch-in-Some.ensures ∙ ap (λ (config : Config). config.epoch) c.config-now.ensures in
    rw (← c.self.view_is)
    (stood-kept (the_view c.self.inside) c.args.seg c.args.id above within c.index.result.now is
    c.has_member-then-epoch.result c.in-Some.state.now c.in-Some.ensures
    (c.has_member-then-epoch.ensures
    ∙ ap (λ (b : Bool). b && list_any (λ member. same_id c.args.id member.id) c.in-Some.state.now.config.members)
    (sym (eq-eqb c.in-Some.state.now.config.epoch c.index.result.now.config.epoch epoch))))

pub returns-else-epoch : goal.returns-else-epoch
returns-else-epoch c =
    let above : 0 < c.args.seg = omega (arith, c.if-seg-eq0.false) in
    let within : c.args.seg ≤ c.self.inside.before.mark.head = omega (arith, c.if-head-from.false, c.head.ensures, c.from.ensures) in
    let inside : c.from-2.result - 1 < length c.self.inside.segments.items =
    omega (arith, above, within, c.self.invariant.0.back.known, c.from-2.ensures) in
    let is = segment_at-read c.self.inside.segments.items c.args.seg (c.from-2.result - 1) c.index.result.now
    (omega (arith, above, c.from-2.ensures)) inside c.index.ensures in
    let apart = ne_eqb c.epoch.result c.epoch-in-Some.result c.if-epoch.false in
    let epochs : eqb c.epoch.result c.epoch-in-Some.result ≡ eqb c.in-Some.state.now.config.epoch c.index.result.now.config.epoch =
    ap (λ (n : ℕ). eqb n c.epoch-in-Some.result) c.epoch.ensures
    ∙ ap (eqb c.in-Some.state.now.config.epoch) (c.epoch-in-Some.ensures ∙ ap (λ (config : Config). config.epoch) c.config-now.ensures) in
    rw (← c.self.view_is)
    (stood-kept (the_view c.self.inside) c.args.seg c.args.id above within c.index.result.now is
    (eqb c.epoch.result c.epoch-in-Some.result) c.in-Some.state.now c.in-Some.ensures
    (apart ∙ ap (λ (b : Bool). b && list_any (λ member. same_id c.args.id member.id) c.in-Some.state.now.config.members)
    (sym apart ∙ epochs)))
