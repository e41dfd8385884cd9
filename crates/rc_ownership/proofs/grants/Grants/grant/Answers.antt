use Rattle.std.proofs.Common.{◌≡◌, ◌+◌, cond, false, nat_cmp, subst, sym, ap, ◌∙◌, arith}
use Rattle.std.specs.BTreeMap.{get}
use Rattle.rc_model.specs.Model.{GrantedRange, grant, owns_term}
use Rattle.rc_ownership.specs.Bounds.{Say, point_of, terms_of, or_term, is_within}
use Rattle.rc_ownership.specs.Grants.{grants_in, owner_of}
use Rattle.rc_ownership.proofs.Granted.{terms_of-push, grants_in-insert, grant-unowned}
use Rattle.rc_ownership.proofs.Saying.{Say-given, some_unless}
use Rattle.rc_ownership.proofs.grants.Grants.grant.Goals as goal

pub invariant_of-self : goal.invariant_of-self
invariant_of-self c = c.cut_at.ensures.same (terms_of (grants_in c.self.inside.ranges.entries)) c.self.invariant

pub invariant_of-self-in_err-cut_at-2 : goal.invariant_of-self-in_err-cut_at-2
invariant_of-self-in_err-cut_at-2 c =
    let terms = terms_of (grants_in c.self.inside.ranges.entries) in
    c.cut_at-2.ensures.same terms (c.cut_at.ensures.same terms c.self.invariant)

pub invariant_of-self-in_err-insert : goal.invariant_of-self-in_err-insert
invariant_of-self-in_err-insert c =
    let terms = terms_of (grants_in c.self.inside.ranges.entries) in
    subst (λ entries. Say (get nat_cmp c.cut_at-2.new.bounds) (terms_of (grants_in entries))) (sym c.in_err-insert.ensures.err)
    (c.cut_at-2.ensures.same terms (c.cut_at.ensures.same terms c.self.invariant))

pub invariant_of-self-2 : goal.invariant_of-self-2
invariant_of-self-2 c =
    let grants = grants_in c.self.inside.ranges.entries in
    let terms = terms_of grants in
    let first = c.point_of-first.result in
    let end = c.point_of-end.result + 1 in
    let unowned : owns_term (owner_of grants) c.args.term ≡ false =
    ap (λ held. owns_term (owner_of held) c.args.term) c.self.view_is ∙ sym c.owns_term.ensures ∙ c.if-owns_term.false in
    let after_is = grants_in-insert c.self.inside.ranges c.insert.new.self c.args.term c.args.range unowned
    c.in_ok-insert.ensures.entries in
    Say-given (get nat_cmp c.cut_at-2.new.bounds) (get nat_cmp c.give_from.new.bounds) first end c.args.term
    (some_unless (get nat_cmp c.cut_at-2.new.bounds first) (c.cut_at-2.ensures.kept first c.in_ok-cut_at.ensures.there))
    (some_unless (get nat_cmp c.cut_at-2.new.bounds end) c.in_ok-cut_at-2.ensures.there)
    c.give_from.ensures terms (terms_of (grants_in c.insert.new.self.entries))
    (λ point. ap (λ held. terms_of held point) after_is
    ∙ terms_of-push grants c.args.range c.args.term (omega arith) (omega arith) point
    ∙ ap (λ from. cond (is_within from (point_of c.args.range.table c.args.range.hi + 1) point)
    (or_term c.args.term (terms point)) (terms point)) (sym c.point_of-first.ensures.value)
    ∙ ap (λ to. cond (is_within first (to + 1) point) (or_term c.args.term (terms point)) (terms point)) (sym c.point_of-end.ensures.value))
    (c.cut_at-2.ensures.same terms (c.cut_at.ensures.same terms c.self.invariant))

pub returns-clause-ok : goal.returns-clause-ok
returns-clause-ok c =
    let grants = grants_in c.self.inside.ranges.entries in
    let granted : GrantedRange = record { range = c.args.range; term = c.args.term } in
    let unowned : owns_term (owner_of grants) c.args.term ≡ false =
    ap (λ held. owns_term (owner_of held) c.args.term) c.self.view_is ∙ sym c.owns_term.ensures ∙ c.if-owns_term.false in
    grants_in-insert c.self.inside.ranges c.insert.new.self c.args.term c.args.range unowned c.in_ok-insert.ensures.entries
    ∙ sym (grant-unowned grants granted unowned)
    ∙ ap (λ held. (grant granted (owner_of held)).grants) c.self.view_is
