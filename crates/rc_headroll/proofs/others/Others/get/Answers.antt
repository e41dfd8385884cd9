use Rattle.std.proofs.Common.{length, refl, sym}
use Rattle.std.proofs.lemmas.Option.{slice_get_past, slice_get_read}
use Rattle.rc_headroll.proofs.OthersLemmas.{none-noted, none-kept, other-kept, is-kept}
use Rattle.rc_headroll.proofs.others.Others.get.Goals as goal

pub returns-in_default : goal.returns-in_default
returns-in_default c =
    rw (← c.self.view_is)
    (none-noted c.self.inside.places.items c.deref.result.now c.self.inside.kept.items c.self.invariant.0 c.args.seg c.from.result
    c.deref.ensures.value c.from.ensures
    (sym (slice_get_past c.deref.result.now c.from.result c.in_default.ensures.lookup.3)))

pub returns-in_default-get : goal.returns-in_default-get
returns-in_default-get c =
    rw (← c.self.view_is)
    (none-kept c.self.inside.places.items c.deref.result.now c.self.inside.kept.items c.self.invariant.0 c.args.seg c.from.result
    c.deref.ensures.value c.from.ensures c.in-Some.place.now
    (sym (slice_get_read c.deref.result.now (length c.deref.result.now) c.from.result c.in-Some.place.now refl
    c.in-Some.ensures.lookup.3.0 c.in-Some.ensures.lookup.1))
    c.deref-2.result.now
    c.deref-2.ensures.value
    (sym (slice_get_past c.deref-2.result.now c.in-Some.place.now c.in_default-get.ensures.lookup.3)))

pub returns-then-number-seg : goal.returns-then-number-seg
returns-then-number-seg c =
    rw (← c.self.view_is)
    (other-kept c.self.inside.places.items c.deref.result.now c.self.inside.kept.items c.self.invariant.0 c.args.seg c.from.result
    c.deref.ensures.value c.from.ensures c.in-Some.place.now
    (sym (slice_get_read c.deref.result.now (length c.deref.result.now) c.from.result c.in-Some.place.now refl
    c.in-Some.ensures.lookup.3.0 c.in-Some.ensures.lookup.1))
    c.deref-2.result.now
    c.deref-2.ensures.value c.in-Some-get.field-0.now.0 c.in-Some-get.field-0.now.1
    (sym (slice_get_read c.deref-2.result.now (length c.deref-2.result.now) c.in-Some.place.now c.in-Some-get.field-0.now refl
    c.in-Some-get.ensures.lookup.3.0 c.in-Some-get.ensures.lookup.1))
    c.if-number-seg.true)

pub returns : goal.returns
returns c =
    rw (← c.self.view_is)
    (is-kept c.self.inside.places.items c.deref.result.now c.self.inside.kept.items c.self.invariant.0 c.args.seg c.from.result
    c.deref.ensures.value c.from.ensures c.in-Some.place.now
    (sym (slice_get_read c.deref.result.now (length c.deref.result.now) c.from.result c.in-Some.place.now refl
    c.in-Some.ensures.lookup.3.0 c.in-Some.ensures.lookup.1))
    c.deref-2.result.now
    c.deref-2.ensures.value c.in-Some-get.field-0.now.0 c.in-Some-get.field-0.now.1
    (sym (slice_get_read c.deref-2.result.now (length c.deref-2.result.now) c.in-Some.place.now c.in-Some-get.field-0.now refl
    c.in-Some-get.ensures.lookup.3.0 c.in-Some-get.ensures.lookup.1))
    c.if-number-seg.false)
