use Rattle.std.proofs.Common.{◌≡◌, Bool, List, Some, slice_get, sym, ap, ◌∙◌}
use Rattle.std.proofs.lemmas.Option.{slice_get-get_or}
use Rattle.rc_model.specs.Model.{Entry, Segment, entries_of}
use Rattle.rc_headroll.specs.LogData.{log_of}
use Rattle.rc_headroll.proofs.AliveLemmas.{found-at, some-is}
use Rattle.rc_headroll.proofs.log.LogHead.keep_found.Goals as goal

pub set_found-requires : goal.set_found-requires
set_found-requires c =
    let here : c.in-Some.segment.now ≡ (log_of c.args.self.now).segments c.args.seg = some-is _ _ _ c.in-Some.ensures in
    let at : slice_get ((log_of c.args.self.now).segments c.args.seg).entries c.args.offset ≡ Some c.in-Some-get.field-0.now =
    ap (λ (s : Segment). slice_get s.entries c.args.offset) (sym here)
    ∙ (ap (λ (es : List (Entry × Bool)). slice_get es c.args.offset) (sym c.entries.ensures)
    ∙ (slice_get-get_or c.entries.result.now c.args.offset c.in-Some-get.field-0.now c.in-Some-get.ensures.lookup.3.0
    ∙ ap Some (sym c.in-Some-get.ensures.lookup.1))) in
    rw c.make_room.ensures
    (found-at (entries_of (log_of c.args.self.now)) ((log_of c.args.self.now).segments c.args.seg).entries _
    c.in-Some-get.field-0.now c.requires.within c.requires.alive at c.group_of-group.ensures)
