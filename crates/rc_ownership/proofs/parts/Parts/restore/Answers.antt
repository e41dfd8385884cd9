use Rattle.std.proofs.Common.{◌≡◌, take, vec_capacity, ap, ◌∙◌, arith}
use Rattle.std.proofs.lemmas.Grind.{common_steps}
use Rattle.rc_ownership.specs.Parts.{parts_in, undone}
use Rattle.rc_ownership.proofs.Room.{room-restored}
use Rattle.rc_ownership.proofs.Undone.{same_fetched, table-restored, untold-restored, undone-restored, undone-take}
use Rattle.rc_ownership.proofs.parts.Parts.restore.Goals as goal

pub invariant_of-self : goal.invariant_of-self
invariant_of-self c =
    let entries = c.self.inside.begun.entries in
    let touched = c.self.inside.touched.items in
    let now : c.truncate.new.self.entries ≡ take c.self.inside.kept (undone touched entries) =
    c.truncate.ensures.entries ∙ ap (take c.self.inside.kept) c.undo.ensures.entries in
    record {
      table = table-restored entries touched c.truncate.new.self.entries c.undo.new.touched.items c.self.inside.kept
          c.self.inside.grants c.self.inside.unfinished.items c.truncate-2.new.self.items c.self.inside.kept_unfinished
          c.self.invariant.table now c.undo.ensures.none (grind (arith, common_steps));
      ends = untold-restored entries touched c.truncate.new.self.entries c.undo.new.touched.items c.self.inside.kept
          c.self.inside.untold.items c.truncate-3.new.self.items c.self.inside.kept_untold c.self.invariant.table.within
          c.self.invariant.ends now c.undo.ensures.none (grind (arith, common_steps));
      room_to_tell = omega (
        arith,
        room-restored entries c.truncate.new.self.entries touched c.undo.new.touched.items c.self.inside.kept
            (vec_capacity c.self.inside.touched) c.self.invariant.room_to_tell now c.undo.ensures.none,
        c.undo.ensures.room,
      );
    }

pub returns : goal.returns
returns c =
    let entries = c.self.inside.begun.entries in
    let touched = c.self.inside.touched.items in
    let kept = c.self.inside.kept in
    let now : c.truncate.new.self.entries ≡ take kept (undone touched entries) =
    c.truncate.ensures.entries ∙ ap (take kept) c.undo.ensures.entries in
    same_fetched _ _
    (ap (λ fetched. fetched.grants) c.self.view_is)
    (ap parts_in (now ∙ undone-take touched entries kept) ∙ ap (λ fetched. fetched.parts_before) c.self.view_is)
    (ap (λ waiting. waiting.entries) c.restore.ensures ∙ ap (λ fetched. fetched.replay_before) c.self.view_is)
    (undone-restored entries touched c.truncate.new.self.entries c.undo.new.touched.items kept now c.undo.ensures.none ∙
    ap (λ fetched. fetched.parts_before) c.self.view_is)
    (ap (λ waiting. waiting.before) c.restore.ensures ∙ ap (λ fetched. fetched.replay_before) c.self.view_is)
