use Rattle.std.proofs.Common.{◌≡◌, ◌+◌, ◌<◌, ◌≤◌, ◌∷◌, ◌++◌, [], length, Some, slice_get, vec_len, vec_capacity, map, cond, is_ok, refl}
use Rattle.std.proofs.Common.{sym, ap, ◌∙◌, arith}
use Rattle.std.proofs.lemmas.List.{length-set, length-map, map-set}
use Rattle.std.proofs.lemmas.Option.{slice_get_read}
use Rattle.rc_model.specs.World.{node_of}
use Rattle.rc_types.specs.Names.{number_of}
use Rattle.rc_types.specs.declared.ids.TheConstants.{NODE_NUMBERS}
use Rattle.rc_wire.proofs.Indexes.{note-step}
use Rattle.rc_wire.proofs.Rooms.{reach-set}
use Rattle.rc_wire.proofs.index.Index.note.Goals as goal

pub loop-place-preserved : goal.loop-place-preserved
loop-place-preserved c =
    let lists = c.loop-place.self.lists.items in
    let messages = c.args.messages.now in
    let place = c.loop-place.place in
    let message = c.index-messages-place.result in
    let before = c.index_mut.result.now in
    let after = c.push.new.self in
    let k : c.number.result ≡ number_of (node_of message.to) = c.number.ensures.is ∙ ap number_of c.at.ensures in
    let at : slice_get messages place ≡ Some message =
    slice_get_read messages (length messages) place message refl c.loop-place-test.true c.index-messages-place.is in
    let all : length lists ≡ NODE_NUMBERS = sym (length-map lists (λ list. list.items)) ∙ c.loop-place.invariant.all in
    let within : c.number.result < length lists = omega (arith, all, c.number.ensures.few) in
    let there : slice_get lists c.number.result ≡ Some before =
    slice_get_read lists (length lists) c.number.result before refl within c.index_mut.ensures.value in
    let pushed : after.items ≡ before.items ++ (c.args.first + place) ∷ [] =
    c.push.ensures.items ∙ ap (λ r. cond (is_ok r) (before.items ++ (c.args.first + place) ∷ []) before.items) c.unwrap.ensures in
    let room = c.loop-place.invariant.room place message before (omega arith) at (ap (slice_get lists) (sym k) ∙ there) in
    record {
      all =
          ap length (map-set (λ list. list.items) lists c.number.result after)
          ∙ (length-set (map (λ list. list.items) lists) c.number.result after.items ∙ c.loop-place.invariant.all);
      room = reach-set (λ list. vec_len list + length messages ≤ vec_capacity list + place)
          (λ list. vec_len list + length messages ≤ vec_capacity list + (place + 1)) place lists messages c.number.result after
          c.loop-place.invariant.room within (omega (arith, room, c.push.ensures.upper_bound, c.push.ensures.capacity))
          (λ list less. omega (arith, less));
      noted = λ sent index count.
          note-step (λ list. list.items) lists c.number.result before after sent messages place c.args.first message
          (c.loop-place.invariant.noted sent index count) there k c.number.ensures.few at count pushed;
    }
