use Rattle.std.proofs.Common.{◌≡◌, ◌+◌, ◌<◌, ◌≤◌, length, Some, slice_get, slice_set, vec_len, vec_capacity, refl}
use Rattle.std.proofs.Common.{sym, ap, ◌∙◌, subst, arith}
use Rattle.std.proofs.Math.Seq.{map-set_same}
use Rattle.std.proofs.lemmas.List.{length-map}
use Rattle.std.proofs.lemmas.Option.{slice_get_read, slice_get_within}
use Rattle.rc_model.specs.World.{node_of}
use Rattle.rc_types.specs.Names.{number_of}
use Rattle.rc_types.specs.declared.ids.TheConstants.{NODE_NUMBERS}
use Rattle.rc_wire.proofs.Rooms.{Reach, reach-more}
use Rattle.rc_wire.proofs.index.Index.reserve.Goals as goal

pub returns-in_err-reserve-clause-same : goal.returns-in_err-reserve-clause-same
returns-in_err-reserve-clause-same c =
    map-set_same (λ list. list.items) c.loop-message.self.lists.items c.number.result c.reserve.new.self c.index_mut.result.now
    (c.reserve.ensures.items ∙ ap (λ list. list.items) c.index_mut.ensures.value) ∙ c.loop-message.invariant.same

pub loop-message-preserved : goal.loop-message-preserved
loop-message-preserved c =
    let lists = c.loop-message.self.lists.items in
    let messages = c.args.messages.now in
    let place = c.loop-message.message-index in
    let message = c.message-item.result in
    let after = c.reserve.new.self in
    let k : c.number.result ≡ number_of (node_of message.to) = c.number.ensures.is ∙ ap number_of c.at.ensures in
    let all : length lists ≡ NODE_NUMBERS =
    sym (length-map lists (λ list. list.items)) ∙ (ap length c.loop-message.invariant.same ∙ c.requires) in
    let within : number_of (node_of message.to) < length lists = omega (arith, all, k, c.number.ensures.few) in
    let at : slice_get messages place ≡ Some message =
    slice_get_read messages (length messages) place message refl c.loop-message-test.true c.message-item.is in
    record {
      same =
          map-set_same (λ list. list.items) lists c.number.result after c.index_mut.result.now
          (c.reserve.ensures.items ∙ ap (λ list. list.items) c.index_mut.ensures.value) ∙ c.loop-message.invariant.same;
      room =
          subst (λ n. Reach (λ p. p < place + 1) (λ list. vec_len list + length messages ≤ vec_capacity list) (slice_set lists n after)
          messages) (sym k)
          (reach-more (λ list. vec_len list + length messages ≤ vec_capacity list) lists messages place message after
          c.loop-message.invariant.room at within c.in_ok-reserve.ensures.ok);
    }

pub returns-clause-room : goal.returns-clause-room
returns-clause-room c place message list at found =
    c.loop-message.invariant.room place message list (omega (arith, slice_get_within c.args.messages.now place message at)) at found
