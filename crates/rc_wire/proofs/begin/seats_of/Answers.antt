use Rattle.std.proofs.Common.{◌≡◌, suc, ◌+◌, ◌-◌, ◌∷◌, ◌++◌, [], length, map, slice_index_or, remove, sym, ap, ◌∙◌}
use Rattle.std.proofs.Common.{arith}
use Rattle.std.specs.List.{range_with_len}
use Rattle.std.proofs.lemmas.List.FromFn.{length-map-range_with_len}
use Rattle.rc_wire.specs.Views.{new_place}
use Rattle.rc_types.specs.Names.{number_of}
use Rattle.rc_wire.specs.SeatView.{new_seat}
use Rattle.rc_wire.specs.Seats.{new_seats}
use Rattle.rc_wire.proofs.NewSeats.{name_at-number, places_from, places-first, seats-push}
use Rattle.rc_wire.proofs.begin.seats_of.Goals as goal

pub loop-number-init : goal.loop-number-init
loop-number-init g c =
    let all : length c.args.tokens.items ≡ g.N.Naming.wire.nodes =
    ap length c.requires.tokens ∙ length-map-range_with_len new_place 0 g.N.Naming.wire.nodes in
    let many : g.N.Naming.wire.nodes ≡ c.len-nodes.result - 0 = omega (arith, all, c.len-nodes.ensures, c.args.tokens.ok.0) in
    record {
      left = c.requires.tokens ∙ ap (λ n. map new_place (range_with_len 0 n)) many;
      made = c.in_ok-seats.ensures.items;
    }

pub remove-token-requires : goal.remove-token-requires
remove-token-requires g c =
    let number = c.loop-number.number in
    let nodes = c.len-nodes.result in
    let some : length c.loop-number.tokens.items ≡ suc (length (places_from (number + 1) nodes)) =
    ap length (c.loop-number.invariant.left ∙ places-first number nodes c.loop-number-test.true) in
    omega (arith, some, c.loop-number.tokens.ok.0)

pub name_at-requires : goal.name_at-requires
name_at-requires g c =
    let all : length c.args.tokens.items ≡ g.N.Naming.wire.nodes =
    ap length c.requires.tokens ∙ length-map-range_with_len new_place 0 g.N.Naming.wire.nodes in
    omega (arith, all, c.len-nodes.ensures, c.args.tokens.ok.0, c.requires.few, c.loop-number-test.true)

pub new-requires-clause-token : goal.new-requires-clause-token
new-requires-clause-token g c =
    let number = c.loop-number.number in
    let nodes = c.len-nodes.result in
    c.remove-token.ensures.value
    ∙ (ap (λ l. slice_index_or l 0 c.remove-token.result) (c.loop-number.invariant.left ∙ places-first number nodes c.loop-number-test.true)
    ∙ ap new_place (sym (ap number_of c.name_at.ensures ∙ name_at-number number)))

pub loop-number-preserved : goal.loop-number-preserved
loop-number-preserved g c =
    let number = c.loop-number.number in
    let nodes = c.len-nodes.result in
    record {
      left =
          c.remove-token.ensures.items
          ∙ ap (λ l. remove l 0) (c.loop-number.invariant.left ∙ places-first number nodes c.loop-number-test.true);
      made =
          c.in_ok-push.ensures.items
          ∙ (ap (λ l. l ++ c.new.result ∷ []) c.loop-number.invariant.made
          ∙ (ap (λ s. new_seats number ++ s ∷ []) (c.new.ensures ∙ ap new_seat c.name_at.ensures) ∙ sym (seats-push number)));
    }

pub returns : goal.returns
returns g c =
    let all : length c.args.tokens.items ≡ g.N.Naming.wire.nodes =
    ap length c.requires.tokens ∙ length-map-range_with_len new_place 0 g.N.Naming.wire.nodes in
    let last : c.loop-number.number ≡ g.N.Naming.wire.nodes =
    omega (arith, all, c.len-nodes.ensures, c.args.tokens.ok.0, c.loop-number.auto.number-end, c.loop-number-test.false) in
    c.loop-number.invariant.made ∙ ap new_seats last
