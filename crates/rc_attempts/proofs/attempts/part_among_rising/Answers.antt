use Rattle.std.proofs.Common.{◌≡◌, ℕ, ◌<◌, ◌≤◌, nat_lt, List, length, Option, Some, None, slice_get, Bor, rules, ap, sym, ◌∙◌}
use Rattle.std.specs.List.{HoldsAt}
use Rattle.std.specs.Option.{MatchOption, option_copied}
use Rattle.std.proofs.lemmas.Option.{slice_get_past, slice_get-get_or}
use Rattle.std.proofs.lemmas.List.Sorted.{IsPartitionPoint-from_clause}
use Rattle.rc_model.specs.Model.{GivenPart}
use Rattle.rc_attempts.specs.Terms.{part_if}
use Rattle.rc_attempts.proofs.TermLemmas.{rise-parted, found-at}
use Rattle.rc_attempts.proofs.attempts.part_among_rising.Goals as goal

-- what a look-up at a place gives
got : (parts : List GivenPart) (place : ℕ) (given : Option (Bor GivenPart)) →
    MatchOption given (length parts ≤ place) (λ it. (place < length parts) × HoldsAt (λ other. it.now ≡ other) parts place) →
    option_copied given ≡ slice_get parts place
got parts place None past = sym (slice_get_past parts place past)
got parts place (Some given) there = sym (slice_get-get_or parts place given.now there.0 ∙ ap Some (sym (there.1 given.now)))

pub returns : goal.returns
returns c =
    let parts = c.args.parts.now in
    let place = c.partition_point-place.result in
    let point = IsPartitionPoint-from_clause (λ given. nat_lt given.part.term c.args.term) parts place
    c.partition_point-place.ensures.partitioned (rise-parted c.args.term parts c.requires) (λ a r q k. search rules) in
    c.part_if.ensures ∙ ap (part_if c.args.id c.args.term) (got parts place c.get.result c.get.ensures.lookup.3)
    ∙ sym (found-at c.args.id c.args.term parts place c.requires point.0 point.1)
