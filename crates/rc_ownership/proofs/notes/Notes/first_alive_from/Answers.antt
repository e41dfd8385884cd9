use Rattle.std.proofs.Common.{◌&&◌, take, ap, subst, ◌∙◌}
use Rattle.rc_model.specs.Versions.{is_dead}
use Rattle.rc_ownership.specs.Groups.{IsAliveAt}
use Rattle.rc_ownership.proofs.AliveSegments.{bare, dead-parts, alive-after, rest_of, maybe-before}
use Rattle.rc_ownership.proofs.notes.Notes.first_alive_from.Goals as goal

pub returns-in-Some-clause-dead : goal.returns-in-Some-clause-dead
returns-in-Some-clause-dead c =
    let durable = take c.args.self.now.durable c.args.self.now.noted in
    ap (λ b. b && is_dead durable (bare (take c.args.start c.args.entries.now)))
    (c.in-Some.ensures.dead ∙ ap (λ entries. is_dead durable (bare entries)) (rest_of c.args.entries.now c.args.start))
    ∙ dead-parts durable c.args.entries.now c.args.start

pub returns-in-Some-clause-alive : goal.returns-in-Some-clause-alive
returns-in-Some-clause-alive c =
    let durable = take c.args.self.now.durable c.args.self.now.noted in
    alive-after durable c.args.entries.now c.args.start c.in-Some.place c.requires
    (subst (λ entries. IsAliveAt durable entries c.in-Some.place) (rest_of c.args.entries.now c.args.start) c.in-Some.ensures.alive)

pub returns-in-None-clause-dead : goal.returns-in-None-clause-dead
returns-in-None-clause-dead c =
    let durable = take c.args.self.now.durable c.args.self.now.noted in
    c.first_alive-in-None.ensures.dead
    ∙ ap (λ b. b && is_dead durable (bare (take c.args.start c.args.entries.now)))
    (c.in-None.ensures.dead ∙ ap (λ entries. is_dead durable (bare entries)) (rest_of c.args.entries.now c.args.start))
    ∙ dead-parts durable c.args.entries.now c.args.start

pub returns-in-None-clause-alive : goal.returns-in-None-clause-alive
returns-in-None-clause-alive c =
    maybe-before (take c.args.self.now.durable c.args.self.now.noted) c.args.entries.now c.args.start c.requires
    c.first_alive-in-None.result c.first_alive-in-None.ensures.alive
