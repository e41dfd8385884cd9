use Rattle.std.proofs.Common.{List, [], Result, Ok, sym, ◌∙◌, ap}
use Rattle.rc_model.specs.Model.{ServerId, Fault}
use Rattle.rc_model.specs.Config.{Config as Members}
use Rattle.rc_config.proofs.NobodyLost.{refill-nobody}
use Rattle.rc_config.proofs.config.Config.refill.Goals as goal

pub returns-then-not-any_lost-clause-ok : goal.returns-then-not-any_lost-clause-ok
returns-then-not-any_lost-clause-ok c =
    refill-nobody c.args.own c.args.servers.now c.args.self.now c.with_lost-marked.result c.with_lost-marked.ensures
    (sym (c.if-not-any_lost.ensures))
    ∙ ap (λ (config : Members). (
      config,
      let nobody : Result (List ServerId) Fault = Ok [] in
          nobody,
    )) (sym c.self-then-not-any_lost.view_is)
    ∙ ap (λ (ids : List ServerId). (
      Rattle.rc_config.specs.contracts.config.Config.the_view c.self-then-not-any_lost.inside,
      let new : Result (List ServerId) Fault = Ok ids in
          new,
    )) (sym c.new.ensures.items)
