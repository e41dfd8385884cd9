use Rattle.std.proofs.Common.{◌≡◌, true, false, ap, sym, ◌∙◌}
use Rattle.std.specs.List.{list_all}
use Rattle.rc_model.specs.Model.{Member, any_lost}
use Rattle.rc_headroll.specs.Watching.{Watched, is_under}
use Rattle.rc_headroll.proofs.WatchLemmas.{found-whole}
use Rattle.rc_headroll.proofs.watch.Watch.file.Goals as goal

pub returns-clause-filed : goal.returns-clause-filed
returns-clause-filed c = λ is.
    let none : any_lost c.args.config.now.members ≡ false = sym c.any_lost.ensures ∙ c.if-any_lost.false in
    let filed : list_all (λ member. is_under c.file_under_all.new.filed.entries member.id c.args.seg) c.args.config.now.members ≡ true =
    ap (list_all (λ (member : Member). is_under c.file_under_all.new.filed.entries member.id c.args.seg)) (sym c.members.ensures)
    ∙ c.in_ok-file_under_all.ensures.filed in
    let watch : Watched = record {
      awake = c.self.inside.awake;
      filed = c.file_under_all.new.filed.entries;
      stuck = c.self.inside.stuck;
    } in
    found-whole c.args.own watch c.args.seg c.args.config.now none filed
