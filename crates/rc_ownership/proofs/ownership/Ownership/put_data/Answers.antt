use Rattle.std.proofs.Common.{◌≡◌, false, ap, arith}
use Rattle.std.proofs.lemmas.Bool.Decides.{nat_tests}
use Rattle.rc_model.specs.Ownership.{awaits_data}
use Rattle.rc_ownership.specs.Owner.{Owner}
use Rattle.rc_ownership.proofs.PartTables.{put_data-none}
use Rattle.rc_ownership.proofs.ownership.Ownership.put_data.Goals as goal

pub returns-then-not-awaits_data-clause-ok : goal.returns-then-not-awaits_data-clause-ok
returns-then-not-awaits_data-clause-ok c =
    let none : awaits_data c.args.term c.args.seg c.args.from c.args.self.now.own ≡ false = grind (arith, nat_tests) in
    ap (λ own. let owner : Owner = record c.args.self.now { own = own } in owner)
    (put_data-none c.args.term c.args.seg c.args.from c.args.entries.now c.args.self.now.own none)
