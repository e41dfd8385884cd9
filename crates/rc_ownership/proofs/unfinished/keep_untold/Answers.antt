use Rattle.std.proofs.Common.{rules}
use Rattle.std.proofs.lemmas.Fn.{filter_same}
use Rattle.rc_ownership.specs.Unfinished.{is_untold}
use Rattle.rc_ownership.proofs.unfinished.keep_untold.Goals as goal

pub returns : goal.returns
returns c =
    filter_same _ (is_untold c.args.begun.now.entries) _ (λ place b f called. search rules) _ _
    c.retain.ensures.filtered
