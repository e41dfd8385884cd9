use Rattle.std.proofs.Common.{◌∙◌}
use Rattle.rc_audit.proofs.PlaceLemmas.{seen_at-summary}
use Rattle.rc_audit.proofs.evidence.Evidence.seen_at.Goals as goal

pub returns : goal.returns
returns c = seen_at-summary c.args.self.now.made c.args.self.now.messages.now _ c.copied.result c.args.self.now.indexed
    c.ranges.offset.fits (c.copied.ensures ∙ c.get.ensures.value)
