use Rattle.std.proofs.Common.{◌≡◌, ◌∙◌, ◌-◌, ℕ, ap, length}
use Rattle.rc_config.specs.Lists.{segment_at}
use Rattle.rc_headroll.specs.Before.{one_back}
use Rattle.rc_headroll.specs.contracts.before.Before.{the_view}
use Rattle.rc_headroll.proofs.GoingBack.{put_back-all}
use Rattle.rc_headroll.proofs.before.Before.put_back.Goals as goal

pub returns-clause-back : goal.returns-clause-back
returns-clause-back c =
    let len : length c.args.segments.now ≡ c.args.self.now.mark.head = c.requires in
    let len' : length c.args.segments.now ≡ c.self.inside.head = rw (← c.self.view_is) at len in
    rw (← c.self.view_is)
    (c.put_kept_back-2.ensures
    ∙ ap (λ (seg : ℕ). one_back seg c.self.inside.previous (segment_at c.put_kept_back.new.segments)) c.saturating_sub.ensures
    ∙ ap (one_back (c.self.inside.head - 1) c.self.inside.previous)
    (c.put_kept_back.ensures ∙ ap (one_back c.self.inside.head c.self.inside.newest) c.put_others_back.ensures.back)
    ∙ put_back-all (the_view c.self.inside).mark c.args.segments.now len')
