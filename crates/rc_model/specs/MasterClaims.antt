-- What a master should obey.
use Rattle.std.specs.Prelude.{◌≡◌, ◌≢◌, ◌<◌, false, List, Some, None}
use Rattle.rc_types.specs.declared.messages.Message.{Message}
use Rattle.rc_model.specs.Master.{Master}
use Rattle.rc_model.specs.FollowUps.{follow_up, marks_shut, goes_on}
use Rattle.rc_model.specs.Measure.{measure}

-- Following up

-- each rule that is made lowers the measure, where a segment has replicas at all
abbrev pub FollowUpsLower : Type 0
FollowUpsLower = (master next : Master) (messages : List Message) → master.log.factor ≢ 0 →
    follow_up master ≡ Some (next, messages) → measure next < measure master

-- afterwards none applies, and what is shut is marked
abbrev pub NoneAppliesAfterwards : Type 0
NoneAppliesAfterwards = (master : Master) → master.log.factor ≢ 0 → master.deposed ≡ false →
    follow_up (goes_on master).0 ≡ None

abbrev pub ShutIsMarked : Type 0
ShutIsMarked = (master : Master) → master.deposed ≡ false → marks_shut (goes_on master).0 ≡ (goes_on master).0
