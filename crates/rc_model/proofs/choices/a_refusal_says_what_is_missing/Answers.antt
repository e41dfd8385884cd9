use Rattle.rc_model.proofs.NonePickable.{head_missing, missing_head, segment_missing, missing_segment}
use Rattle.rc_model.proofs.choices.a_refusal_says_what_is_missing.Goals as goal

pub returns-clause-head : goal.returns-clause-head
returns-clause-head c = λ min replies. (head_missing min replies, missing_head min replies)

pub returns-clause-segment : goal.returns-clause-segment
returns-clause-segment c = λ min replies seg. (segment_missing min replies, missing_segment min replies)
