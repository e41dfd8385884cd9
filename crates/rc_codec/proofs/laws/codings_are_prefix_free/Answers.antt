use Rattle.rc_codec.proofs.EachKind.{coded_message_law, coded_event_law}
use Rattle.rc_codec.proofs.Promises.{is_prefix_free}
use Rattle.rc_codec.proofs.laws.codings_are_prefix_free.Goals as goal

pub returns-clause-messages : goal.returns-clause-messages
returns-clause-messages c = is_prefix_free coded_message_law

pub returns-clause-events : goal.returns-clause-events
returns-clause-events c = is_prefix_free coded_event_law
