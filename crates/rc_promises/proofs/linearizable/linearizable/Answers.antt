use Rattle.rc_promises.proofs.Linear.{order-is-strict, linearizable-always, linearizable-apart, each-write, each-write-apart}
use Rattle.rc_promises.proofs.linearizable.linearizable.Goals as goal

pub returns : goal.returns
returns c = record {
  order = order-is-strict;
  worlds = linearizable-always;
  apart = linearizable-apart;
  writes = each-write;
  writes_apart = each-write-apart;
}
