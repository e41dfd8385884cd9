use Rattle.std.proofs.lemmas.Result.{on_ok_weaker}
use Rattle.rc_keeping.proofs.Written.{known-written}
use Rattle.rc_keeping.proofs.book_putting.put_known.Goals as goal

pub returns-clause-written : goal.returns-clause-written
returns-clause-written g c =
    on_ok_weaker c.put_map.result
    (known-written c.args.coordinator.now c.servers.result.now c.ready.result.now c.least.result.now.entries c.args.out.now.items
    c.put_servers.new.out.items c.put_ready.new.out.items c.put_tablets.new.out.items c.put_map.new.out.items c.servers.ensures
    c.ready.ensures c.least.ensures c.in_ok-put_servers.ensures.written c.in_ok-put_ready.ensures.written
    c.in_ok-put_tablets.ensures.written)
    c.put_map.ensures.written
