use Rattle.std.proofs.lemmas.Result.{on_ok_weaker}
use Rattle.rc_keeping.proofs.Written.{begun-written}
use Rattle.rc_keeping.proofs.book_putting.put_begun.Goals as goal

pub returns-clause-written : goal.returns-clause-written
returns-clause-written g c =
    on_ok_weaker c.put-2.result
    (begun-written c.args.coordinator.now c.attempts-attempts.result.now c.current.result.now.entries c.grants.result.now
    c.last_term.result c.args.out.now.items c.put.new.out.items c.put_attempts.new.out.items c.put_map.new.out.items
    c.put_list.new.out.items c.put-2.new.out.items c.attempts-attempts.ensures.all c.current.ensures c.grants.ensures
    c.last_term.ensures c.in_ok-put.ensures.ok c.in_ok-put_attempts.ensures c.in_ok-put_map.ensures.written
    c.in_ok-put_list.ensures)
    c.put-2.ensures.ok
