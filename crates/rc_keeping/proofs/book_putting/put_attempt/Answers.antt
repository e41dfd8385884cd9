use Rattle.std.specs.Option.{option_copied}
use Rattle.std.proofs.lemmas.Result.{on_ok_weaker}
use Rattle.rc_keeping.proofs.Written.{attempt-written}
use Rattle.rc_keeping.proofs.book_putting.put_attempt.Goals as goal

pub returns : goal.returns
returns c =
    on_ok_weaker c.put_decided.result
    (attempt-written c.args.attempt.now c.master.result c.replies.result.now (option_copied c.decided.result) c.args.out.now.items
    c.put.new.out.items c.put_list.new.out.items c.put_decided.new.out.items c.master.ensures c.replies.ensures c.decided.ensures
    c.in_ok-put.ensures.ok c.in_ok-put_list.ensures)
    c.put_decided.ensures
