-- `c_write::put_record` meets its contract: the first part and the two blocks, laid one behind the other.
-- Assumes nothing.
use Rattle.std.proofs.Common.{rules}
use Rattle.c_record.specs.Record.{head_of, bytes_of}
use Rattle.c_record.proofs.Laws.{head-long}
use Rattle.c_write.proofs.Written.{laid}
use Rattle.c_write.proofs.put_record.Goals as goal

pub returns : goal.returns
unfolding bytes_of
returns c =
    let a = c.args in
    let t = a.tag in
    laid (head_of t.counters t.failed t.state) t.originality t.challenge a.b.now _ _ _ (head-long t.counters t.failed t.state)
    (search rules) (search rules) (search rules) c.lay_head.ensures c.lay.ensures c.lay-2.ensures
