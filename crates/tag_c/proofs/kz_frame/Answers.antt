-- `tag_c::kz_frame` meets its contract: another length is 10, and else what `tag::frame` hands back, as bytes and one number.
-- Assumes nothing.
use lib.ListN.{length}
use Rattle.tag_c.proofs.Calls.{count_small}
use Rattle.tag_c.proofs.kz_frame.Goals as goal

pub told-requires : goal.told-requires
told-requires c =
    let a = c.args in
    rw c.frame-a.ensures.reply_value (count_small _ a.store.now a.f.now a.random.now (length a.reply.now))
