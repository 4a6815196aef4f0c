-- `reply::speaking::speak` meets its contract: nothing is laid for silence and a nibble, and all else is laid and sealed.
-- Assumes nothing.
use mathlib.Core.Path.{ap}
use native.Mathlib.Omega.{arith}
use lib.ListN.{length}
use Rattle.model.specs.declared.Reply.TheVariants.{Bytes}
use Rattle.reply.specs.Speaking.{data_of}
use Rattle.reply.proofs.Data.{of-bytes, data-said, data-fits}
use Rattle.framing.proofs.Sealed.{laid-length, sealed-count, sealed}
use Rattle.reply.proofs.speaking.speak.Goals as goal

pub seal-requires : goal.seal-requires
seal-requires c =
    let a = c.args in
    let laid = c.lay_data-n.ensures in
    let bs = data_of a.pages.now.map a.tag a.pages.now.bytes.now a.block a.say in
    let fits = data-fits a.pages.now.map a.tag a.pages.now.bytes.now a.block a.say (length a.reply.now) c.well_formed.1.1.1.0.1.0.1 (of-bytes a.say c.in-Window.is) c.requires in
    omega (arith, fits, laid-length {d = bs} laid, laid.count)

pub returns-in-Window : goal.returns-in-Window
returns-in-Window c =
    let a = c.args in
    let laid = c.lay_data-n.ensures in
    let bs = data_of a.pages.now.map a.tag a.pages.now.bytes.now a.block a.say in
    let kind = of-bytes a.say c.in-Window.is in
    let fits = data-fits a.pages.now.map a.tag a.pages.now.bytes.now a.block a.say (length a.reply.now) c.well_formed.1.1.1.0.1.0.1 kind c.requires in
    let said = data-said a.pages.now.map a.tag a.pages.now.bytes.now a.block a.say kind in record {
      value = rw said (ap Bytes (sealed-count {d = bs} laid c.seal.ensures.value));
      reply_after = rw said (sealed {d = bs} laid fits c.seal.ensures.reply_after);
    }
