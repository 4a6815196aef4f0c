-- `framing::seal` meets its contract: what is laid behind the first n bytes is their CRC_A.
-- Assumes nothing.
use mathlib.Core.Path.{refl, sym, ap, ◌∙◌}
use native.Mathlib.Omega.{arith}
use lib.ListN.{take}
use lib.Seq.{sets}
use Rattle.crc.specs.CrcA.{crc_a, on_air, with_crc}
use Rattle.framing.proofs.Sealed.{behind}
use Rattle.framing.proofs.seal.Goals as goal

pub returns : goal.returns
unfolding with_crc
returns c =
    let a = c.args in
    let l = a.reply.now in record {
      value = refl;
      reply_after = c.lay.ensures ∙ ap (sets l a.n) (c.on_air-trailer.ensures ∙ ap on_air c.crc_a.ensures)
          ∙ sym (behind l (on_air (crc_a (take a.n l))) a.n (omega arith));
    }
