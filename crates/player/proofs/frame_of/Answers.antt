-- `player::frame_of` meets its contract: the bytes are laid, and sealed with their CRC_A.
-- Assumes nothing.
use Rattle.std.proofs.Common.{◌≡◌, sym, ◌∙◌, arith, length, take}
use Rattle.octets.proofs.Laid.{take-sets}
use Rattle.crc.specs.CrcA.{with_crc}
use Rattle.crc.proofs.Laws.{with_crc-length}
use Rattle.framing.proofs.Sealed.{sealed}
use Rattle.script.specs.Line.{byte_at, frame_bytes}
use Rattle.std.proofs.lemmas.List.FromFn.{length-map-range_with_len}
use Rattle.player.proofs.frame_of.Goals as goal

pub returns-clause-frame_after : goal.returns-clause-frame_after
returns-clause-frame_after c =
    let a = c.args in
    let bs = frame_bytes a.line.now a.n in
    let long = length-map-range_with_len (byte_at a.line.now) 0 a.n in
    let whole = with_crc-length bs in
    let seal = c.seal.ensures in
    let laid = sealed {l = a.frame.now} {d = bs} (record { count = sym long; bytes = c.lay_frame.ensures }) (omega arith) seal.reply_after in
    let size : c.seal.result ≡ length (with_crc bs) = omega (arith, seal.value) in
    (λ i. take (size i) (laid i)) ∙ take-sets a.frame.now (with_crc bs) (omega arith)
