-- What comes back from the calls is what a line's turn says.
--
--   data-heard     the data in the reply buffer are those of the reply said
--   sent-turn      a frame's answer makes the turn of a line that asks for it
--   frame-short    a line asks for a frame of at most 62 bytes
--
-- Assumes nothing.
use mathlib.Core.Path.{◌≡◌, refl, sym, ap, ◌∙◌}
use mathlib.Core.List.{List}
use Prim.Native.Nat.{ℕ, ◌-◌, ◌≤◌}
use native.Mathlib.Omega.{arith}
use lib.ListN.{length, take}
use lib.Seq.{sets, take-take}
use Rattle.octets.proofs.Laid.{take-sets}
use Rattle.crc.specs.CrcA.{with_crc}
use Rattle.model.specs.declared.Tag.{Tag}
use Rattle.model.specs.Map.{mf0aes20, reply_size}
use Rattle.model.specs.Writing.{barred_place}
use Rattle.model.specs.Frame.{Said, silence, nibble, bytes, frame, reply_of, laid_over}
use Rattle.model.specs.Calls.{step}
use Rattle.events.specs.declared.Answer.{Answer}
use Rattle.runs.proofs.Heard.{in_buffer, said_fits}
use Rattle.std.specs.Prelude.{Some}
use Rattle.script.specs.declared.line.Line.TheVariants.{Frame}
use Rattle.script.specs.Line.{line_of, frame_bytes}
use Rattle.answers.specs.Answer.{answer_text}
use Rattle.player.specs.Play.{data_of, heard_data, random_of, good_turn, turn_of}
use Rattle.script.proofs.Frames.{frame-long}

pub data-heard : (buffer : List ℕ) (x : Said) → in_buffer x ≤ length buffer → heard_data (reply_of x) (laid_over buffer x) ≡ data_of x
data-heard buffer silence h = refl
data-heard buffer (nibble n) h = refl
data-heard buffer (bytes bs) h =
    let n = length bs in
    sym (take-take (n - 2) n (sets buffer 0 bs) (omega arith)) ∙ ap (take (n - 2)) (take-sets buffer bs h)

least : reply_size mf0aes20 ≡ 242
unfolding mf0aes20
least = refl

pub sent-turn : (tag : Tag) (s line : List ℕ) (n count : ℕ) (f random reply s' reply' text : List ℕ) (a : Answer)
    → f ≡ with_crc (frame_bytes line n) → random ≡ random_of count → length reply ≡ 242 → let o = frame tag s f random (length reply) in
    a.number ≡ o.number → a.reply ≡ reply_of o.said → a.reason ≡ o.reason → a.tag ≡ o.tag → s' ≡ o.store → reply' ≡ laid_over reply o.said
    → text ≡ answer_text a.number (barred_place a.reason) (heard_data a.reply reply')
    → turn_of (Some (Frame n)) (record { tag = tag; store = s }) count line ≡ good_turn text a.tag s'
unfolding step
sent-turn tag s line n count f random reply s' reply' text a ef er el hn hr hw ht hs hb hx =
    let o = frame tag s f random (length reply) in
    let asked : o ≡ frame tag s (with_crc (frame_bytes line n)) (random_of count) (reply_size mf0aes20) =
    λ i. frame tag s (ef i) (er i) ((el ∙ sym least) i) in
    let said = (λ i. heard_data (hr i) (hb i)) ∙ data-heard reply o.said (said_fits tag s f random (length reply)) in
    let told =
    hx
    ∙ (λ i. answer_text (hn i) (barred_place (hw i)) (said i))
    ∙ (λ i. answer_text (asked i).number (barred_place (asked i).reason) (data_of (asked i).said)) in
    sym (λ i. good_turn (told i) ((ht ∙ (λ j. (asked j).tag)) i) ((hs ∙ (λ j. (asked j).store)) i))

pub frame-short : (l : List ℕ) (n : ℕ) → line_of l ≡ Some (Frame n) → n ≤ 62
unfolding line_of
frame-short l n e = let long = frame-long l in grind arith
