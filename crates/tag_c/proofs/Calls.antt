-- The calls of the C form by the record buffer's length, and the size of a reply.
--
--   power-fits, select-fits, frame-fits, load_fits, save-fits      with the record's length
--   power-other, select-other, frame-other, load-other, save-other with another: 10, and no buffer is changed
--   count_small                                                    a reply has at most 242 bytes
--
-- Assumes nothing.
use mathlib.Core.Path.{◌≡◌, refl, ap}
use mathlib.Core.List.{List}
use mathlib.Core.Bool.{true, false}
use Prim.Native.Nat.{ℕ, ◌≤◌, ◌<◌}
use native.Mathlib.Omega.{arith}
use native.Mathlib.Decide.{dec_lt}
use borrow.Author.Tests.{eq-eqb, ne_eqb}
use lib.ListN.{length}
use Rattle.forget.specs.Machine.{Given}
use Rattle.model.specs.declared.Tag.{Tag}
use Rattle.model.specs.declared.Reply.TheVariants.{Silence}
use Rattle.model.specs.Map.{mf0aes20, reply_size}
use Rattle.model.specs.Record as tag-record
use Rattle.model.specs.Frame as tag-frame
use Rattle.model.specs.Frame.{Said, silence, nibble, bytes, reply_of}
use Rattle.model.specs.Calls.{Box, Report, step}
use Rattle.runs.proofs.Heard.{in_buffer, said_fits}
use Rattle.runs.proofs.Steps.{step_room}
use Rattle.c_record.specs.Record.{record_size, record_of, bytes_of}
use Rattle.c_answer.specs.Answer.{answer_of, count_of}
use Rattle.tag_c.specs.Calls.{fits, power, select, framed, frame, loaded, load, saved, save}

fits-true : (b : List ℕ) → length b ≡ record_size → fits b ≡ true
unfolding fits
fits-true b h = eq-eqb _ _ h

fits-false : (b : List ℕ) → (length b ≡ record_size → ⊥) → fits b ≡ false
unfolding fits
fits-false b h = ne_eqb _ _ h

module _ (b : List ℕ) (h : length b ≡ record_size) where
  pub power-fits : power b ≡ record { number = 0; bytes = bytes_of (tag-record.power (record_of b)) }
  unfolding power
  power-fits = rw (fits-true b h)

  pub select-fits : select b ≡ record { number = 0; bytes = bytes_of (tag-record.select (record_of b)) }
  unfolding select
  select-fits = rw (fits-true b h)

  pub frame-fits : (s f random reply : List ℕ) → frame b s f random reply ≡ framed b s f random reply
  unfolding frame
  frame-fits s f random reply = rw (fits-true b h)

  pub load_fits : (s i : List ℕ) → load b s i ≡ loaded b s i
  unfolding load
  load_fits s i = rw (fits-true b h)

  pub save-fits : (s file : List ℕ) → save b s file ≡ saved b s file
  unfolding save
  save-fits s file = rw (fits-true b h)

module _ (b : List ℕ) (h : length b ≡ record_size → ⊥) where
  pub power-other : power b ≡ record { number = 10; bytes = b }
  unfolding power
  power-other = rw (fits-false b h)

  pub select-other : select b ≡ record { number = 10; bytes = b }
  unfolding select
  select-other = rw (fits-false b h)

  pub frame-other : (s f random reply : List ℕ)
      → frame b s f random reply ≡ record { answer = answer_of 10 0 Silence; bytes = b; store = s; reply = reply }
  unfolding frame
  frame-other s f random reply = rw (fits-false b h)

  pub load-other : (s i : List ℕ) → load b s i ≡ record { number = 10; bytes = b; store = s }
  unfolding load
  load-other s i = rw (fits-false b h)

  pub save-other : (s file : List ℕ) → save b s file ≡ record { number = 10; file = file }
  unfolding save
  save-other s file = rw (fits-false b h)

-- ---- the byte count

count-in-buffer : (x : Said) → count_of (reply_of x) ≡ in_buffer x
count-in-buffer silence = refl
count-in-buffer (nibble n) = refl
count-in-buffer (bytes bs) = refl

module _ (tag : Tag) (s f random : List ℕ) where
  abbrev said_in : ℕ → Said
  said_in room = (tag-frame.frame tag s f random room).said

  -- what fits a buffer of 242 bytes is said in every longer one
  in-242 : (room : ℕ) → Dec (room < reply_size mf0aes20) → in_buffer (said_in room) ≤ reply_size mf0aes20
  unfolding step
  in-242 room (yes h) = omega (arith, said_fits tag s f random room)
  in-242 room (no h) =
      let b : Box = record { tag = tag; store = s } in
      let same : said_in room ≡ said_in (reply_size mf0aes20) =
      ap (λ (g : Given Box Report). g.said.reply) (step_room b f random room (reply_size mf0aes20) (omega arith) (omega arith)) in
      rw same (said_fits tag s f random (reply_size mf0aes20))

  pub count_small : (room : ℕ) → count_of (reply_of (said_in room)) < 65536
  unfolding mf0aes20
  count_small room = omega (arith, count-in-buffer (said_in room), in-242 room (dec_lt room (reply_size mf0aes20)))
