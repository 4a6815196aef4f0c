-- docs/C-FORM.md, "The calls": document 01's calls over numbers and byte buffers.
--
--     fits b            the record buffer b has the record's length; else every call answers 10 and changes no buffer
--     power, select     the two events: they take any record, and write its fleeting part anew
--     frame             the record is written but at 1 and 10
--     load              at 12 the zero record is written; at 10 no buffer is
--     save              only the image buffer is written
--
-- b is the record buffer, s the store, i an image file; each result lists the buffers that the call may write. Assumes nothing.
use Rattle.std.specs.Prelude.{List, Bool, cond, ℕ, eqb, length}
use Rattle.model.specs.declared.Tag.{Tag}
use Rattle.model.specs.declared.Reply.TheVariants.{Silence}
use Rattle.model.specs.Record as tag-record
use Rattle.model.specs.Writing.{barred_place}
use Rattle.model.specs.Frame as tag-frame
use Rattle.model.specs.Frame.{reply_of, laid_over}
use Rattle.model.specs.Image as tag-image
use Rattle.c_record.specs.Record.{record_size, record_of, bytes_of, handed_back}
use Rattle.c_answer.specs.Answer.{answer_of}

unfoldable pub fits : List ℕ → Bool
fits b = eqb (length b) record_size

pub record Evented : Type 0 where
  pub number : ℕ
  pub bytes : List ℕ

abbrev pub event : (Tag → Tag) → List ℕ → Evented
event f b = cond (fits b) (record { number = 0; bytes = bytes_of (f (record_of b)) }) (record { number = 10; bytes = b })

unfoldable pub power : List ℕ → Evented
power b = event tag-record.power b

unfoldable pub select : List ℕ → Evented
select b = event tag-record.select b

pub record Framed : Type 0 where
  pub answer : ℕ
  pub bytes : List ℕ
  pub store : List ℕ
  pub reply : List ℕ

abbrev pub framed : List ℕ → List ℕ → List ℕ → List ℕ → List ℕ → Framed
framed b s f random reply =
    let o = tag-frame.frame (record_of b) s f random (length reply) in
    record {
      answer = answer_of o.number (barred_place o.reason) (reply_of o.said);
      bytes = handed_back o.number o.tag b;
      store = o.store;
      reply = laid_over reply o.said;
    }

unfoldable pub frame : List ℕ → List ℕ → List ℕ → List ℕ → List ℕ → Framed
frame b s f random reply =
    cond (fits b) (framed b s f random reply) (record { answer = answer_of 10 0 Silence; bytes = b; store = s; reply = reply })

pub record Loaded : Type 0 where
  pub number : ℕ
  pub bytes : List ℕ
  pub store : List ℕ

abbrev pub loaded : List ℕ → List ℕ → List ℕ → Loaded
loaded b s i =
    let l = tag-image.load i s in
    record { number = l.number; bytes = handed_back l.number l.tag b; store = l.store }

unfoldable pub load : List ℕ → List ℕ → List ℕ → Loaded
load b s i = cond (fits b) (loaded b s i) (record { number = 10; bytes = b; store = s })

pub record Saved : Type 0 where
  pub number : ℕ
  pub file : List ℕ

abbrev pub saved : List ℕ → List ℕ → List ℕ → Saved
saved b s file =
    let v = tag-image.save (record_of b) s file in
    record { number = v.number; file = v.image }

unfoldable pub save : List ℕ → List ℕ → List ℕ → Saved
save b s file = cond (fits b) (saved b s file) (record { number = 10; file = file })
