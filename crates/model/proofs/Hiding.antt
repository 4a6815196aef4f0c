-- What READ and FAST_READ do not tell: the claims RandomIdHides and KeysHidden of specs/CallClaims.antt.
--
--   Alike               two stores that differ only in hidden bytes
--   window-alike        READ gives the same pages
--   shown-alike         every byte is shown alike, and pages-alike: so are pages
--   number-alike        a frame that reads gets the same number
--   done-alike          carried out, it gets the same reply, and concluded-alike: with any other number too
--   read_alike          two such stores are read alike
--   random-id-hides, keys-hidden    the claims
--
-- Assumes nothing.
use mathlib.Core.Path.{◌≡◌, refl, sym, ◌∙◌}
use mathlib.Core.List.{List, [], ◌∷◌}
use mathlib.Core.Bool.{Bool, true, false, ◌||◌, cond, or-true}
use mathlib.Core.Logic.{◌⊎◌, inl, inr}
use Prim.Native.Nat.{ℕ, zero, suc, ◌+◌, ◌*◌, ◌<◌}
use native.Mathlib.Decide.{dec_lt}
use native.Mathlib.Omega.{arith}
use borrow.Author.Tests.{lt-ltb, le-leb}
use lib.Dec.{eqb, lit<, lit≤}
use lib.ListN.{length, get_or}
use Rattle.model.specs.declared.Tag.{Tag}
use Rattle.model.specs.declared.State.{State}
use Rattle.model.specs.declared.Barred.{Barred}
use Rattle.model.specs.declared.Effect.TheVariants.{Keep}
use Rattle.model.specs.declared.Decision.{Decision}
use Rattle.model.specs.Map.{mf0aes20, last_page}
use Rattle.model.specs.Settings.{random_id_on, auth0, read_protected}
use Rattle.model.specs.Numbers.{kept, refused, answered}
use Rattle.model.specs.Telling.{told}
use Rattle.model.specs.Reading.{read_barred, read_number, fast_read_number, last_readable, read_window, fast_range, hidden, shown_byte, shown_pages}
use Rattle.model.specs.Authentication.{raised}
use Rattle.model.specs.Frame.{misfit, command_number, command_done, earlier_number, not_done, concluded, said_of, frame}
use Rattle.model.specs.CallClaims.{Reads, ReadAlike, RandomIdHides, KeysHidden}
use Rattle.model.proofs.Parts.{told_done, frame_number, decide-parts}
use Rattle.model.proofs.Numbers.{decide-number}

-- two stores of one length that agree where RID_ACT, AUTH0 and PROT lie, and at every byte that is not hidden
record Alike (st : State) (s t : List ℕ) : Type 0 where
  long : length s ≡ length t
  rid_act : get_or s 164 0 ≡ get_or t 164 0
  auth : get_or s 167 0 ≡ get_or t 167 0
  prot : get_or s 168 0 ≡ get_or t 168 0
  shown : (i : ℕ) → (hidden mf0aes20 st s i ≡ true) ⊎ (get_or s i 0 ≡ get_or t i 0)

module _ (tag : Tag) (s t : List ℕ) (h : Alike tag.state s t) where
  hidden-alike : (i : ℕ) → hidden mf0aes20 tag.state s i ≡ hidden mf0aes20 tag.state t i
  unfolding hidden random_id_on mf0aes20
  hidden-alike i = rw h.rid_act

  barred-alike : (last : ℕ) → read_barred mf0aes20 tag.state s last ≡ read_barred mf0aes20 tag.state t last
  unfolding read_barred read_protected auth0 mf0aes20
  barred-alike last = rw (h.auth, h.prot)

  window-alike : (p : ℕ) → read_window mf0aes20 tag.state s p ≡ read_window mf0aes20 tag.state t p
  unfolding read_window last_readable auth0 mf0aes20
  window-alike p = rw (barred-alike (last_page mf0aes20), h.auth)

  shown-alike : (i : ℕ) → shown_byte mf0aes20 tag.state s i ≡ shown_byte mf0aes20 tag.state t i
  unfolding shown_byte
  shown-alike i = rw (← hidden-alike i) (pick (h.shown i))
    where
      pick : (hidden mf0aes20 tag.state s i ≡ true) ⊎ (get_or s i 0 ≡ get_or t i 0)
          → cond (hidden mf0aes20 tag.state s i) 0 (get_or s i 0) ≡ cond (hidden mf0aes20 tag.state s i) 0 (get_or t i 0)
      pick (inl e) = rw e
      pick (inr e) = rw e

  pages-alike : (ps : List ℕ) → shown_pages mf0aes20 tag.state s ps ≡ shown_pages mf0aes20 tag.state t ps
  unfolding shown_pages
  pages-alike [] = refl
  pages-alike (p ∷ ps) =
      rw (shown-alike (4 * p), shown-alike (4 * p + 1), shown-alike (4 * p + 2), shown-alike (4 * p + 3), pages-alike ps)

  number-alike : (f random : List ℕ) (room : ℕ) → Reads f
      → frame_number mf0aes20 tag s f random room ≡ frame_number mf0aes20 tag t f random room
  unfolding earlier_number frame_number misfit command_number read_number fast_read_number told
  number-alike f random room (inl code) = rw (h.long, code, barred-alike (get_or f 1 0))
  number-alike f random room (inr code) = rw (h.long, code, barred-alike (get_or f 2 0))

  -- two decisions are answered alike, one from each store
  abbrev SaidAlike : Decision → Decision → Type 0
  SaidAlike d e = said_of mf0aes20 tag s d.block d.say ≡ said_of mf0aes20 tag t e.block e.say

  done-alike : (f random : List ℕ) → Reads f
      → SaidAlike (told_done (told (get_or f 0 0)) mf0aes20 tag s f random) (told_done (told (get_or f 0 0)) mf0aes20 tag t f random)
  unfolding told command_done answered said_of
  done-alike f random (inl code) = rw (code, window-alike (get_or f 1 0), pages-alike (read_window mf0aes20 tag.state t (get_or f 1 0)))
  done-alike f random (inr code) = rw (code, pages-alike (fast_range (get_or f 1 0) (get_or f 2 0)))

  -- a number other than 0 is answered without the store
  concluded-alike : (n : ℕ) (b b' : Barred) (d e : Decision) → SaidAlike d e
      → SaidAlike (concluded n b mf0aes20 tag s d) (concluded n b' mf0aes20 tag t e)
  unfolding not_done kept refused said_of
  concluded-alike zero b b' d e h = h
  concluded-alike (suc n) b b' d e h = pick (eqb (suc n) 1 || eqb (suc n) 10)
    where
      pick : (x : Bool)
          → SaidAlike (cond x (kept (suc n) tag) (refused (suc n) b (cond (eqb (suc n) 8) (raised mf0aes20 tag s) Keep)))
          (cond x (kept (suc n) tag) (refused (suc n) b' (cond (eqb (suc n) 8) (raised mf0aes20 tag t) Keep)))
      pick true = refl
      pick false = refl

  read_alike : ReadAlike tag s t
  unfolding frame
  read_alike f random room reads =
      let n = number-alike f random room reads in (
        decide-number mf0aes20 tag s f random room ∙ n ∙ sym (decide-number mf0aes20 tag t f random room),
        rw (decide-parts mf0aes20 tag s f random room, decide-parts mf0aes20 tag t f random room, n)
            (concluded-alike (frame_number mf0aes20 tag t f random room) _ _ _ _ (done-alike f random reads)),
      )

pub random-id-hides : RandomIdHides
unfolding hidden
random-id-hides tag s t active on agree =
    read_alike tag s t
    (record {
      long = agree.long;
      rid_act = agree.same 164 (lit≤ tt);
      auth = agree.same 167 (lit≤ tt);
      prot = agree.same 168 (lit≤ tt);
      shown = λ i. pick i (dec_lt i 9);
    })
  where
    pick : (i : ℕ) → Dec (i < 9) → (hidden mf0aes20 tag.state s i ≡ true) ⊎ (get_or s i 0 ≡ get_or t i 0)
    pick i (yes less) = inl (simp (on, active, lt-ltb i 9 less, or-true))
    pick i (no more) = inr (agree.same i (omega arith))

pub keys-hidden : KeysHidden
unfolding hidden mf0aes20
keys-hidden tag s t agree =
    read_alike tag s t
    (record {
      long = agree.long;
      rid_act = agree.same 164 (inl (lit< tt));
      auth = agree.same 167 (inl (lit< tt));
      prot = agree.same 168 (inl (lit< tt));
      shown = λ i. pick i (dec_lt i 192) (dec_lt i 224);
    })
  where
    pick : (i : ℕ) → Dec (i < 192) → Dec (i < 224) → (hidden mf0aes20 tag.state s i ≡ true) ⊎ (get_or s i 0 ≡ get_or t i 0)
    pick i (yes less) below = inr (agree.same i (inl less))
    pick i (no more) (yes less) = inl (simp (le-leb 192 i (omega arith), lt-ltb i 224 less))
    pick i (no more) (no above) = inr (agree.same i (inr (omega arith)))
