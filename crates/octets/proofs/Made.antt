-- Arrays that a closure made element by element: `array::from_fn`, and an array's `map`. g is the closure's record and ys the array.
--
--   filled      what each call gives holds of each element, where no call changes what a later one gives
--   made_by     where no call changes the closure, and each gives h of its index, the array is h at 0, 1, 2 and so on
--   mapped_by   where each gives h of its element, the array is h of each element
--
-- Assumes nothing.
use mathlib.Core.Path.{◌≡◌, refl, sym, subst, ap, ◌∙◌}
use mathlib.Core.List.{List, map}
use Prim.Native.Nat.{ℕ, zero, suc, ◌+◌, ◌<◌}
use native.Mathlib.Nat.{add-zero, zero-add}
use native.Mathlib.Omega.{arith}
use lib.ListN.{length, get_or, get_or-map}
use lib.Seq.{ext_get_or}
use denote.Param.Members.{Mut, Called}
use Rattle.std.specs.Array.{IsFromFnResultFrom, IsFromFnResult, MapsFrom, IsMapOf}
use Rattle.std.specs.List.{range_with_len}
use Rattle.std.proofs.lemmas.List.{length-map}
use Rattle.std.proofs.lemmas.List.FromFn.{fill_by_all}

-- R is what a call at an index gives
module _ {F B : Type 0} (g : Mut F (ℕ × Unit {0}) B) (R : F → ℕ → B → Type 0) (ys : List B)
    (step : (p : F) (i : ℕ) (y : B) (q : F) → Called g p (i, tt) y q → R p i y × ((j : ℕ) (z : B) → R q j z → R p j z)) where
  filled-from : (f : F) (i n : ℕ) → IsFromFnResultFrom g f ys i n → (k : ℕ) (d : B) → k < n → R f (i + k) (get_or ys (i + k) d)
  filled-from f i zero e k d h = absurd (omega arith)
  filled-from f i (suc n) e zero d h = rw (add-zero i, e.2.1 d) (step f i e.1 e.0 e.3).0
  filled-from f i (suc n) e (suc k) d h =
      let place : i + 1 + k ≡ i + suc k = omega arith in
      subst (λ (m : ℕ). R f m (get_or ys m d)) place ((step f i e.1 e.0 e.3).1 _ _ (filled-from e.0 (i + 1) n e.4 k d (omega arith)))

  pub filled : (f : F) (n : ℕ) → IsFromFnResultFrom g f ys 0 n → (k : ℕ) (d : B) → k < n → R f k (get_or ys k d)
  filled f n e k d h = subst (λ (m : ℕ). R f m (get_or ys m d)) (zero-add k) (filled-from f 0 n e k d h)

module _ {F : Type 0} (g : Mut F (ℕ × Unit {0}) ℕ) (f : F) (h : ℕ → ℕ)
    (step : (i y : ℕ) (q : F) → Called g f (i, tt) y q → (y ≡ h i) × (q ≡ f)) where
  -- while the closure is f
  abbrev Gives : F → ℕ → ℕ → Type 0
  Gives p i y = p ≡ f → y ≡ h i

  unchanged : (p : F) (i y : ℕ) (q : F) → Called g p (i, tt) y q → Gives p i y × ((j z : ℕ) → Gives q j z → Gives p j z)
  unchanged p i y q called =
      let one : p ≡ f → (y ≡ h i) × (q ≡ f) = λ e. step i y q (subst (λ (c : F). Called g c (i, tt) y q) e called) in
      (λ e. (one e).0, λ j z later e. later (one e).1)

  pub made_by : (ys : List ℕ) (n : ℕ) → IsFromFnResult g f ys n → ys ≡ map h (range_with_len 0 n)
  made_by ys n made = fill_by_all h ys n 0 made.long (λ k less. filled g Gives ys unchanged f n made.each k 0 less refl)

module _ {F A B : Type 0} (g : Mut F (A × Unit {0}) B) (f : F) (h : A → B)
    (step : (x : A) (y : B) (q : F) → Called g f (x, tt) y q → (y ≡ h x) × (q ≡ f)) where
  mapped-from : (xs : List A) (ys : List B) (n i : ℕ) (p : F) → p ≡ f → MapsFrom g p xs ys i n → (k : ℕ) (d : A) (e : B) → k < n
      → get_or ys (i + k) e ≡ h (get_or xs (i + k) d)
  mapped-from xs ys zero i p same r k d e less = absurd (omega arith)
  mapped-from xs ys (suc n) i p same r zero d e less =
      let one = step r.1 r.2 r.0 (subst (λ (c : F). Called g c (r.1, tt) r.2 r.0) same r.5) in
      rw add-zero (r.4.1 e ∙ one.0 ∙ ap h (sym (r.3.1 d)))
  mapped-from xs ys (suc n) i p same r (suc k) d e less =
      let one = step r.1 r.2 r.0 (subst (λ (c : F). Called g c (r.1, tt) r.2 r.0) same r.5) in
      let place : i + suc k ≡ i + 1 + k = omega arith in
      rw place (mapped-from xs ys n (i + 1) r.0 one.1 r.6 k d e (omega arith))

  pub mapped_by : (d : A) (xs : List A) (ys : List B) (n : ℕ) → length xs ≡ n → IsMapOf g f xs ys n → ys ≡ map h xs
  mapped_by d xs ys n long made =
      ext_get_or (h d) ys (map h xs) (made.long ∙ sym (length-map xs h ∙ long))
      (λ k less. ap (λ (j : ℕ). get_or ys j (h d)) (sym (zero-add k)) ∙ mapped-from xs ys n 0 f refl made.each k d (h d) (omega (arith, made.long))
      ∙ ap (λ (j : ℕ). h (get_or xs j d)) (zero-add k) ∙ sym (get_or-map h xs k d))
