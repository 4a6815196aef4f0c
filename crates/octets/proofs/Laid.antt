-- Bytes laid over a part of a list, `sets` of lib.Seq.
--
--   sets-suc       one byte more is one store more
--   sets-append    two runs of bytes, one laid behind the other
--   run-put        a run that a function gives, and its next byte stored behind it
--   sets-own       a list's own first bytes laid over its start change nothing
--   take-sets      what was laid over the start stands there
--   sets-all       bytes laid over a whole list take its place
--   sets_over      the same bytes laid again, with more behind them, are laid once
--
-- Assumes nothing.
use mathlib.Core.Path.{◌≡◌, refl, sym, ap, ◌∙◌}
use mathlib.Core.List.{List, [], ◌∷◌, ◌++◌, map}
use Prim.Native.Nat.{ℕ, zero, suc, ◌+◌, ◌≤◌, ◌<◌}
use native.Mathlib.Nat.{add-zero, zero-add, add-suc, suc-add}
use native.Mathlib.Omega.{arith}
use lib.ListN.{length, get_or, take, drop, set, take-append-drop}
use Rattle.std.specs.List.{range_with_len}
use Rattle.std.proofs.lemmas.List.FromFn.{map-range_with_len_more, length-map-range_with_len}
use lib.Seq.{sets, sets-eq, length-sets, take_all, take_at, length-take-le}

pub sets-suc : (l : List ℕ) (f : ℕ) (bs : List ℕ) (i : ℕ) → i < length bs
    → sets l f (take (suc i) bs) ≡ set (sets l f (take i bs)) (f + i) (get_or bs i 0)
sets-suc l f [] i h = absurd (omega arith)
sets-suc l f (b ∷ bs) zero h = rw add-zero
sets-suc l f (b ∷ bs) (suc i) h =
    sets-suc (set l f b) (suc f) bs i (omega arith)
    ∙ ap (λ (j : ℕ). set (sets (set l f b) (suc f) (take i bs)) j (get_or bs i 0)) (suc-add f i ∙ sym (add-suc f i))

pub sets-append : (l : List ℕ) (f : ℕ) (xs ys : List ℕ) → sets l f (xs ++ ys) ≡ sets (sets l f xs) (f + length xs) ys
sets-append l f [] ys = rw add-zero
sets-append l f (x ∷ xs) ys =
    sets-append (set l f x) (suc f) xs ys
    ∙ ap (λ (j : ℕ). sets (sets (set l f x) (suc f) xs) j ys) (suc-add f (length xs) ∙ sym (add-suc f (length xs)))

pub run-put : (l w after : List ℕ) (f a j x : ℕ) (g : ℕ → ℕ) → w ≡ sets l f (map g (range_with_len a j)) → x ≡ g (a + j) → after ≡ set w (f + j) x
    → after ≡ sets l f (map g (range_with_len a (j + 1)))
run-put l w after f a j x g before value stored =
    let run = map g (range_with_len a j) in
    stored
    ∙ (λ i. set (before i) (f + j) (value i))
    ∙ sym (ap (sets l f) (map-range_with_len_more g a j (a + j) refl) ∙ sets-append l f run (g (a + j) ∷ [])
    ∙ ap (λ (k : ℕ). set (sets l f run) (f + k) (g (a + j))) (length-map-range_with_len g a j))

-- over the start the laid list is the bytes and what was behind them
sets-start : (l bs : List ℕ) → length bs ≤ length l → sets l 0 bs ≡ bs ++ drop (length bs) l
sets-start l bs h = sets-eq bs l 0 (omega arith) ∙ ap (λ (n : ℕ). bs ++ drop n l) (zero-add (length bs))

pub take-sets : (l bs : List ℕ) → length bs ≤ length l → take (length bs) (sets l 0 bs) ≡ bs
take-sets l bs h = ap (take (length bs)) (sets-start l bs h) ∙ take_at bs (drop (length bs) l) (length bs) refl

pub sets-own : (l : List ℕ) (n : ℕ) → n ≤ length l → sets l 0 (take n l) ≡ l
sets-own l n h =
    let e = length-take-le n l h in
    sets-start l (take n l) (omega arith) ∙ ap (λ (k : ℕ). take n l ++ drop k l) e ∙ take-append-drop n l

pub sets-all : (l bs : List ℕ) → length bs ≡ length l → sets l 0 bs ≡ bs
sets-all l bs e =
    sym (take_all (length bs) (sets l 0 bs) (omega (arith, length-sets l 0 bs))) ∙ take-sets l bs (omega arith)

pub sets_over : (l bs cs : List ℕ) → length bs ≤ length l → sets (sets l 0 bs) 0 (bs ++ cs) ≡ sets l 0 (bs ++ cs)
sets_over l bs cs h =
    let x = sets l 0 bs in
    let own : sets x 0 bs ≡ x =
    ap (sets x 0) (sym (take-sets l bs h)) ∙ sets-own x (length bs) (omega (arith, length-sets l 0 bs)) in
    sets-append x 0 bs cs
    ∙ ap (λ (y : List ℕ). sets y (0 + length bs) cs) own
    ∙ sym (sets-append l 0 bs cs)
