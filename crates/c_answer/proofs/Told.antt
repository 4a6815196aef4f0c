-- The claim of specs/Claims.antt, under its name in lower case.
--
-- Assumes nothing.
use mathlib.Core.Path.{◌≡◌}
use Prim.Native.Nat.{ℕ, ◌+◌, ◌*◌, ◌/◌, ◌<◌}
use native.Mathlib.Omega.{arith}
use Rattle.model.specs.declared.Reply.{Reply}
use Rattle.model.specs.declared.Reply.TheVariants.{Silence, Nibble, Bytes}
use Rattle.c_answer.specs.Answer.{packed, answer_of, count_of, number_in, kind_in, nibble_in, reason_in, count_in, reply_in}
use Rattle.c_answer.specs.Claims.{nibble_of, AnswerTold}

number-told : (n k : ℕ) (r : Reply) → n < 256 → number_in (answer_of n k r) ≡ n
unfolding packed number_in
number-told n k Silence h = omega arith
number-told n k (Nibble x) h = omega arith
number-told n k (Bytes c) h = omega arith

kind-told : (n d x k c : ℕ) → n < 256 → d < 3 → x < 16 → k < 256 → kind_in (packed n d x k c 0) ≡ d
unfolding packed kind_in
kind-told n d x k c h hd hx hk = omega arith

nibble-told : (n d x k c : ℕ) → n < 256 → d < 3 → x < 16 → nibble_in (packed n d x k c 0) ≡ x
unfolding packed nibble_in
nibble-told n d x k c h hd hx = omega arith

reason-told : (n d x k c : ℕ) → n < 256 → d < 3 → x < 16 → k < 256 → reason_in (packed n d x k c 0) ≡ k
unfolding packed reason_in
reason-told n d x k c h hd hx hk =
    let high : packed n d x k c 0 / 16777216 ≡ k + 256 * c = omega arith in
    omega arith

count-told : (n d x k c : ℕ) → n < 256 → d < 3 → x < 16 → k < 256 → c < 65536 → count_in (packed n d x k c 0) ≡ c
unfolding packed count_in
count-told n d x k c h hd hx hk hc =
    let high : packed n d x k c 0 / 4294967296 ≡ c = omega arith in
    omega arith

module _ (n k : ℕ) (h : n < 256) (hk : k < 256) where
  reason-in : (r : Reply) → nibble_of r < 16 → reason_in (answer_of n k r) ≡ k
  reason-in Silence x = reason-told n 0 0 k 0 h (omega arith) (omega arith) hk
  reason-in (Nibble y) x = reason-told n 1 y k 0 h (omega arith) x hk
  reason-in (Bytes c) x = reason-told n 2 0 k c h (omega arith) (omega arith) hk

  reply-told : (r : Reply) → nibble_of r < 16 → count_of r < 65536 → reply_in (answer_of n k r) ≡ r
  unfolding reply_in
  reply-told Silence x c = rw (kind-told n 0 0 k 0 h (omega arith) (omega arith) hk)
  reply-told (Nibble y) x c = rw (kind-told n 1 y k 0 h (omega arith) x hk, nibble-told n 1 y k 0 h (omega arith) x)
  reply-told (Bytes b) x c = rw (kind-told n 2 0 k b h (omega arith) (omega arith) hk, count-told n 2 0 k b h (omega arith) (omega arith) hk c)

pub answer-told : AnswerTold
answer-told n k r h hk x c = (number-told n k r h, reason-in n k h hk r x, reply-told n k h hk r x c)
