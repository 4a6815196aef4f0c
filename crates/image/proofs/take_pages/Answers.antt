-- `image::take_pages` meets its contract: a right image has the pages, and they are as long as the store.
-- Assumes nothing.
use mathlib.Core.Path.{◌≡◌, ap, ◌∙◌}
use Prim.Native.Nat.{ℕ, ◌-◌}
use native.Mathlib.Omega.{arith}
use lib.ListN.{length, take, drop, length-drop}
use lib.Seq.{sets, length-take-le}
use Rattle.model.specs.Map.{store_size}
use Rattle.model.specs.Image.{store_of}
use Rattle.model.proofs.Image.{right}
use Rattle.octets.proofs.Laid.{sets-all}
use Rattle.image.proofs.take_pages.Goals as goal

pub returns : goal.returns
unfolding store_of
returns c =
    let p = c in
    let m = p.args.map in
    let i = p.args.image.now in
    let s = p.args.store.now in
    let size = (right m i p.requires.image_value).size in
    let pages = take (store_size m) (drop 1 i) in
    let long : length pages ≡ store_size m = length-take-le (store_size m) (drop 1 i) (rw length-drop (omega arith)) in
    let end : c.counters_at-end.result - 1 ≡ store_size m = omega arith in
    c.lay.ensures ∙ ap (λ (k : ℕ). sets s 0 (take k (drop 1 i))) end ∙ sets-all s pages (omega arith)

pub slice_bounds-lay-end : goal.slice_bounds-lay-end
slice_bounds-lay-end c =
    let p = c in
    omega (arith, (right p.args.map p.args.image.now p.requires.image_value).size)
