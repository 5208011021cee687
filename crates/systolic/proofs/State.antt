-- The words of a state, taken apart again.
use Prim.Native.Nat.{ℕ, suc, ◌+◌, ◌*◌}
use native.Mathlib.Omega.{arith}
use native.Mathlib.Nat.{le_of_eq}
use mathlib.Core.Path.{◌≡◌, refl, ap, ◌∙◌}
use mathlib.Core.List.{◌++◌}
use lib.ListN.{length, take, drop, length-append}
use lib.Seq.{take_at, drop_at, take_all, drop-append-add}
use Rattle.systolic.specs.Cell.{Planes, Sized}
use Rattle.systolic.specs.State.{state_words, plane_of, planes_of, state_length}

module _ (order count tick : ℕ) (r : Planes) (sized : Sized order r) where
  pub state_words_length : length (state_words order count tick r) ≡ state_length order
  state_words_length =
      omega (arith, length-append r.c (r.a ++ r.b), length-append r.a r.b, sized.c, sized.a, sized.b)

  plane_at : (m n : ℕ) → m * (order * order) ≡ n
      → plane_of m (state_words order count tick r) ≡ take (order * order) (drop n (r.c ++ (r.a ++ r.b)))
  plane_at m n e =
      let f : 4 + m * (order * order) ≡ suc (suc (suc (suc n))) = omega arith in
      rw f

  pub planes_of_state_words : planes_of (state_words order count tick r) ≡ r
  planes_of_state_words =
      let c : plane_of 0 (state_words order count tick r) ≡ r.c =
      plane_at 0 0 (omega arith) ∙ take_at r.c (r.a ++ r.b) (order * order) sized.c in
      let a : plane_of 1 (state_words order count tick r) ≡ r.a =
      plane_at 1 (length r.c) (omega (arith, sized.c))
      ∙ ap (take (order * order)) (drop_at r.c (r.a ++ r.b) (length r.c) refl)
      ∙ take_at r.a r.b (order * order) sized.a in
      let b : plane_of 2 (state_words order count tick r) ≡ r.b =
      plane_at 2 (length r.c + length r.a) (omega (arith, sized.c, sized.a))
      ∙ ap (take (order * order)) (drop-append-add r.c (r.a ++ r.b) (length r.a) ∙ drop_at r.a r.b (length r.a) refl)
      ∙ take_all (order * order) r.b (le_of_eq sized.b) in
      λ x. record { c = c x; a = a x; b = b x }
