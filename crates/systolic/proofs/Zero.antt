-- Zero ticks: the state's words are its header and its planes, so writing them again changes nothing.
use Prim.Native.Nat.{ℕ, suc, ◌+◌, ◌*◌, ◌≤◌}
use native.Mathlib.Nat.{add-zero}
use native.Mathlib.Omega.{arith}
use mathlib.Core.Path.{◌≡◌, refl, sym, ap, ◌∙◌}
use mathlib.Core.List.{List, [], ◌∷◌, ◌++◌}
use mathlib.Core.Bool.{false}
use lib.ListN.{length, take, drop, take-append-drop, length-drop}
use lib.Seq.{drop-drop, take_all}
use Rattle.refusals.proofs.First.{none_applied}
use Rattle.systolic.specs.Tick.{ticks}
use Rattle.systolic.specs.State.{state_words, order_of, second_of, count_of, tick_of, planes_of, state_length}
use Rattle.systolic.specs.Run.{bad_state, run_table, ran_on, ran, ticks_made}
use Rattle.systolic.specs.claims.Zero.{Untouched, ZeroTicks}
use Rattle.systolic.proofs.Fit.{state_fits}

-- a list of three times as many words, in three parts
thirds : (area : ℕ) (l : List ℕ) → length l ≡ 3 * area
    → take area l ++ (take area (drop area l) ++ take area (drop (area + area) l)) ≡ l
thirds area l long =
    let last : take area (drop (area + area) l) ≡ drop (area + area) l =
    take_all area (drop (area + area) l) (omega (arith, length-drop (area + area) l)) in
    ap (λ (t : List ℕ). take area l ++ (take area (drop area l) ++ t)) (last ∙ sym (drop-drop area area l))
    ∙ ap (λ (t : List ℕ). take area l ++ t) (take-append-drop area (drop area l))
    ∙ take-append-drop area l

-- a state's words are its header and its planes
pub same_words : (state : List ℕ) → 4 ≤ length state → second_of state ≡ 0 → length state ≡ state_length (order_of state)
    → state_words (order_of state) (count_of state) (tick_of state) (planes_of state) ≡ state
same_words [] h zero long = absurd (omega arith)
same_words (n ∷ []) h zero long = absurd (omega arith)
same_words (n ∷ z ∷ []) h zero long = absurd (omega arith)
same_words (n ∷ z ∷ q ∷ []) h zero long = absurd (omega arith)
same_words (n ∷ z ∷ q ∷ t ∷ l) h zero long =
    let e₀ : 4 + 0 * (n * n) ≡ suc (suc (suc (suc 0))) = omega arith in
    let e₁ : 4 + 1 * (n * n) ≡ suc (suc (suc (suc (n * n)))) = omega arith in
    let e₂ : 4 + 2 * (n * n) ≡ suc (suc (suc (suc (n * n + n * n)))) = omega arith in
    rw (e₀, e₁, e₂, zero) (ap (λ (w : List ℕ). n ∷ 0 ∷ q ∷ t ∷ w) (thirds (n * n) l (omega arith)))

module _ (state algebras sizes weights : List ℕ) (allowance : ℕ) (scratch results : List ℕ) where
  accepted : bad_state state ≡ false → ticks_made state allowance ≡ 0
      → Untouched state scratch results (ran_on state algebras sizes weights allowance scratch results)
  unfolding ran_on ticks
  accepted good none =
      let fits = state_fits state good in
      record {
        number = refl;
        state_kept =
            rw (none, add-zero (tick_of state))
            (same_words state fits.long fits.second fits.length_fits);
        results_kept = rw none refl;
        scratch_zero = refl;
      }

pub zero_ticks : ZeroTicks
unfolding ran ran_on
zero_ticks state algebras sizes weights allowance scratch results e none =
    let good =
    (none_applied ((bad_state state, 10) ∷ run_table (order_of state) (count_of state) algebras sizes weights scratch results) refl e).0 in
    rw e (accepted state algebras sizes weights allowance scratch results good (rw e at none))
