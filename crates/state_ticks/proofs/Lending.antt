-- A run's ticks in the state's own planes: over plain lists, what each place of that code asks and leaves.
use Prim.Native.Nat.{ℕ, ◌+◌, ◌-◌, ◌*◌, ◌≤◌}
use native.Mathlib.Omega.{arith}
use mathlib.Core.Path.{◌≡◌, refl, sym, ap, ap₂, ◌∙◌}
use mathlib.Core.List.{List, [], ◌∷◌, ◌++◌, append-nil}
use lib.ListN.{length, take, drop, take-append-drop, length-drop}
use lib.Seq.{drop-drop, length-take-le, take_all}
use Rattle.memory.specs.Lists.{replaced}
use Rattle.memory.proofs.Part.{part_length, replaced_seam}
use Rattle.job_list.specs.Jobs.{jobs_of}
use Rattle.systolic.specs.Cell.{Planes}
use Rattle.systolic.specs.Tick.{Array, ticks}
use Rattle.systolic.specs.State.{state_words, order_of, count_of, tick_of, planes_of}
use Rattle.turns.specs.Layout.{plane_in, planes_in}
use Rattle.ticks.specs.Ready.{array_of, Ready}
use Rattle.state_header.specs.declared.Header.{Header}
use Rattle.state_header.specs.inner.Header.{headed}
use Rattle.state_ticks.specs.inner.Runnable.{Runnable, RunLeft, made_array}

-- a header over four words and the rest
headed_front : (h : Header) (four rest : List ℕ) → length four ≡ 4
    → headed h (four ++ rest) ≡ h.order ∷ 0 ∷ h.count ∷ h.tick ∷ rest
headed_front h [] rest e = absurd (omega arith)
headed_front h (x ∷ []) rest e = absurd (omega arith)
headed_front h (x ∷ y ∷ []) rest e = absurd (omega arith)
headed_front h (x ∷ y ∷ z ∷ []) rest e = absurd (omega arith)
headed_front h (x ∷ y ∷ z ∷ w ∷ []) rest e = refl
headed_front h (x ∷ y ∷ z ∷ w ∷ v ∷ four) rest e = absurd (omega arith)

-- The header once `made` ticks more are made.
abbrev pub after : Header → ℕ → Header
after h made = record { order = h.order; count = h.count; tick = h.tick + made }

-- planes one after another are the whole memory
planes_joined : (n : ℕ) (l : List ℕ) → length l ≡ 3 * (n * n) → plane_in n 0 l ++ (plane_in n 1 l ++ plane_in n 2 l) ≡ l
planes_joined n l size =
    let area : ℕ = n * n in
    let none : 0 * area ≡ 0 = omega arith in
    let one : 0 * area + area ≡ 1 * area = omega arith in
    let two : 1 * area + area ≡ 2 * area = omega arith in
    let last : take area (drop (2 * area) l) ≡ drop (2 * area) l =
    take_all area (drop (2 * area) l) (omega (arith, length-drop (2 * area) l)) in
    ap (λ (x : List ℕ). plane_in n 0 l ++ (plane_in n 1 l ++ x)) (last ∙ ap (λ (m : ℕ). drop m l) (sym two) ∙ sym (drop-drop area (1 * area) l))
    ∙ ap (λ (x : List ℕ). plane_in n 0 l ++ x)
    (take-append-drop area (drop (1 * area) l) ∙ ap (λ (m : ℕ). drop m l) (sym one) ∙ sym (drop-drop area (0 * area) l))
    ∙ take-append-drop area (drop (0 * area) l)
    ∙ ap (λ (m : ℕ). drop m l) none

-- the state from its fourth word on, as it is lent, and the state once that holds other words
abbrev pub lent : List ℕ → List ℕ
lent state = take (length state - 4) (drop 4 state)

module _ (state : List ℕ) (long : 4 ≤ length state) where
  lent_rest : lent state ≡ drop 4 state
  lent_rest = take_all (length state - 4) (drop 4 state) (omega (arith, length-drop 4 state))

  planes_lent : (n : ℕ) → order_of state ≡ n → planes_in n (lent state) ≡ planes_of state
  planes_lent n order =
      rw order
      (ap (planes_in n) lent_rest
      ∙ (λ x. record { c = plane 0 x; a = plane 1 x; b = plane 2 x }))
    where
      plane : (m : ℕ) → plane_in n m (drop 4 state) ≡ take (n * n) (drop (4 + m * (n * n)) state)
      plane m = ap (take (n * n)) (drop-drop (m * (n * n)) 4 state)

  put_back : (new : List ℕ) → replaced 4 (length state - 4) new state ≡ take 4 state ++ new
  put_back new =
      ap (replaced 4 (length state - 4) new) (sym (take-append-drop 4 state) ∙ ap (λ (x : List ℕ). take 4 state ++ x) (sym (append-nil (drop 4 state))))
      ∙ replaced_seam 4 (length state - 4) (take 4 state) (drop 4 state) [] new (length-take-le 4 state long) (length-drop 4 state)
      ∙ ap (λ (x : List ℕ). take 4 state ++ x) (append-nil new)

module _ {h : Header} {made : ℕ} {algebras sizes weights scratch state results : List ℕ}
    (fit : Runnable h made algebras sizes weights scratch state results) where
  pub state_long : 4 ≤ length state
  state_long = omega (arith, fit.state_fits)

  order_is : order_of state ≡ h.order
  order_is = sym (ap (λ (k : Header). k.order) fit.header)

  pub ready : Ready (jobs_of algebras h.order sizes weights) (h.tick + made) scratch (lent state) results
  ready = record {
    list = fit.list;
    weights_fit = fit.weights_fit;
    edges_fit = fit.scratch_fits;
    planes_fit = part_length 4 (length state - 4) state (omega (arith, state_long)) ∙ omega (arith, fit.state_fits);
    results_fit = fit.results_fit;
    ticks = fit.ticks_left;
  }

  -- the ticks made of the planes as they are lent
  array_made : {m : Array} → m ≡ ticks (jobs_of algebras h.order sizes weights) h.tick (h.tick + made - h.tick) (array_of h.order (lent state) results)
      → m ≡ made_array made algebras sizes weights state results
  array_made e =
      let count : h.tick + made - h.tick ≡ made = omega arith in
      e
      ∙ ap (λ (k : ℕ). ticks (jobs_of algebras h.order sizes weights) h.tick k (array_of h.order (lent state) results)) count
      ∙ ap (λ (p : Planes). ticks (jobs_of algebras h.order sizes weights) h.tick made (record { planes = p; results = results }))
      (planes_lent state state_long h.order order_is)
      ∙ ap (λ (k : Header). ticks (jobs_of algebras k.order sizes weights) k.tick made (record { planes = planes_of state; results = results })) fit.header

  -- and the next header before them
  pub run_left : (planes : List ℕ) {results' stored : List ℕ} {next : Header} → length planes ≡ length (lent state)
      → array_of h.order planes results'
      ≡ ticks (jobs_of algebras h.order sizes weights) h.tick (h.tick + made - h.tick) (array_of h.order (lent state) results)
      → next ≡ after h made → stored ≡ headed next (replaced 4 (length state - 4) planes state)
      → RunLeft made algebras sizes weights state results stored results'
  run_left planes same ticked is_next is_stored =
      let Made-so = array_made ticked in
      record {
        state_left =
            is_stored
            ∙ ap₂ headed is_next (put_back state state_long planes)
            ∙ headed_front (after h made) (take 4 state) planes (length-take-le 4 state state_long)
            ∙ ap (λ (k : Header). k.order ∷ 0 ∷ k.count ∷ (k.tick + made) ∷ planes) fit.header
            ∙ ap (λ (l : List ℕ). order_of state ∷ 0 ∷ count_of state ∷ (tick_of state + made) ∷ l)
            (sym (planes_joined h.order planes (same ∙ ready.planes_fit)))
            ∙ ap (λ (m : Array). state_words (order_of state) (count_of state) (tick_of state + made) m.planes) Made-so;
        results_left = ap (λ (m : Array). m.results) Made-so;
      }
