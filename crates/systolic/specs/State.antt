-- Document 01, "Start and run": the words of a state, and the ticks of a whole list.
use Rattle.std.specs.Prelude.{ℕ, ◌+◌, ◌-◌, ◌*◌, List, ◌∷◌, ◌++◌, get_or, take, drop}
use Rattle.systolic.specs.Cell.{Planes}

-- "State words: N, algebra, Q, tick, then planes c, a, b of N times N words, row by row." Request K8: "The algebra leaves the state's
-- second word, which must be 0".
abbrev pub state_words : ℕ → ℕ → ℕ → Planes → List ℕ
state_words order count tick r = order ∷ 0 ∷ count ∷ tick ∷ (r.c ++ (r.a ++ r.b))

abbrev pub order_of : List ℕ → ℕ
order_of state = get_or state 0 0

abbrev pub second_of : List ℕ → ℕ
second_of state = get_or state 1 0

abbrev pub count_of : List ℕ → ℕ
count_of state = get_or state 2 0

abbrev pub tick_of : List ℕ → ℕ
tick_of state = get_or state 3 0

-- Plane 0, 1 or 2 of a state.
abbrev pub plane_of : ℕ → List ℕ → List ℕ
plane_of m state = let area = order_of state * order_of state in take area (drop (4 + m * area) state)

abbrev pub planes_of : List ℕ → Planes
planes_of state = record { c = plane_of 0 state; a = plane_of 1 state; b = plane_of 2 state }

abbrev pub state_length : ℕ → ℕ
state_length order = 4 + 3 * (order * order)

-- "A run must work with 2N words of scratch" (document 02, K5; document 01 had 2N²)
abbrev pub scratch_length : ℕ → ℕ
scratch_length order = 2 * order

-- "4NQ + 2N - 2"
abbrev pub total : ℕ → ℕ → ℕ
total order count = 4 * order * count + 2 * order - 2
