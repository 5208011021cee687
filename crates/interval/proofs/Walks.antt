-- The walk over two tables from one place on the diagonal to the next finds the links whose worst word betters the best one.
use Prim.Native.Nat.{ℕ, zero, suc, ◌+◌, ◌*◌, ◌-◌, ◌≤◌, ◌<◌, zero-le}
use native.Mathlib.Nat.{mul-le-mul_right}
use native.Mathlib.Numerals.{add-one}
use native.Mathlib.Decide.{dec_lt}
use native.Mathlib.Omega.{arith}
use mathlib.Core.Path.{◌≡◌, refl, sym, ap, ap₂, ◌∙◌}
use mathlib.Core.List.{List}
use mathlib.Core.Bool.{Bool, false, ◌||◌}
use lib.ListN.{length, get_or, take, drop, length-take, length-drop}
use mir.Syntax.{w64}
use mir.Val.{Fits}
use Rattle.memory.proofs.Geometry.{square_fits}
use Rattle.memory.proofs.Part.{part_length, part_word}
use Rattle.refusals.proofs.Conditions.{decides_as, same_decision}
use Rattle.semiring.specs.Algebra.{Betters, betters}
use Rattle.semiring.specs.declared.Algebra.{Algebra}
use Rattle.semiring.proofs.Betters.{decides_betters}
use Rattle.ranges.specs.Between.{Inverted}
use Rattle.ranges.specs.Tests.{some_below, inverted}
use Rattle.ranges.proofs.Inverted.{Below, decides_below, decides_inverted, below_alike}
use Rattle.interval.specs.inner.Compared.{Pair, some_betters}

some_suc : (m : ℕ) (test : ℕ → Bool) → (some_below m test || test m) ≡ some_below (m + 1) test
unfolding some_below
some_suc m test = rw (add-one m)

-- The loop that compares words place by place, where it has come to word p: `found` tells of the words passed.
pub record Comparing (a : Algebra) (words others : List ℕ) (p : ℕ) (found : Bool) : Type 0 where
  pub count : p ≤ length words
  pub long : length words ≡ length others
  pub seen : found ≡ some_below p (λ q. betters a (get_or words q 0) (get_or others q 0))

module _ {a : Algebra} {words others : List ℕ} where
  pub compare_begins : length words ≡ length others → Comparing a words others 0 false
  unfolding some_below
  compare_begins e = record { count = zero-le; long = e; seen = refl }

  module _ {p : ℕ} {found : Bool} (c : Comparing a words others p found) where
    pub compare_goes_on : {found' : Bool} (answer : Bool) → p < length words → answer ≡ betters a (get_or words p 0) (get_or others p 0)
        → found' ≡ (found || answer) → Comparing a words others (p + 1) found'
    compare_goes_on answer h told e = record {
      count = omega arith;
      long = c.long;
      seen = e ∙ ap₂ (λ (x y : Bool). x || y) c.seen told ∙ some_suc p (λ q. betters a (get_or words q 0) (get_or others q 0));
    }

    pub compare_ends : length words ≤ p → found ≡ some_betters a words others
    unfolding some_betters
    compare_ends h =
        let e : p ≡ length words = omega (arith, c.count) in
        c.seen ∙ ap (λ (m : ℕ). some_below m (λ q. betters a (get_or words q 0) (get_or others q 0))) e

-- The n words after the place (i, i): whether one of the worst table betters that of the best.
unfoldable pub stretch : Algebra → ℕ → List ℕ → List ℕ → ℕ → Bool
stretch a n best worst i = some_below n (λ q. betters a (get_or worst (i * n + i + 1 + q) 0) (get_or best (i * n + i + 1 + q) 0))

-- They lie inside the tables.
inside : (i n : ℕ) → i + 1 < n → i * n + i + 1 + n ≤ n * n
inside i n h = let rows : suc (suc i) * n ≤ n * n = mul-le-mul_right n (omega arith) in omega arith

-- The loop over the stretches, where it has come to the place (i, i).
pub record Walking (a : Algebra) (n : ℕ) (best worst : List ℕ) (i : ℕ) (found : Bool) : Type 0 where
  pub pair : Pair n best worst
  pub count : i ≤ n - 1
  pub seen : found ≡ some_below i (stretch a n best worst)

-- All stretches together are the links off the diagonal.
module _ (a : Algebra) (n : ℕ) (best worst : List ℕ) where
  abbrev At : ℕ → Type 0
  At p = Betters a (get_or worst p 0) (get_or best p 0)

  moved : (p p' : ℕ) → p ≡ p' → At p → At p'
  moved p p' e b = rw (← e) b

  abbrev Stretches : Type 0
  Stretches = Below (n - 1) (λ i. Below n (λ q. At (i * n + i + 1 + q)))

  inverted_to : Stretches → Inverted a n best worst
  inverted_to (i, h, (q, k, b)) = go (dec_lt (i + 1 + q) n)
    where
      go : Dec (i + 1 + q < n) → Inverted a n best worst
      go (yes m) = (i, i + 1 + q, omega arith, m, (λ e. omega arith), moved (i * n + i + 1 + q) (i * n + (i + 1 + q)) (omega arith) b)
      go (no m) = (
        i + 1,
        i + 1 + q - n,
        omega arith,
        omega arith,
        (λ e. omega arith),
        moved (i * n + i + 1 + q) ((i + 1) * n + (i + 1 + q - n)) (omega arith) b,
      )

  inverted_from : Inverted a n best worst → Stretches
  inverted_from (i, j, hi, hj, d, b) = go (dec_lt i j)
    where
      back : (i : ℕ) → i < n → j < i → At (i * n + j) → Stretches
      back zero hi h b = absurd (omega arith)
      back (suc i) hi h b =
          (i, omega arith, (n + j - suc i, omega arith, moved (suc i * n + j) (i * n + i + 1 + (n + j - suc i)) (omega arith) b))

      go : Dec (i < j) → Stretches
      go (yes h) = (i, omega arith, (j - i - 1, omega arith, moved (i * n + j) (i * n + i + 1 + (j - i - 1)) (omega arith) b))
      go (no h) = back i hi (omega (arith, d)) b

  stretches : some_below (n - 1) (stretch a n best worst) ≡ inverted a n best worst
  unfolding stretch
  stretches =
      same_decision
      (decides_as {P = Stretches} inverted_to inverted_from
      (decides_below (n - 1) _ _ (λ i hi. decides_below n _ _ (λ q hq. decides_betters a _ _))))
      (decides_inverted a n best worst)

module _ {a : Algebra} {n : ℕ} {best worst : List ℕ} where
  pub walk_begins : Pair n best worst → Walking a n best worst 0 false
  unfolding some_below
  walk_begins pair = record { pair = pair; count = zero-le; seen = refl }

  module _ {i : ℕ} {found : Bool} (c : Walking a n best worst i found) where
    pub next_room : Fits w64 (i + 1)
    next_room = omega (arith, c.count, c.pair.most)

    -- parts of one place and width are of one length
    pub parts_alike : (from w : ℕ) → length (take w (drop from worst)) ≡ length (take w (drop from best))
    parts_alike from w =
        let same : length worst ≡ length best = c.pair.worst_words ∙ sym c.pair.best_words in
        simp (length-take, length-drop) (rw same)

    -- the stretch's place
    module _ (h : i + 1 < n) where
      pub row_room : Fits w64 (i * n)
      row_room = omega (arith, inside i n h, square_fits c.pair.most)

      pub diagonal_room : Fits w64 (i * n + i)
      diagonal_room = omega (arith, inside i n h, square_fits c.pair.most)

      pub from_room : Fits w64 (i * n + i + 1)
      from_room = omega (arith, inside i n h, square_fits c.pair.most)

      pub to_room : Fits w64 (i * n + i + 1 + n)
      to_room = omega (arith, inside i n h, square_fits c.pair.most)

      pub bytes-room : Fits w64 ((i * n + i + 1) * 2)
      bytes-room = omega (arith, inside i n h, square_fits c.pair.most)

      pub best_inside : i * n + i + 1 + n ≤ length best
      best_inside = rw c.pair.best_words (inside i n h)

      pub worst_inside : i * n + i + 1 + n ≤ length worst
      worst_inside = rw c.pair.worst_words (inside i n h)

      -- what was found in it
      found_in : (answer : Bool) (from : ℕ) → from + n ≤ length best → from + n ≤ length worst
          → answer ≡ some_betters a (take n (drop from worst)) (take n (drop from best))
          → answer ≡ some_below n (λ q. betters a (get_or worst (from + q) 0) (get_or best (from + q) 0))
      unfolding some_betters
      found_in answer from b w told =
          told
          ∙ ap (λ (m : ℕ). some_below m (λ p. betters a (get_or (take n (drop from worst)) p 0) (get_or (take n (drop from best)) p 0))) (part_length from n worst w)
          ∙ below_alike n _ _ (λ q k. rw (part_word from n worst w q k, part_word from n best b q k))

      pub walk_goes_on : {found' : Bool} (answer : Bool)
          → answer
          ≡ some_betters a (take (i * n + i + 1 + n - (i * n + i + 1)) (drop (i * n + i + 1) worst))
          (take (i * n + i + 1 + n - (i * n + i + 1)) (drop (i * n + i + 1) best))
          → found' ≡ (found || answer) → Walking a n best worst (i + 1) found'
      unfolding stretch
      walk_goes_on answer told e =
          let width : i * n + i + 1 + n - (i * n + i + 1) ≡ n = omega arith in
          record {
            pair = c.pair;
            count = omega arith;
            seen =
                e
                ∙ ap₂ (λ (x y : Bool). x || y) c.seen (found_in answer (i * n + i + 1) best_inside worst_inside (rw width at told))
                ∙ some_suc i (stretch a n best worst);
          }

    pub walk_ends : n ≤ i + 1 → found ≡ inverted a n best worst
    walk_ends h =
        let e : i ≡ n - 1 = omega (arith, c.count) in
        c.seen ∙ ap (λ (m : ℕ). some_below m (stretch a n best worst)) e ∙ stretches a n best worst

pub ruleset bounds = (next_room, row_room, diagonal_room, from_room, to_room, bytes-room, best_inside, worst_inside)
