-- A walk over the digits of a part: what holds after each, and what the part is where the walk ends.
use Prim.Native.Nat.{ℕ, zero, suc, ◌+◌, ◌*◌, ◌-◌, ◌^◌, ◌<◌, ◌≤◌, max}
use Prim.Native.Char.{code}
use native.Mathlib.Nat.{pow-succ', pow-le-pow_right}
use native.Mathlib.Omega.{arith}
use native.Mathlib.Decide.{dec_lt, ℕ_discrete}
use mathlib.Core.Path.{◌≡◌, refl, sym, ap, ◌∙◌}
use mathlib.Core.Logic.{inl, inr}
use mathlib.Core.List.{List, [], ◌∷◌, ◌++◌, map}
use mathlib.Core.Bool.{true, false, not, and-false}
use lib.ListN.{length, get_or, take, drop, length-drop}
use lib.Seq.{take-suc, get_or-take, get_or-drop}
use mir.Syntax.{w64}
use mir.Val.{Fits}
use Rattle.refusals.specs.Tests.{outside}
use Rattle.refusals.proofs.First.{above, within}
use Rattle.std.proofs.Common.{Some, None}
use Rattle.std.specs.Int.{IsInRange, IsOutOfRange}
use Rattle.text.specs.Numeral.{digits, decimal}
use Rattle.text.specs.Pieces.{bytes_of}
use Rattle.text.specs.inner.Scan.{between, parts_from, Until, Unspaced}
use Rattle.text.proofs.Cuts.{below-from, width, found_here, parts_some, placed_end}
use Rattle.text.proofs.Digits.{digits_all, digits_not}
use Rattle.text.proofs.Walks.{Passed, passed_one, passed_found, passed_all}
use Rattle.road_form.specs.Forms.{is_numeral}
use Rattle.road_form.specs.inner.Numbers.{first_is, NumberAt, Takes}

decimal_more : (v : ℕ) (p : List ℕ) (b : ℕ) → decimal v (p ++ (b ∷ [])) ≡ 10 * decimal v p + (b - 48)
unfolding decimal
decimal_more v [] b = refl
decimal_more v (c ∷ p) b = decimal_more (10 * v + (c - 48)) p b

-- the next byte `end`, from a place that no such byte stands before
module _ (end from : ℕ) (l : List ℕ) where
  abbrev pub EndFrom : ℕ → Type 0
  EndFrom at = (r : ℕ) × ((at ≤ r) × Until end from l r)

  pub next-end : (n at : ℕ) → Passed end from l at → length l ≤ at + n → EndFrom at
  next-end zero at p h = (at, (omega arith, passed_all p (omega arith)))
  next-end (suc n) at p h =
      by (dec_lt at (length l)) (ℕ_discrete (get_or l at 0) end) (λ k e. next-end n (at + 1) (passed_one p k e) (omega arith))
    where
      by : Dec (at < length l) → Dec (get_or l at 0 ≡ end) → (at < length l → (get_or l at 0 ≡ end → ⊥) → EndFrom (at + 1)) → EndFrom at
      by (no k) d later = (at, (omega arith, passed_all p (omega arith)))
      by (yes k) (yes e) later = (at, (omega arith, passed_found p e))
      by (yes k) (no e) later = let (r, (least, found)) = later k e in (r, (omega arith, found))

-- `next_number`: digits so far, and their number
pub record Counted (line : List ℕ) (from start value at : ℕ) : Type 0 where
  pub spaces : Unspaced from line start
  pub least : start ≤ at
  pub most : at ≤ max start (length line)
  pub short : at ≤ start + 10
  pub each : (q : ℕ) → start ≤ q → q < at → IsInRange 48 57 (get_or line q 0)
  pub number : value ≡ decimal 0 (between start at line)
  pub bound : value + 1 ≤ 10 ^ (at - start)

module _ {line : List ℕ} {from start : ℕ} where
  pub counted_none : Unspaced from line start → Counted line from start 0 start
  unfolding decimal
  counted_none u =
      let z : start - start ≡ 0 = omega arith in
      record {
        spaces = u;
        least = omega arith;
        most = omega arith;
        short = omega arith;
        each = λ q h k. absurd (omega arith);
        number = rw z;
        bound = rw z (omega arith);
      }

  module _ {value at : ℕ} (c : Counted line from start value at) where
    -- a digit more
    below : at - start < 10 → value ≤ 9999999999
    below h =
        let k : 10 ^ (at - start) ≤ 10 ^ 9 = pow-le-pow_right {n = 10} (omega arith) {i = at - start} {j = 9} (omega arith) in
        omega (arith, c.bound)

    pub tenfold_fits : at - start < 10 → Fits w64 (10 * value)
    tenfold_fits h = omega (arith, below h)

    pub sum_fits : {d : ℕ} → at - start < 10 → d ≤ 255 → Fits w64 (10 * value + d)
    sum_fits h small = omega (arith, below h)

    pub counted_one : {d : ℕ} → d ≡ get_or line at 0 - 48 → at < length line → 48 ≤ get_or line at 0 → get_or line at 0 ≤ 57 → at - start < 10
        → Counted line from start (10 * value + d) (at + 1)
    counted_one {d} is h low high few = record {
      spaces = c.spaces;
      least = omega (arith, c.least);
      most = omega arith;
      short = omega (arith, c.least);
      each = below-from (λ q. IsInRange 48 57 (get_or line q 0)) at c.each (low, high);
      number = rw is more;
      bound = rw is (omega (arith, c.bound, power));
    }
      where
        width_more : at + 1 - start ≡ suc (at - start)
        width_more = omega (arith, c.least)

        power : 10 ^ (at + 1 - start) ≡ 10 * 10 ^ (at - start)
        power = rw width_more (pow-succ' 10 (at - start))

        inside : at - start < length (drop start line)
        inside = rw (length-drop start line) (omega (arith, c.least))

        byte : get_or (drop start line) (at - start) 0 ≡ get_or line at 0
        byte = let e : start + (at - start) ≡ at = omega (arith, c.least) in get_or-drop start line (at - start) 0 ∙ ap (λ (q : ℕ). get_or line q 0) e

        more : 10 * value + (get_or line at 0 - 48) ≡ decimal 0 (between start (at + 1) line)
        more =
            sym
            (ap (λ (w : ℕ). decimal 0 (take w (drop start line))) width_more
            ∙ ap (decimal 0) (take-suc (drop start line) (at - start) 0 inside)
            ∙ decimal_more 0 (between start at line) (get_or (drop start line) (at - start) 0)
            ∙ ap (λ (b : ℕ). 10 * decimal 0 (between start at line) + (b - 48)) byte
            ∙ ap (λ (v : ℕ). 10 * v + (get_or line at 0 - 48)) (sym c.number))

    passed : Passed (code " ") start line at
    passed = record { least = c.least; most = c.most; free = λ q h k e. let (low, high) = c.each q h k in omega arith }

    -- the part ends here
    number_here : start < at → Until (code " ") start line at → NumberAt line from value at
    number_here some u = record {
      part = between start at line;
      parts = parts_some (found_here c.spaces u) some;
      numeral = rw (within 1 10 (length (between start at line)) (rw wide (omega arith)) (rw wide (omega (arith, c.short)))) each_digit;
      number = c.number;
      within = omega (arith, c.most);
      closed = λ e. let (low, high) = c.each (at - 1) (omega arith) (omega arith) in omega arith;
    }
      where
        wide : length (between start at line) ≡ at - start
        wide = width (code " ") start at line c.least c.most (omega (arith, c.most))

        each_digit : digits (between start at line) ≡ true
        each_digit =
            digits_all (between start at line)
            (λ i h.
            let k : i < at - start = rw wide at h in
            rw (get_or-take (at - start) (drop start line) i 0 k, get_or-drop start line i 0) (c.each (start + i) (omega arith) (omega arith)))

    taken : NumberAt line from value at → Takes line from (Some (record { value = value; end = at }))
    taken n = record {
      some = λ m q. let a : value ≡ m.value = cc in let b : at ≡ m.end = cc in rw (← a, ← b) n;
      none = λ q. cc;
    }

    other : first_is is_numeral (parts_from from line) ≡ false → Takes line from None
    other h = record { some = λ m q. cc; none = λ q. h }

    pub taken_space : at < length line → get_or line at 0 ≡ code " " → Takes line from (Some (record { value = value; end = at }))
    taken_space h e = taken (number_here some (passed_found passed e))
      where
        some : start < at
        some = by (ℕ_discrete start at)
          where
            by : Dec (start ≡ at) → start < at
            by (yes q) = absurd (c.spaces.other (omega arith) (rw q e))
            by (no q) = omega (arith, c.least)

    pub taken_end : length line ≤ at → start < at → Takes line from (Some (record { value = value; end = at }))
    taken_end h some = taken (number_here some (passed_all passed h))

    -- no part, or one that is no numeral
    pub other_none : length line ≤ at → at ≤ start → Takes line from None
    other_none h k = other (rw (ap (map bytes_of) (c.spaces.same_parts ∙ placed_end start line (omega arith))))

    module _ (h : at < length line) (unspaced : get_or line at 0 ≡ code " " → ⊥) where
      other_part : ((p : List ℕ) → at - start < length p → get_or p (at - start) 0 ≡ get_or line at 0 → is_numeral p ≡ false) → Takes line from None
      other_part unlike =
          let (e, (past, u)) = next-end (code " ") start line (length line) (at + 1) (passed_one passed h unspaced) (omega arith) in
          other (rw (parts_some (found_here c.spaces u) (omega (arith, c.least))) (unlike (between start e line) (wide e past u) (byte e past)))
        where
          wide : (e : ℕ) → at + 1 ≤ e → Until (code " ") start line e → at - start < length (between start e line)
          wide e past u = rw (width (code " ") start e line u.least u.most (omega (arith, c.least))) (omega (arith, c.least))

          byte : (e : ℕ) → at + 1 ≤ e → get_or (between start e line) (at - start) 0 ≡ get_or line at 0
          byte e past =
              let q : start + (at - start) ≡ at = omega (arith, c.least) in
              get_or-take (e - start) (drop start line) (at - start) 0 (omega (arith, c.least))
              ∙ get_or-drop start line (at - start) 0
              ∙ ap (λ (x : ℕ). get_or line x 0) q

      other_byte : IsOutOfRange 48 57 (get_or line at 0) → Takes line from None
      other_byte o = other_part (λ p k e. rw (digits_not p (at - start) k (rw e o)) (and-false (not (outside 1 10 (length p)))))

    module _ (h : at < length line) where
      pub other_below : get_or line at 0 < 48 → (get_or line at 0 ≡ code " " → ⊥) → Takes line from None
      other_below low unspaced = other_byte h unspaced (inl low)

      pub other_above : 57 < get_or line at 0 → Takes line from None
      other_above high = other_byte h (λ e. omega arith) (inr high)

      pub other_long : 48 ≤ get_or line at 0 → 10 ≤ at - start → Takes line from None
      other_long low many = other_part h (λ e. omega arith) (λ p k e. rw (above 1 10 (length p) (omega arith) (omega arith)))
