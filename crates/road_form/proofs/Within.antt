-- A numeral taken from a text, seen in the line that stands at the text's beginning.
use Prim.Native.Nat.{ℕ, zero, suc, ◌+◌, ◌-◌, ◌<◌, ◌≤◌}
use Prim.Native.Char.{code}
use native.Mathlib.Omega.{arith}
use native.Mathlib.Decide.{dec_lt, ℕ_discrete}
use mathlib.Core.Path.{◌≡◌, sym, ap, subst, ◌∙◌}
use mathlib.Core.Logic.{◌≢◌}
use mathlib.Core.List.{List}
use lib.ListN.{length, get_or, take, drop}
use lib.Seq.{get_or-take, get_or-drop, ext_get_or, length-take-le}
use Rattle.std.proofs.Common.{Option, Some, None}
use Rattle.text.specs.Numeral.{decimal}
use Rattle.text.specs.inner.Scan.{between, Until, Unspaced}
use Rattle.text.proofs.Cuts.{width}
use Rattle.text.proofs.Walks.{Spaces, spaces_none, spaces_one}
use Rattle.road_form.specs.declared.numbers.Number.{Number}
use Rattle.road_form.specs.inner.Numbers.{Takes, TakenFrom, Ended}
use Rattle.road_form.proofs.Digits.{Counted, taken_space, taken_end, other_none, other_below, other_above, other_long}

-- spaces, byte by byte
spaces_run : (from : ℕ) (l : List ℕ) (n : ℕ) → from + n ≤ length l → ((q : ℕ) → from ≤ q → q < from + n → get_or l q 0 ≡ code " ") → Spaces from l (from + n)
spaces_run from l zero h each = let z : from + 0 ≡ from = omega arith in rw z spaces_none
spaces_run from l (suc n) h each =
    let z : from + suc n ≡ from + n + 1 = omega arith in
    rw z (spaces_one (spaces_run from l n (omega arith) (λ q a b. each q a (omega arith))) (omega arith) (each (from + n) (omega arith) (omega arith)))

module _ {text : List ℕ} {e : ℕ} (u : Until (code "\n") 0 text e) where
  abbrev line : List ℕ
  line = take e text

  pub line_length : length line ≡ e
  line_length = length-take-le e text (omega (arith, u.most))

  pub line_byte : (q : ℕ) → q < e → get_or line q 0 ≡ get_or text q 0
  line_byte q h = get_or-take e text q 0 h

  -- a byte that is no LF is the line's
  pub inside : (q : ℕ) → q ≤ e → q < length text → get_or text q 0 ≢ code "\n" → q < e
  inside q h k other = by (ℕ_discrete q e)
    where
      by : Dec (q ≡ e) → q < e
      by (yes z) = absurd (other (ap (λ (x : ℕ). get_or text x 0) z ∙ u.stands (omega arith)))
      by (no z) = omega arith

  -- an LF that is not past the line's end is its end
  pub at-end : (q : ℕ) → q ≤ e → get_or text q 0 ≡ code "\n" → q ≡ e
  at-end q h f = by (ℕ_discrete q e)
    where
      by : Dec (q ≡ e) → q ≡ e
      by (yes z) = z
      by (no z) = absurd (u.free q (omega arith) (omega arith) f)

  module _ {from start value at : ℕ} (c : Counted text from start value at) (before : from ≤ e) where
    not_past : at ≤ e
    not_past = by (dec_lt e at)
      where
        in-spaces : e < start → ⊥
        in-spaces h =
            let s : get_or text e 0 ≡ 32 = c.spaces.each e before h in
            let f : get_or text e 0 ≡ 10 = u.stands (omega (arith, c.spaces.most, c.spaces.least)) in
            omega arith

        in-digits : start ≤ e → e < at → ⊥
        in-digits h k =
            let (low, high) = c.each e h k in
            let f : get_or text e 0 ≡ 10 = u.stands (omega (arith, c.most)) in
            omega arith

        by : Dec (e < at) → at ≤ e
        by (no k) = omega arith
        by (yes k) = which (dec_lt e start)
          where
            which : Dec (e < start) → at ≤ e
            which (yes h) = absurd (in-spaces h)
            which (no h) = absurd (in-digits (omega arith) k)

    counted_line : Counted line from start value at
    counted_line = record {
      spaces = unspaced;
      least = c.least;
      most = omega (arith, not_past, line_length);
      short = c.short;
      each = λ q h k. rw (line_byte q (omega (arith, not_past))) (c.each q h k);
      number = c.number ∙ ap (decimal 0) (sym same_bytes);
      bound = c.bound;
    }
      where
        run : Spaces from line start
        run =
            let z : from + (start - from) ≡ start = omega (arith, c.spaces.least) in
            subst (Spaces from line) z
            (spaces_run from line (start - from) (omega (arith, line_length, not_past, c.least, c.spaces.least))
            (λ q h k. line_byte q (omega (arith, not_past, c.least, c.spaces.least)) ∙ c.spaces.each q h (omega (arith, c.spaces.least))))

        unspaced : Unspaced from line start
        unspaced = record {
          least = run.least;
          most = run.most;
          each = run.each;
          other = λ h f. let k : start < e = omega (arith, line_length) in c.spaces.other (omega (arith, u.most)) (sym (line_byte start k) ∙ f);
          same_parts = run.same_parts;
        }

        in-line : length (between start at line) ≡ at - start
        in-line = width (code " ") start at line c.least (omega (arith, not_past, line_length)) (omega (arith, not_past, line_length, c.least))

        in-text : length (between start at text) ≡ at - start
        in-text = width (code " ") start at text c.least c.most (omega (arith, not_past, u.most, c.least))

        same_bytes : between start at line ≡ between start at text
        same_bytes =
            ext_get_or 0 (between start at line) (between start at text) (in-line ∙ sym in-text)
            (λ i h.
            let k : i < at - start = omega (arith, in-line) in
            get_or-take (at - start) (drop start line) i 0 k
            ∙ get_or-drop start line i 0
            ∙ line_byte (start + i) (omega (arith, not_past))
            ∙ sym (get_or-take (at - start) (drop start text) i 0 k ∙ get_or-drop start text i 0))

-- where the walk ends
module _ {text : List ℕ} {from start value at : ℕ} (c : Counted text from start value at) where
  module _ (h : at < length text) where
    -- at a byte that is no LF
    at_byte : {r : Option Number} → get_or text at 0 ≢ code "\n"
        → ((e : ℕ) → Counted (take e text) from start value at → at < length (take e text) → get_or (take e text) at 0 ≡ get_or text at 0 → Takes (take e text) from r)
        → TakenFrom text from r
    at_byte other law = record {
      takes = λ e u before.
          let k : at < e = inside u at (not_past u c before) h other in
          law e (counted_line u c before) (omega (arith, line_length u)) (line_byte u at k);
    }

    pub number_spaced : get_or text at 0 ≡ code " " → TakenFrom text from (Some (record { value = value; end = at }))
    number_spaced f = at_byte (λ z. omega arith) (λ e d k b. taken_space d k (b ∙ f))

    pub other_low : get_or text at 0 < 48 → get_or text at 0 ≢ code " " → get_or text at 0 ≢ code "\n" → TakenFrom text from None
    other_low low no_space no_end = at_byte no_end (λ e d k b. other_below d k (rw b low) (λ z. no_space (sym b ∙ z)))

    pub other_high : 57 < get_or text at 0 → TakenFrom text from None
    other_high high = at_byte (λ z. omega arith) (λ e d k b. other_above d k (rw b high))

    pub other_eleventh : 48 ≤ get_or text at 0 → 10 ≤ at - start → TakenFrom text from None
    other_eleventh low many = at_byte (λ z. omega arith) (λ e d k b. other_long d k (rw b low) many)

  -- at the end of the line
  ended_line : {r : Option Number} → Ended start at value r → (e : ℕ) → Counted (take e text) from start value at → length (take e text) ≤ at → Takes (take e text) from r
  ended_line {r} n e d h = by (dec_lt start at)
    where
      by : Dec (start < at) → Takes (take e text) from r
      by (yes k) = rw (n.some k) (taken_end d h k)
      by (no k) = rw (n.none (omega arith)) (other_none d h (omega arith))

  pub ended_at_lf : {r : Option Number} → get_or text at 0 ≡ code "\n" → Ended start at value r → TakenFrom text from r
  ended_at_lf f n = record {
    takes = λ e u before.
        let z : at ≡ e = at-end u at (not_past u c before) f in
        ended_line n e (counted_line u c before) (omega (arith, line_length u));
  }

  ended_at_end : {r : Option Number} → length text ≤ at → Ended start at value r → TakenFrom text from r
  ended_at_end h n = record {
    takes = λ e u before. ended_line n e (counted_line u c before) (omega (arith, line_length u, u.most));
  }

  pub ended_with_text : {r : Option Number} → length text ≤ at → Ended start (length text) value r → TakenFrom text from r
  ended_with_text {r} h n = ended_at_end h (record { some = some; none = λ k. n.none (omega arith) })
    where
      some : start < at → r ≡ Some (record { value = value; end = at })
      some k = let z : at ≡ length text = omega (arith, c.most) in rw z (n.some (omega (arith, c.most)))
