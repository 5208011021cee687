-- Digits, parts and lines: what the readers' definitions make of bytes, both ways.
use Prim.Native.Nat.{ℕ, zero, suc, ◌+◌, ◌*◌, ◌-◌, ◌<◌, ◌≤◌}
use Prim.Native.Char.{code}
use native.Mathlib.Omega.{arith}
use native.Mathlib.Decide.{ℕ_discrete}
use mathlib.Core.Path.{◌≡◌, refl, sym, ap, ap₂, subst, ◌∙◌}
use mathlib.Core.Logic.{◌≢◌}
use mathlib.Core.List.{List, [], ◌∷◌, ◌++◌, map, append-nil}
use mathlib.Core.Bool.{Bool, true, false, not, ◌||◌}
use lib.ListN.{length}
use lib.Dec.{eqb, ltb}
use borrow.Author.Tests.{ne_eqb, ltb-false}
use Rattle.memory.proofs.Any.{both_true, both_false}
use Rattle.text.specs.Pieces.{Piece, pieced, cut, bytes_of, lines, parts}
use Rattle.text.specs.Numeral.{digits, decimal}
use Rattle.text.proofs.Runs.{first, later, parts_none, parts_space, parts_before, parts_byte, parts_alone, parts_two}
use Rattle.text.specs.claims.Spelling.{Digit, zero_digit, one, two, three, four, five, six, seven, eight, nine, Digits, no_more, digit, Run, byte, and}
use Rattle.text.specs.claims.Spelling.{Parted, ends, space, last, part, Lined, no_line, empty_line, last_line, line, Spelling}

-- A part is the only one of its own.
other_byte : {b : ℕ} → b ≢ code " " → eqb b (code " ") ≡ false
other_byte {b} h = ne_eqb b (code " ") h

parts_more : (b c : ℕ) (p : List ℕ) → b ≢ code " " → c ≢ code " " → parts (c ∷ p) ≡ (c ∷ p) ∷ [] → parts (b ∷ c ∷ p) ≡ (b ∷ c ∷ p) ∷ []
parts_more b c p h k e = parts_two b c p (other_byte h) (other_byte k) ∙ by (sym (parts_byte c p (other_byte k)) ∙ e)
  where
    by : ◌≡◌ {A = List (List ℕ)} ((c ∷ first p) ∷ later p) ((c ∷ p) ∷ []) → ◌≡◌ {A = List (List ℕ)} ((b ∷ c ∷ first p) ∷ later p) ((b ∷ c ∷ p) ∷ [])
    by e = let f : first p ≡ p = cc in let g : later p ≡ [] = cc in rw (f, g)

parts_part : {p : List ℕ} → Run (code " ") p → parts p ≡ p ∷ []
parts_part (byte {b} h) = parts_alone b (other_byte h)
parts_part (and {b} h (byte {b = c} k)) = parts_more b c [] h k (parts_alone c (other_byte k))
parts_part (and {b} h (and {b = c} {p} k q)) = parts_more b c p h k (parts_part (and k q))

pub parted_parts : {l : List ℕ} {ps : List (List ℕ)} → Parted l ps → parts l ≡ ps
parted_parts ends = parts_none
parted_parts (space {l} s) = parts_before l ∙ parted_parts s
parted_parts (last h) = parts_part h
parted_parts (part {p} {l} h s) = parts_space p l ∙ ap₂ (λ (x y : List (List ℕ)). x ++ y) (parts_part h) (parted_parts s)

run_and : {end : ℕ} {p : List ℕ} (c : ℕ) → Run end p → c ≢ end → Run end (p ++ (c ∷ []))
run_and c (byte h) k = and h (byte k)
run_and c (and h q) k = and h (run_and c q k)

append_one : (p : List ℕ) (c : ℕ) (l : List ℕ) → (p ++ (c ∷ [])) ++ l ≡ p ++ c ∷ l
append_one [] c l = refl
append_one (b ∷ p) c l = ap (λ (x : List ℕ). b ∷ x) (append_one p c l)

-- The bytes of a run that were passed, and what follows them.
data Passed (end : ℕ) : List ℕ → Type 0 where
  nothing : Passed end []
  some : {p : List ℕ} → Run end p → Passed end p

passed_and : {end : ℕ} {p : List ℕ} (c : ℕ) → Passed end p → c ≢ end → Passed end (p ++ (c ∷ []))
passed_and c nothing k = some (byte k)
passed_and c (some h) k = some (run_and c h k)

passed_space : {p : List ℕ} (l : List ℕ) → Passed (code " ") p → Parted l (parts l) → Parted (p ++ code " " ∷ l) (parts (p ++ code " " ∷ l))
passed_space l nothing s = rw (parts_before l) (space s)
passed_space l (some {p} h) s = rw (parts_space p l, parts_part h) (part h s)

passed_end : {p : List ℕ} → Passed (code " ") p → Parted (p ++ []) (parts (p ++ []))
passed_end nothing = rw parts_none ends
passed_end (some {p} h) = rw (append-nil p, parts_part h) (last h)

parted_after : {p : List ℕ} → Passed (code " ") p → (l : List ℕ) → Parted (p ++ l) (parts (p ++ l))
parted_after h [] = passed_end h
parted_after {p} h (c ∷ l) = at (ℕ_discrete c (code " ")) (parted_after nothing l) (λ k. parted_after (passed_and c h k) l)
  where
    at : Dec (c ≡ code " ") → Parted l (parts l) → ((c ≢ code " ") → Parted ((p ++ (c ∷ [])) ++ l) (parts ((p ++ (c ∷ [])) ++ l)))
        → Parted (p ++ c ∷ l) (parts (p ++ c ∷ l))
    at (yes e) s more = rw e (passed_space l h s)
    at (no k) s more = rw (← append_one p c l) (more k)

pub parts_parted : (l : List ℕ) {ps : List (List ℕ)} → parts l ≡ ps → Parted l ps
parts_parted l e = rw (← e) (parted_after nothing l)

-- Lines.
pieced_run : (at b : ℕ) (ps : List Piece) (p : List ℕ) (ls : List (List ℕ)) → map bytes_of ps ≡ p ∷ ls → map bytes_of (pieced false at b ps) ≡ (b ∷ p) ∷ ls
pieced_run at b [] p ls e = let z : 0 ≡ suc (length ls) = ap length e in absurd (omega arith)
pieced_run at b (q ∷ qs) p ls e =
    let here : q.bytes ≡ p = cc in
    let more : map bytes_of qs ≡ ls = cc in
    rw (here, more)

cut_byte : (end at b : ℕ) (t : List ℕ) (p : List ℕ) (ls : List (List ℕ)) → b ≢ end → map bytes_of (cut end (suc at) t) ≡ p ∷ ls
    → map bytes_of (cut end at (b ∷ t)) ≡ (b ∷ p) ∷ ls
unfolding cut
cut_byte end at b t p ls h e = rw (ne_eqb b end h) (pieced_run at b (cut end (suc at) t) p ls e)

cut_run : {end : ℕ} {l : List ℕ} → Run end l → (t : List ℕ) (ls : List (List ℕ)) → ((at : ℕ) → map bytes_of (cut end at t) ≡ [] ∷ ls)
    → (at : ℕ) → map bytes_of (cut end at (l ++ t)) ≡ l ∷ ls
cut_run {end} (byte {b} h) t ls e at = cut_byte end at b t [] ls h (e (suc at))
cut_run {end} (and {b} {p} h q) t ls e at = cut_byte end at b (p ++ t) p ls h (cut_run q t ls e (suc at))

cut_last : {end : ℕ} {l : List ℕ} → Run end l → (at : ℕ) → map bytes_of (cut end at l) ≡ l ∷ []
unfolding cut
cut_last {end} (byte {b} h) at = rw (ne_eqb b end h)
cut_last {end} (and {b} {p} h q) at = cut_byte end at b p p [] h (cut_last q (suc at))

cut_lined : {t : List ℕ} {ls : List (List ℕ)} → Lined t ls → (at : ℕ) → map bytes_of (cut (code "\n") at t) ≡ ls
unfolding cut
cut_lined no_line at = refl
cut_lined (empty_line r) at = ap (λ (x : List (List ℕ)). [] ∷ x) (cut_lined r (suc at))
cut_lined (last_line h) at = cut_last h at
cut_lined (line {l} {t} {ls} h r) at = cut_run h (code "\n" ∷ t) ls (λ i. ap (λ (x : List (List ℕ)). [] ∷ x) (cut_lined r (suc i))) at

pub lined_lines : {t : List ℕ} {ls : List (List ℕ)} → Lined t ls → lines t ≡ ls
unfolding lines
lined_lines r = cut_lined r 0

lined_end : {p : List ℕ} → Passed (code "\n") p → (ls : List (List ℕ)) × Lined (p ++ []) ls
lined_end nothing = ([], no_line)
lined_end (some {p} h) = (p ∷ [], rw (append-nil p) (last_line h))

lined_on : {p : List ℕ} (t : List ℕ) → Passed (code "\n") p → (ls : List (List ℕ)) × Lined t ls → (ls : List (List ℕ)) × Lined (p ++ code "\n" ∷ t) ls
lined_on t nothing (ls, r) = ([] ∷ ls, empty_line r)
lined_on t (some {p} h) (ls, r) = (p ∷ ls, line h r)

some_lines : {p : List ℕ} → Passed (code "\n") p → (t : List ℕ) → (ls : List (List ℕ)) × Lined (p ++ t) ls
some_lines h [] = lined_end h
some_lines {p} h (c ∷ t) = at (ℕ_discrete c (code "\n")) (some_lines nothing t) (λ k. some_lines (passed_and c h k) t)
  where
    at : Dec (c ≡ code "\n") → (ls : List (List ℕ)) × Lined t ls → ((c ≢ code "\n") → (ls : List (List ℕ)) × Lined ((p ++ (c ∷ [])) ++ t) ls)
        → (ls : List (List ℕ)) × Lined (p ++ c ∷ t) ls
    at (yes e) s more = rw e (lined_on t h s)
    at (no k) s more = rw (← append_one p c t) (more k)

pub lines_lined : (t : List ℕ) → Lined t (lines t)
lines_lined t = let (ls, r) = some_lines nothing t in subst (λ (x : List (List ℕ)). Lined t x) (sym (lined_lines r)) r

-- Digits.
digit_of : (k : ℕ) → k < 10 → Digit (48 + k) k
digit_of zero h = zero_digit
digit_of (suc zero) h = one
digit_of (suc (suc zero)) h = two
digit_of (suc (suc (suc zero))) h = three
digit_of (suc (suc (suc (suc zero)))) h = four
digit_of (suc (suc (suc (suc (suc zero))))) h = five
digit_of (suc (suc (suc (suc (suc (suc zero)))))) h = six
digit_of (suc (suc (suc (suc (suc (suc (suc zero))))))) h = seven
digit_of (suc (suc (suc (suc (suc (suc (suc (suc zero)))))))) h = eight
digit_of (suc (suc (suc (suc (suc (suc (suc (suc (suc zero))))))))) h = nine
digit_of (suc (suc (suc (suc (suc (suc (suc (suc (suc (suc k)))))))))) h = absurd (omega arith)

-- the test of `digits`
abbrev is_digit : ℕ → Bool
is_digit b = not (ltb b 48 || ltb 57 b)

byte_digit : (b : ℕ) → is_digit b ≡ true → Digit b (b - 48)
byte_digit b e =
    let (low, high) = both_false (ltb b 48) (ltb 57 b) (not-true (ltb b 48 || ltb 57 b) e) in
    let least : 48 ≤ b = ltb-false b 48 low in
    let most : b ≤ 57 = ltb-false 57 b high in
    let whole : 48 + (b - 48) ≡ b = omega arith in
    subst (λ (x : ℕ). Digit x (b - 48)) whole (digit_of (b - 48) (omega arith))
  where
    not-true : (x : Bool) → not x ≡ true → x ≡ false
    not-true true e = sym e
    not-true false e = refl

digit_byte : {b d : ℕ} → Digit b d → (is_digit b ≡ true) × (b - 48 ≡ d)
digit_byte zero_digit = (refl, refl)
digit_byte one = (refl, refl)
digit_byte two = (refl, refl)
digit_byte three = (refl, refl)
digit_byte four = (refl, refl)
digit_byte five = (refl, refl)
digit_byte six = (refl, refl)
digit_byte seven = (refl, refl)
digit_byte eight = (refl, refl)
digit_byte nine = (refl, refl)

pub digits_said : (v : ℕ) (p : List ℕ) → digits p ≡ true → Digits v p (decimal v p)
unfolding digits decimal
digits_said v [] e = no_more
digits_said v (b ∷ p) e =
    let (here, more) = both_true (is_digit b) (digits p) e in
    digit (byte_digit b here) (digits_said (10 * v + (b - 48)) p more)

pub said_digits : {v n : ℕ} {p : List ℕ} → Digits v p n → (digits p ≡ true) × (decimal v p ≡ n)
unfolding digits decimal
said_digits no_more = (refl, refl)
said_digits (digit {v} {b} {d} {n} {p} h s) =
    let (is, value) = digit_byte h in
    let (all, whole) = said_digits s in
    (rw (is, all), rw value whole)

pub spelling : Spelling
spelling = record {
  digits_exactly = λ v p. record { spelled = digits_said v p; all = λ d. (said_digits d).0; value = λ d. (said_digits d).1 };
  parts_exactly = λ l. record { spelled = parts_parted l refl; only = parted_parts };
  lines_exactly = λ t. record { spelled = lines_lined t; only = lined_lines };
}
