-- Document 01, "Job text and bench program", with K8's forms: what the bytes of a line say.
use Rattle.std.specs.Prelude.{ℕ, ◌<◌, ◌≤◌, List, [], ◌∷◌, ◌++◌, length}
use Prim.Native.Char.{code}
use Rattle.semiring.specs.declared.Algebra.{Algebra}
use Rattle.semiring.specs.declared.Algebra.TheVariants.{Reach, Distance, Steepest}
use Rattle.text.specs.claims.Spelling.{Digits, Parted}

-- "Numbers have 1 to 5 decimal digits, leading zeros allowed"; none is above 65535.
pub record NumberOf (p : List ℕ) (n : ℕ) : Type 0 where
  pub some : 1 ≤ length p
  pub few : length p ≤ 5
  pub digits : Digits 0 p n
  pub most : n ≤ 65535

-- "15 a numeral over 5 digits or above 65535", where "a numeral is a run of digits".
pub data OverNumeral (p : List ℕ) : Type 0 where
  over_digits : {n : ℕ} → Digits 0 p n → 5 < length p → OverNumeral p
  over_value : {n : ℕ} → Digits 0 p n → 65535 < n → OverNumeral p

-- "A a name from the table".
pub data Named : List ℕ → Algebra → Type 0 where
  reach : Named (code "r" ∷ code "e" ∷ code "a" ∷ code "c" ∷ code "h" ∷ []) Reach
  distance : Named (code "d" ∷ code "i" ∷ code "s" ∷ code "t" ∷ code "a" ∷ code "n" ∷ code "c" ∷ code "e" ∷ []) Distance
  steepest : Named (code "s" ∷ code "t" ∷ code "e" ∷ code "e" ∷ code "p" ∷ code "e" ∷ code "s" ∷ code "t" ∷ []) Steepest

-- A word of a row in each algebra, as the table has them: reach has 0 and 1; "`-` is none, but not in reach".
pub data Word : Algebra → List ℕ → ℕ → Type 0 where
  in_reach : {p : List ℕ} {n : ℕ} → NumberOf p n → n ≤ 1 → Word Reach p n
  in-distance : {p : List ℕ} {n : ℕ} → NumberOf p n → Word Distance p n
  in-steepest : {p : List ℕ} {n : ℕ} → NumberOf p n → Word Steepest p n
  none_in_distance : Word Distance (code "-" ∷ []) 65535
  none_in_steepest : Word Steepest (code "-" ∷ []) 65535

-- What follows `(row`: words, and the bracket right behind the last, "none [no space] inside a bracket's edge".
pub data Words (a : Algebra) : List (List ℕ) → List ℕ → Type 0 where
  last : {p : List ℕ} {w : ℕ} → Word a p w → Words a ((p ++ (code ")" ∷ [])) ∷ []) (w ∷ [])
  word : {p : List ℕ} {ps : List (List ℕ)} {w : ℕ} {ws : List ℕ} → Word a p w → Words a ps ws → Words a (p ∷ ps) (w ∷ ws)

-- What a line says: `(list N`, `(job n A`, a row of words in an algebra, `)`, or nothing, as it is skipped.
pub data Form : Type 0 where
  list : ℕ → Form
  job : ℕ → Algebra → Form
  row : Algebra → List ℕ → Form
  close : Form
  skipped : Form

abbrev pub list_part : List ℕ
list_part = code "(" ∷ code "l" ∷ code "i" ∷ code "s" ∷ code "t" ∷ []

abbrev pub job_part : List ℕ
job_part = code "(" ∷ code "j" ∷ code "o" ∷ code "b" ∷ []

abbrev pub row_part : List ℕ
row_part = code "(" ∷ code "r" ∷ code "o" ∷ code "w" ∷ []

abbrev pub empty_row : List ℕ
empty_row = code "(" ∷ code "r" ∷ code "o" ∷ code "w" ∷ code ")" ∷ []

pub data Written : List ℕ → Form → Type 0 where
  -- K8: "The text says `(list N` and `(job n A`"
  list_line : {l p : List ℕ} {n : ℕ} → Parted l (list_part ∷ p ∷ []) → NumberOf p n → Written l (list n)
  job_line : {l p q : List ℕ} {n : ℕ} {a : Algebra} → Parted l (job_part ∷ p ∷ q ∷ []) → NumberOf p n → Named q a → Written l (job n a)
  -- "`(row w ..)`"; "A row of no words is 16", so it is a row
  row_line : {l : List ℕ} {ps : List (List ℕ)} {a : Algebra} {ws : List ℕ} → Parted l (row_part ∷ ps) → Words a ps ws → Written l (row a ws)
  empty-row : {l : List ℕ} {a : Algebra} → Parted l (empty_row ∷ []) → Written l (row a [])
  lone_bracket : {l : List ℕ} → Parted l ((code ")" ∷ []) ∷ []) → Written l close
  -- "Lines with nothing but spaces, and lines whose first other byte is `;`, are skipped."
  blank : {l : List ℕ} → Parted l [] → Written l skipped
  comment : {l p : List ℕ} {ps : List (List ℕ)} → Parted l ((code ";" ∷ p) ∷ ps) → Written l skipped
