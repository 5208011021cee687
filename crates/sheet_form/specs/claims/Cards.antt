-- Document 01, "Bench cards": B1 to B9 in one statement, with K4's B7 and K8's texts, and cards more: the elimination's last pass, far and none,
-- none on the sheet in each algebra, a list of three algebras, a refusal's line.
use Rattle.std.specs.Prelude.{ℕ, ◌≡◌, List, [], ◌∷◌, ◌++◌, replicate}
use Rattle.text.specs.Ascii.{ascii}
use Rattle.semiring.specs.declared.Algebra.TheVariants.{Reach, Distance, Steepest}
use Rattle.closure.specs.Elimination.{closure, eliminated}
use Rattle.systolic.specs.State.{state_length}
use Rattle.systolic.specs.Start.{state_after_start}
use Rattle.systolic.specs.claims.Demand.{Runs, runs}
use Rattle.sheet_form.specs.Sheet.{sheet_of}

-- none, outside reach
abbrev pub none : ℕ
none = 65535

-- "links 0→1 4, 0→2 9, 1→2 3, 2→0 1", and as reach
unfoldable pub links3 : List ℕ
links3 = 0 ∷ 4 ∷ 9 ∷ none ∷ 0 ∷ 3 ∷ 1 ∷ none ∷ 0 ∷ []

unfoldable pub reach3 : List ℕ
reach3 = 0 ∷ 1 ∷ 1 ∷ 0 ∷ 0 ∷ 1 ∷ 1 ∷ 0 ∷ 0 ∷ []

-- 0→1 of 40000 and 1→2 of the given length
unfoldable pub long3 : ℕ → List ℕ
long3 x = 0 ∷ 40000 ∷ none ∷ none ∷ 0 ∷ x ∷ none ∷ none ∷ 0 ∷ []

-- 0→1 of 40000, 1→2 of x and 0→2 of y
unfoldable pub steep3 : ℕ → ℕ → List ℕ
steep3 x y = 0 ∷ 40000 ∷ y ∷ none ∷ 0 ∷ x ∷ none ∷ none ∷ 0 ∷ []

-- 0→1 only through the last point, 2
unfoldable pub last3 : List ℕ
last3 = 0 ∷ 9 ∷ 1 ∷ none ∷ 0 ∷ none ∷ none ∷ 2 ∷ 0 ∷ []

-- One job of one point with the word 7 in an array of order 1, run once with an allowance on a result that holds 9.
abbrev pub one_point : ℕ → Runs
one_point allowance =
    runs (1 ∷ []) (1 ∷ []) (7 ∷ []) (record { allowance = allowance; scratch = 0 ∷ 0 ∷ [] } ∷ [])
    (state_after_start (1 ∷ []) 1 (1 ∷ []) (7 ∷ []) (replicate (state_length 1) 0)) (9 ∷ [])

pub record BenchCards : Type 0 where
  pub B1 : eliminated Distance 1 (7 ∷ []) ≡ 0 ∷ []
  pub B2 : eliminated Reach 1 (0 ∷ []) ≡ 1 ∷ []
  pub B3 : eliminated Distance 3 links3 ≡ 0 ∷ 4 ∷ 7 ∷ 4 ∷ 0 ∷ 3 ∷ 1 ∷ 5 ∷ 0 ∷ []
  pub B4 : eliminated Steepest 3 links3 ≡ 0 ∷ 4 ∷ 4 ∷ 3 ∷ 0 ∷ 3 ∷ 1 ∷ 4 ∷ 0 ∷ []
  pub B5 : eliminated Reach 3 reach3 ≡ 1 ∷ 1 ∷ 1 ∷ 1 ∷ 1 ∷ 1 ∷ 1 ∷ 1 ∷ 1 ∷ []
  pub B6 : closure Distance 3 (long3 25534) 0 2 ≡ 65534
  -- K4: "Card B7 becomes 65534"; back there is still no way
  pub B7 : closure Distance 3 (long3 25535) 0 2 ≡ 65534
  pub none_back : closure Distance 3 (long3 25535) 2 0 ≡ none
  -- K4: "Steepest keeps 65534 as an ordinary word": the steepest link of its way, and bettered by 65533
  pub steepest_65534 : closure Steepest 3 (steep3 65534 none) 0 2 ≡ 65534
  pub steepest_65533 : closure Steepest 3 (steep3 65533 65534) 0 2 ≡ 65533
  pub last_pass : closure Distance 3 last3 0 1 ≡ 3
  -- "N = 1, one job: its word leaves on tick 3, 4 ticks in all"
  pub B8Before : (one_point 3).results ≡ 9 ∷ []
  pub B8After : (one_point 4).results ≡ 0 ∷ []
  pub B8Ticks : (one_point 65535).made ≡ 4
  -- "the listing above", with K1's sizes
  pub B9 :
      sheet_of (ascii "(list 2\n(job 2 distance\n(row 0 5)\n(row - 0)\n)\n)\n")
      ≡ ascii "(jobs 1 ticks 10)\n(out 0 0 0 2 7 0)\n(out 0 0 1 2 8 5)\n(out 0 1 0 2 8 -)\n(out 0 1 1 2 9 0)\n"
  -- "none as `-` outside reach", where there is no way back: B9 is distance's card, and these are the others'
  pub none_steepest :
      sheet_of (ascii "(list 2\n(job 2 steepest\n(row 0 5)\n(row - 0)\n)\n)\n")
      ≡ ascii "(jobs 1 ticks 10)\n(out 0 0 0 2 7 0)\n(out 0 0 1 2 8 5)\n(out 0 1 0 2 8 -)\n(out 0 1 1 2 9 0)\n"
  pub none_reach :
      sheet_of (ascii "(list 2\n(job 2 reach\n(row 0 1)\n(row 0 0)\n)\n)\n")
      ≡ ascii "(jobs 1 ticks 10)\n(out 0 0 0 2 7 1)\n(out 0 0 1 2 8 1)\n(out 0 1 0 2 8 0)\n(out 0 1 1 2 9 1)\n"
  -- K8: "A hall now sends its reach and distance jobs in one list", here with a stage in steepest between them. No way back is 0 in the reach
  -- job and `-` in the distance job.
  pub mixed :
      sheet_of
      (ascii "(list 2\n(job 2 reach\n(row 0 1)\n(row 0 0)\n)\n" ++ ascii "(job 1 steepest\n(row 7)\n)\n"
      ++ ascii "(job 2 distance\n(row 0 5)\n(row - 0)\n)\n)\n")
      ≡ ascii "(jobs 3 ticks 26)\n"
      ++ ascii "(out 0 0 0 2 7 1)\n(out 0 0 1 2 8 1)\n(out 0 1 0 2 8 0)\n(out 0 1 1 2 9 1)\n"
      ++ ascii "(out 1 0 0 1 15 0)\n"
      ++ ascii "(out 2 0 0 2 23 0)\n(out 2 0 1 2 24 5)\n(out 2 1 0 2 24 -)\n(out 2 1 1 2 25 0)\n"
  -- "A refusal prints only `(refused 14 3)`: number, line."
  pub refusal : sheet_of (ascii "(list 2\n(job 2 distance\n(raw 0 5)\n") ≡ ascii "(refused 14 3)\n"
