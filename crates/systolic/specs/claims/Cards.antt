-- Document 01, "State words: N, algebra, Q, tick, then planes c, a, b of N times N words, row by row", and request K8: "the state's second word,
-- which must be 0". No theorem names the places of these words, nor what the cell rule does where the results do not show it: cards do, with
-- states written out by a cell rule of their own.
use Rattle.std.specs.Prelude.{ℕ, ◌≡◌, List, [], ◌∷◌, replicate}
use Rattle.systolic.specs.Start.{state_after_start}
use Rattle.systolic.specs.Run.{Ran, ran}
use Rattle.systolic.specs.claims.Demand.{Runs}
use Rattle.systolic.specs.claims.Corollaries.{started_runs}

-- The state of the listing, in an array of order 2, after a run of so many ticks.
abbrev pub listing_after : ℕ → List ℕ
listing_after ticks =
    (started_runs (1 ∷ []) 2 (2 ∷ []) (0 ∷ 5 ∷ 65535 ∷ 0 ∷ []) (replicate 16 9)
    (record { allowance = ticks; scratch = replicate 4 9 } ∷ []) (replicate 4 9)).state

-- A point in reach, then one in distance, in an array of one cell.
abbrev pub two_points_after : ℕ → List ℕ
two_points_after ticks =
    (started_runs (0 ∷ 1 ∷ []) 1 (1 ∷ 1 ∷ []) (0 ∷ 7 ∷ []) (replicate 7 9)
    (record { allowance = ticks; scratch = replicate 2 9 } ∷ []) (replicate 2 9)).state

-- A point in distance, then the link 0 to 1 in reach, in an array of order 2: the first job is padded.
abbrev pub padded_after : ℕ → Runs
padded_after ticks =
    started_runs (1 ∷ 0 ∷ []) 2 (1 ∷ 2 ∷ []) (3 ∷ 0 ∷ 1 ∷ 0 ∷ 0 ∷ []) (replicate 16 9)
    (record { allowance = ticks; scratch = replicate 4 9 } ∷ []) (replicate 5 9)

-- Two ticks from this one on, of the link 0 to 1 in reach, on planes of any words: "Lent planes may hold any 16-bit words".
abbrev pub lent_from : ℕ → Ran
lent_from tick =
    ran (2 ∷ 0 ∷ 1 ∷ tick ∷ 2 ∷ 9 ∷ 0 ∷ 65535 ∷ 3 ∷ 1 ∷ 7 ∷ 0 ∷ 5 ∷ 65535 ∷ 1 ∷ 4 ∷ []) (0 ∷ []) (2 ∷ []) (0 ∷ 1 ∷ 0 ∷ 0 ∷ []) 2
    (replicate 4 9) (replicate 4 9)

pub record StateCards : Type 0 where
  -- "Start writes the four words, tick 0, planes 0."
  pub started : state_after_start (1 ∷ []) 2 (2 ∷ []) (0 ∷ 5 ∷ 65535 ∷ 0 ∷ []) (replicate 16 9) ≡ 2 ∷ 0 ∷ 1 ∷ 0 ∷ replicate 12 0
  -- c is 0 5 / - 0, a is 5 0 / - 0 and b is - 5 / 0 0
  pub two_ticks : listing_after 2 ≡ 2 ∷ 0 ∷ 1 ∷ 2 ∷ 0 ∷ 5 ∷ 65535 ∷ 0 ∷ 5 ∷ 0 ∷ 65535 ∷ 0 ∷ 65535 ∷ 5 ∷ 0 ∷ 0 ∷ []
  -- Where the second job begins, the cell goes on to its algebra: reach's own word, then distance's.
  pub reach_ends : two_points_after 4 ≡ 1 ∷ 0 ∷ 2 ∷ 4 ∷ 1 ∷ 1 ∷ 1 ∷ []
  pub distance_begins : two_points_after 5 ≡ 1 ∷ 0 ∷ 2 ∷ 5 ∷ 0 ∷ 0 ∷ 0 ∷ []
  -- The entries of a point that the job does not have are none, in every row and column.
  pub padded : (padded_after 2).state ≡ 2 ∷ 0 ∷ 2 ∷ 2 ∷ 0 ∷ 65535 ∷ 65535 ∷ 0 ∷ 65535 ∷ 0 ∷ 65535 ∷ 0 ∷ 65535 ∷ 65535 ∷ 0 ∷ 0 ∷ []
  -- Cell (0, 0) is on the second job, in reach, and the others still on the first, in distance.
  pub nose_to_tail : (padded_after 9).state ≡ 2 ∷ 0 ∷ 2 ∷ 9 ∷ 1 ∷ 65535 ∷ 65535 ∷ 0 ∷ 1 ∷ 65535 ∷ 0 ∷ 65535 ∷ 1 ∷ 0 ∷ 65535 ∷ 65535 ∷ []
  pub all_ticks : (padded_after 18).state ≡ 2 ∷ 0 ∷ 2 ∷ 18 ∷ 1 ∷ 1 ∷ 0 ∷ 1 ∷ 1 ∷ 1 ∷ 1 ∷ 1 ∷ 0 ∷ 1 ∷ 0 ∷ 1 ∷ []
  -- row by row
  pub words : (padded_after 18).results ≡ 0 ∷ 1 ∷ 1 ∷ 0 ∷ 1 ∷ []
  -- Pass 1 sums, pass 3 does not, nothing is fed in pass 3, and a cell that is done keeps its registers.
  pub lent_summed : (lent_from 2).state ≡ 2 ∷ 0 ∷ 1 ∷ 4 ∷ 2 ∷ 9 ∷ 2 ∷ 7 ∷ 9 ∷ 2 ∷ 2 ∷ 7 ∷ 1 ∷ 9 ∷ 2 ∷ 7 ∷ []
  pub lent_sent : (lent_from 6).state ≡ 2 ∷ 0 ∷ 1 ∷ 8 ∷ 2 ∷ 9 ∷ 0 ∷ 65535 ∷ 9 ∷ 2 ∷ 0 ∷ 65535 ∷ 0 ∷ 65535 ∷ 1 ∷ 65535 ∷ []
  pub lent_kept : (lent_from 8).state ≡ 2 ∷ 0 ∷ 1 ∷ 10 ∷ 2 ∷ 9 ∷ 0 ∷ 65535 ∷ 3 ∷ 9 ∷ 0 ∷ 65535 ∷ 5 ∷ 4 ∷ 5 ∷ 4 ∷ []
  pub lent_words : (lent_from 8).results ≡ 9 ∷ 9 ∷ 7 ∷ 65535 ∷ []
