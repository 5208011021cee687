-- The words that come in at the edges: the fed entries of a band over the array's own words.
use Prim.Native.Nat.{ℕ, ◌+◌, ◌-◌, ◌*◌, ◌<◌, ◌≤◌}
use native.Mathlib.Omega.{arith}
use native.Mathlib.Decide.{dec_lt, ℕ_discrete}
use mathlib.Core.Path.{◌≡◌, refl, sym, ap, ◌∙◌}
use mathlib.Core.Logic.{◌≢◌}
use mathlib.Core.List.{List}
use mathlib.Core.Bool.{cond, and-false}
use lib.ListN.{length, get_or, set, take, drop, length-set}
use lib.Seq.{get_or-set_same, get_or-set_other}
use lib.Dec.{eqb, ltb}
use borrow.Author.Tests.{eq-eqb, ne_eqb, lt-ltb, le-ltb}
use Rattle.semiring.specs.Algebra.{none_word_of, own_of}
use Rattle.semiring.specs.declared.Algebra.{Algebra}
use Rattle.closure.specs.Table.{entries}
use Rattle.systolic.specs.Feeder.{padded_table}
use Rattle.turns.specs.declared.band.Band.{Band}
use Rattle.turns.specs.declared.turn.Turn.{Turn}
use Rattle.turns.specs.Turn.{pass_in, step_of}
use Rattle.turns.specs.Spans.{Banded}
use Rattle.moves.specs.Edges.{Wrapped}
use Rattle.stage.specs.declared.jobs.Job.{Job}
use Rattle.feeding.specs.Filled.{Padded, Feeding, Fed, Filling, Filled, entry_of}

-- The entries of a padded job, by the tests of the code.
module _ {algebra : Algebra} {size : ℕ} {weights : List ℕ} {i j word : ℕ} where
  pub padded_own : word ≡ own_of algebra → i ≡ j → Padded algebra size weights i j word
  padded_own w e = record { is = rw (eq-eqb i j e) w }

  pub padded_row : word ≡ none_word_of algebra → i ≢ j → size ≤ i → Padded algebra size weights i j word
  padded_row w e h = record { is = rw (ne_eqb i j e, le-ltb i size h) w }

  pub padded_column : word ≡ none_word_of algebra → i ≢ j → size ≤ j → Padded algebra size weights i j word
  padded_column w e h = record { is = rw (ne_eqb i j e, le-ltb j size h, and-false (ltb i size)) w }

  pub padded_entry : i ≢ j → i < size → j < size → word ≡ entries size weights i j → Padded algebra size weights i j word
  padded_entry e h k w = record { is = rw (ne_eqb i j e, lt-ltb i size h, lt-ltb j size k) w }

-- The loop has fed the cells of the band before x.
pub record FedTo (algebra : Algebra) (n size : ℕ) (band : Band) (weights old : List ℕ) (x : ℕ) (new : List ℕ) : Type 0 where
  pub first : band.from ≤ x
  pub most : x ≤ band.to
  pub fed : Fed algebra n size (record { from = band.from; to = x; last = band.last }) weights old new

module _ {algebra : Algebra} {n size : ℕ} {band : Band} {weights old : List ℕ} (asked : Feeding n size band weights old) where
  pub feed_begins : FedTo algebra n size band weights old band.from old
  feed_begins = record {
    first = omega arith;
    most = asked.order;
    fed = record {
      length_kept = refl;
      top = λ x h h'. absurd (omega arith);
      left = λ x h h'. absurd (omega arith);
      top_kept = λ x h f. refl;
      left_kept = λ x h f. refl;
    };
  }

  module _ {x : ℕ} {l : List ℕ} (done : FedTo algebra n size band weights old x l) where
    module _ (more : x < band.to) where
      feed_top : x < length l
      feed_top = omega (arith, done.fed.length_kept, asked.room, asked.within)

      -- after the top's word
      feed_left : (v : ℕ) → n + x < length (set l x v)
      feed_left v = omega (arith, length-set l x v, done.fed.length_kept, asked.room, asked.within)

      -- one cell more of both edges
      pub feed_goes_on : {v w : ℕ} → Padded algebra size weights (band.last - x) x v → Padded algebra size weights x (band.last - x) w
          → FedTo algebra n size band weights old (x + 1) (set (set l x v) (n + x) w)
      feed_goes_on {v} {w} e f = record {
        first = omega (arith, done.first);
        most = omega arith;
        fed = record {
          length_kept = length-set (set l x v) (n + x) w ∙ length-set l x v ∙ done.fed.length_kept;
          top = λ y h h'. top_at y h h' (ℕ_discrete y x);
          left = λ y h h'. left_at y h h' (ℕ_discrete y x);
          top_kept = λ y h g.
              let far : y ≢ x = λ z. g (omega (arith, done.first)) (omega arith) in
              top_word y h far ∙ done.fed.top_kept y h (λ u u'. g u (omega arith));
          left_kept = λ y h g.
              let far : y ≢ x = λ z. g (omega (arith, done.first)) (omega arith) in
              left_word y far ∙ done.fed.left_kept y h (λ u u'. g u (omega arith));
        };
      }
        where
          below : x < n
          below = omega (arith, asked.within)

          top_word : (y : ℕ) → y < n → y ≢ x → get_or (set (set l x v) (n + x) w) y 0 ≡ get_or l y 0
          top_word y h far =
              get_or-set_other (set l x v) (n + x) y w 0 (λ z. omega arith) ∙ get_or-set_other l x y v 0 far

          left_word : (y : ℕ) → y ≢ x → get_or (set (set l x v) (n + x) w) (n + y) 0 ≡ get_or l (n + y) 0
          left_word y far =
              get_or-set_other (set l x v) (n + x) (n + y) w 0 (λ z. far (omega arith))
              ∙ get_or-set_other l x (n + y) v 0 (λ z. omega (arith, below))

          top_at : (y : ℕ) → band.from ≤ y → y < x + 1 → Dec (y ≡ x)
              → get_or (set (set l x v) (n + x) w) y 0 ≡ padded_table algebra size weights (band.last - y) y
          top_at y h h' (yes d) =
              rw d
              (get_or-set_other (set l x v) (n + x) x w 0 (λ z. omega (arith, below))
              ∙ get_or-set_same l x v 0 feed_top
              ∙ e.is)
          top_at y h h' (no d) = top_word y (omega (arith, below)) d ∙ done.fed.top y h (omega arith)

          left_at : (y : ℕ) → band.from ≤ y → y < x + 1 → Dec (y ≡ x)
              → get_or (set (set l x v) (n + x) w) (n + y) 0 ≡ padded_table algebra size weights y (band.last - y)
          left_at y h h' (yes d) =
              rw d (get_or-set_same (set l x v) (n + x) w 0 (feed_left v) ∙ f.is)
          left_at y h h' (no d) = left_word y d ∙ done.fed.left y h (omega arith)

-- The array's own words at the edges, then a band of fed entries over them.
module _ {n : ℕ} {head : Turn} {job : Job} {weights planes old : List ℕ} (asked : Filling n head job weights planes old) where
  module _ {band : Band} (banded : Banded n 0 (step_of n head) band) {wrapped : List ℕ} (copied : Wrapped n planes old wrapped) where
    module _ {edges : List ℕ} (fed : Fed job.algebra n job.size band (take (job.end - job.start) (drop job.start weights)) wrapped edges) where
      -- cell x of either edge: in the band or not
      entry_or_word : (x pass k : ℕ) {word entry own : ℕ} → x < n → k < n → n * pass + k + x ≡ step_of n head
          → (band.from ≤ x → x < band.to → k ≡ band.last - x → word ≡ entry)
          → ((band.from ≤ x → x < band.to → ⊥) → word ≡ own)
          → word ≡ cond (eqb (pass_in pass) 0) entry own
      entry_or_word x pass k {word} {entry} {own} h b e inside outside = go (dec_lt x band.from) (dec_lt x band.to)
        where
          go : Dec (x < band.from) → Dec (x < band.to) → word ≡ cond (eqb (pass_in pass) 0) entry own
          go (yes d) d' =
              rw (ne_eqb (pass_in pass) 0 (banded.before x pass k d b e)) (outside (λ u u'. omega arith))
          go (no d) (yes d') =
              let (p, q) = banded.inside x pass k (omega arith) d' b e in
              rw (eq-eqb (pass_in pass) 0 p) (inside (omega arith) d' (omega arith))
          go (no d) (no d') =
              rw (ne_eqb (pass_in pass) 0 (banded.after x pass k (omega arith) h b e)) (outside (λ u u'. d' u'))

      pub fill_done : Filled n head job weights planes edges
      fill_done = record {
        top = λ j pass k h on.
            entry_or_word j pass k h on.below (omega (arith, on.at))
            (λ u u' e. fed.top j u u' ∙ ap (λ (x : ℕ). entry_of job weights x j) (sym e))
            (λ f. fed.top_kept j h f ∙ copied.top j h);
        left = λ i pass k h on.
            entry_or_word i pass k h on.below (omega (arith, on.at))
            (λ u u' e. fed.left i u u' ∙ ap (λ (x : ℕ). entry_of job weights i x) (sym e))
            (λ f. fed.left_kept i h f ∙ copied.left i h);
      }
