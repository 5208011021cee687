-- What a band of the last column sends: a word, and the rows one after the other.
use Prim.Native.Nat.{ℕ, suc, ◌+◌, ◌-◌, ◌*◌, ◌<◌, ◌≤◌}
use native.Mathlib.Omega.{arith}
use mathlib.Core.Path.{◌≡◌, refl, sym, ap, ◌∙◌}
use mathlib.Core.List.{List}
use mathlib.Core.Bool.{Bool, true, false, cond, ◌&&◌, and-false}
use lib.ListN.{length, get_or, set, length-set}
use lib.Dec.{ltb}
use borrow.Author.Tests.{lt-ltb, le-ltb}
use Rattle.turns.specs.declared.band.Band.{Band}
use Rattle.emission.specs.Sent.{sent, sent_rows, Sending}

-- A word that the job has no entry for, and one that it has.
module _ (size i k word : ℕ) (part : List ℕ) where
  pub sent_row : size ≤ i → part ≡ sent size i k word part
  sent_row h = rw (le-ltb i size h)

  pub sent_point : size ≤ k → part ≡ sent size i k word part
  sent_point h = rw (le-ltb k size h, and-false (ltb i size))

  pub sent_word : i < size → k < size → set part (i * size + k) word ≡ sent size i k word part
  sent_word h h' = rw (lt-ltb i size h, lt-ltb k size h')

pub sent_length : (size i k word : ℕ) (part : List ℕ) → length (sent size i k word part) ≡ length part
sent_length size i k word part = go (ltb i size && ltb k size)
  where
    go : (b : Bool) → length (cond b (set part (i * size + k) word) part) ≡ length part
    go true = length-set part (i * size + k) word
    go false = refl

-- The rows of a band one after the other.
pub sent_none : (n size last : ℕ) (planes : List ℕ) (from : ℕ) (part : List ℕ) → sent_rows n size last planes from 0 part ≡ part
unfolding sent_rows
sent_none n size last planes from part = refl

pub sent_one : (n size last : ℕ) (planes : List ℕ) (from m : ℕ) (part : List ℕ)
    → sent_rows n size last planes from (suc m) part
    ≡ sent size (from + m) (last - (from + m)) (get_or planes (n * n + ((from + m) * n + (n - 1))) 0) (sent_rows n size last planes from m part)
unfolding sent_rows
sent_one n size last planes from m part = refl

-- The loop has sent the rows of the band before i.
pub record SentTo (n size : ℕ) (band : Band) (planes old : List ℕ) (i : ℕ) (l : List ℕ) : Type 0 where
  pub first : band.from ≤ i
  pub most : i ≤ band.to
  pub kept : length l ≡ length old
  pub rows : l ≡ sent_rows n size band.last planes band.from (i - band.from) old

module _ {n size : ℕ} {band : Band} {planes old : List ℕ} (asked : Sending n size band planes old) where
  pub send_begins : SentTo n size band planes old band.from old
  send_begins =
      let e : band.from - band.from ≡ 0 = omega arith in
      record {
        first = omega arith;
        most = asked.order;
        kept = refl;
        rows = rw e (sym (sent_none n size band.last planes band.from old));
      }

  module _ {i : ℕ} {l : List ℕ} (done : SentTo n size band planes old i l) where
    module _ (more : i < band.to) where
      pub send_goes_on : {l' : List ℕ} → length l' ≡ length l
          → l' ≡ sent size i (band.last - i) (get_or planes (n * n + (i * n + (n - 1))) 0) l
          → SentTo n size band planes old (i + 1) l'
      send_goes_on {l'} same wrote =
          let e : i + 1 - band.from ≡ suc (i - band.from) = omega (arith, done.first) in
          let f : band.from + (i - band.from) ≡ i = omega (arith, done.first) in
          record {
            first = omega (arith, done.first);
            most = omega arith;
            kept = same ∙ done.kept;
            rows =
                rw e
                (wrote
                ∙ ap (sent size i (band.last - i) (get_or planes (n * n + (i * n + (n - 1))) 0)) done.rows
                ∙ rw (sent_one n size band.last planes band.from (i - band.from) old, f));
          }
