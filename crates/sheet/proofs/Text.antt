-- What the reader's answer and buffers say of the text's sheet.
use Prim.Native.Nat.{ℕ, zero, suc, ◌≤◌}
use native.Mathlib.Omega.{arith}
use mathlib.Core.Path.{◌≡◌, refl, sym, ap, ap₂, ◌∙◌}
use mathlib.Core.List.{List, [], ◌∷◌}
use Rattle.std.specs.Prelude.{Result, Ok, Err}
use lib.ListN.{length, take}
use lib.Seq.{length-take-le}
use Rattle.job_list.specs.Jobs.{offset, jobs_of}
use Rattle.job_list.proofs.Fits.{fits_small}
use Rattle.job_reading.specs.declared.answer.Refusal.{Refusal as Why}
use Rattle.job_reading.specs.declared.answer.List.{List as Listed}
use Rattle.job_reading.specs.Reading.{Refusal, Reading, refused, accepted, reading_of, algebras_in, sizes_in, weights_in, given, turned, answer_of, told, answered, ReadInto}
use Rattle.job_form.specs.Buffer.{padded}
use Rattle.job_list.specs.Fits.{ListAccepted, Small}
use Rattle.job_form.proofs.Padded.{length-padded}
use Rattle.job_reading.proofs.Whole.{whole, within_buffers}
use Rattle.text.specs.declared.page.Page.{Page}
use Rattle.text.specs.inner.Printed.{Printed}
use Rattle.text.proofs.Printed.{printed_as}
use Rattle.sheet_form.specs.Lines.{refused_line}
use Rattle.sheet_form.specs.Sheet.{whole_run, sheet_from, printed, sheet_of}

take_padded : (n : ℕ) (l : List ℕ) → length l ≤ n → take (length l) (padded n l) ≡ l
take_padded n [] h = refl
take_padded zero (x ∷ l) h = absurd (omega arith)
take_padded (suc n) (x ∷ l) h = ap (λ (r : List ℕ). x ∷ r) (take_padded n l (omega arith))

-- The list that was read, in the buffers.
pub record ReadList (text : List ℕ) (order jobs : ℕ) (algebras sizes weights : List ℕ) : Type 0 where
  pub list_weights : List ℕ
  pub reading : reading_of 16 16 16384 text ≡ accepted order (take jobs algebras) (take jobs sizes) list_weights
  pub count : length (take jobs sizes) ≡ jobs
  pub few : jobs ≤ length sizes
  pub count_algebras : length (take jobs algebras) ≡ jobs
  pub few_algebras : jobs ≤ length algebras
  pub front : take (length list_weights) weights ≡ list_weights
  pub room : length list_weights ≤ length weights

module _ (text : List ℕ) {l m n : ℕ} (asked : (l ≡ 16) × (m ≡ 16) × (n ≡ 16384)) where
  same_reading : reading_of l m n text ≡ reading_of 16 16 16384 text
  same_reading =
      ap (λ (x : ℕ). reading_of x m n text) asked.0 ∙ ap₂ (λ (x y : ℕ). reading_of 16 x y text) asked.1 asked.2

  read_by : (r : Reading) → reading_of 16 16 16384 text ≡ r → {order jobs : ℕ} {algebras sizes weights : List ℕ}
      → given order jobs ≡ answer_of r → algebras ≡ padded l (algebras_in r) → sizes ≡ padded m (sizes_in r) → weights ≡ padded n (weights_in r)
      → ReadList text order jobs algebras sizes weights
  read_by (refused r) e f isAlgebras isSizes isWeights = let z : ◌≡◌ {A = ℕ} 0 1 = cc in absurd (omega arith)
  read_by (accepted order' ns ss ws) e {order} {jobs} {algebras} {sizes} {weights} f isAlgebras isSizes isWeights =
      let same_order : order ≡ order' = cc in
      let same_count : jobs ≡ length ss = cc in
      let one_each : length ns ≡ length ss = (whole 16 16 16384 text order' ns ss ws e).fits.algebras_fit in
      let same_numbers : jobs ≡ length ns = same_count ∙ sym one_each in
      let (named, few, most) = within_buffers 16 16 16384 text order' ns ss ws e in
      let ns_fit : length ns ≤ l = rw asked.0 named in
      let ss_fit : length ss ≤ m = rw asked.1 few in
      let ws_fit : length ws ≤ n = rw asked.2 most in
      let front_algebras : take jobs algebras ≡ ns = rw (isAlgebras, same_numbers) (take_padded l ns ns_fit) in
      let front : take jobs sizes ≡ ss = rw (isSizes, same_count) (take_padded m ss ss_fit) in
      record {
        list_weights = ws;
        reading = rw (front_algebras, front, same_order) e;
        count = ap length front ∙ sym same_count;
        few = rw (isSizes, length-padded m ss, same_count) ss_fit;
        count_algebras = ap length front_algebras ∙ sym same_numbers;
        few_algebras = rw (isAlgebras, length-padded l ns, same_numbers) ns_fit;
        front = rw isWeights (take_padded n ws ws_fit);
        room = rw (isWeights, length-padded n ws) ws_fit;
      }

  pub read_list : {answer : Result Listed Why} {list : Listed} {algebras sizes weights : List ℕ} → answer ≡ Ok list
      → ReadInto l m n text answer algebras sizes weights → ReadList text list.order list.jobs algebras sizes weights
  read_list is told =
      read_by (reading_of l m n text) (sym same_reading) (sym (ap answered is) ∙ told.outcome) told.algebras_left told.sizes_left
      told.weights_left

  refused_by : (r : Reading) {why : Refusal} → turned why ≡ answer_of r → refused_line why.number why.line ≡ printed r
  refused_by (refused why') {why} e = let f : why ≡ why' = cc in ap (λ (x : Refusal). refused_line x.number x.line) f
  refused_by (accepted order ns ss ws) e = let z : ◌≡◌ {A = ℕ} 0 1 = cc in absurd (omega arith)

  pub refusal_printed : {answer : Result Listed Why} {why : Why} {algebras sizes weights : List ℕ} → answer ≡ Err why
      → ReadInto l m n text answer algebras sizes weights
      → {page page' : Page} → Printed page (refused_line (told why).number (told why).line) page' → Printed page (sheet_of text) page'
  refusal_printed is read p =
      printed_as p (refused_by (reading_of 16 16 16384 text) (sym (ap answered is) ∙ read.outcome ∙ ap answer_of same_reading))

-- The parts of the buffers that are lent on.
module _ {text : List ℕ} {order jobs : ℕ} {algebras sizes weights : List ℕ} (r : ReadList text order jobs algebras sizes weights) where
  list : ListAccepted (jobs_of (take jobs algebras) order (take jobs sizes) r.list_weights)
  list = whole 16 16 16384 text order (take jobs algebras) (take jobs sizes) r.list_weights r.reading

  pub sizes_ready : (jobs ≤ length (take jobs sizes)) × Small (take jobs sizes)
  sizes_ready = (omega (arith, r.count), fits_small list.fits)

  module _ {words : ℕ} (is_words : words ≡ offset (take jobs sizes) jobs) where
    words_are : words ≡ length r.list_weights
    words_are = is_words ∙ ap (offset (take jobs sizes)) (sym r.count) ∙ sym list.weights_fit

    pub words_within : words ≤ length weights
    words_within = rw words_are r.room

    weights_are : take words weights ≡ r.list_weights
    weights_are = rw words_are r.front

    pub list_accepted : ListAccepted (jobs_of (take jobs algebras) order (take jobs sizes) (take words weights))
    list_accepted = rw weights_are list

    pub words_part : words ≡ length (take words weights)
    words_part = sym (length-take-le words weights words_within)

    list_sheet :
        sheet_from (jobs_of (take jobs algebras) order (take jobs sizes) (take words weights))
        (whole_run (take jobs algebras) order (take jobs sizes) (take words weights))
        ≡ sheet_of text
    list_sheet = rw weights_are (sym (ap printed r.reading))

    pub list_printed : {page page' : Page}
        → Printed page
        (sheet_from (jobs_of (take jobs algebras) order (take jobs sizes) (take words weights))
        (whole_run (take jobs algebras) order (take jobs sizes) (take words weights)))
        page'
        → Printed page (sheet_of text) page'
    list_printed p = printed_as p list_sheet
