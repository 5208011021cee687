-- Cards for request K10: bus transactions with an array of one cell and one job, whose word leaves on the last of its 4 ticks (card B8).
use Rattle.std.specs.Prelude.{ℕ, ◌≡◌, List, [], ◌∷◌, Bool, true, false, replicate}
use Rattle.registers.specs.Registers.{Registers, reset, bytes_of, interrupt_of}
use Rattle.registers.specs.Writing.{JobsLent}
use Rattle.registers.specs.Number.{registers_in, value_of}
use Rattle.registers.specs.claims.Transactions.{Transaction, reading, writing, Card, Answer, Transacted, transacted, started_card}

abbrev jobs : JobsLent
jobs = record { algebras = 1 ∷ []; sizes = 1 ∷ []; weights = 7 ∷ [] }

-- A write with the scratch of 2N words, and one whose run is refused for its scratch: 12.
abbrev wr : ℕ → ℕ → Transaction
wr offset byte = writing offset byte (9 ∷ 9 ∷ [])

abbrev short : ℕ → ℕ → Transaction
short offset byte = writing offset byte (9 ∷ [])

abbrev rd : ℕ → Transaction
rd offset = reading offset

abbrev pub on : List Transaction → Transacted
on ts = transacted jobs ts (started_card jobs 1 (replicate 7 9) (9 ∷ []))

-- A new window over a state that is finished already.
abbrev pub late : List Transaction → Transacted
late ts = transacted jobs ts (record { window = reset; state = 1 ∷ 0 ∷ 1 ∷ 4 ∷ 0 ∷ 0 ∷ 0 ∷ []; results = 0 ∷ [] })

-- What a transaction answers: the byte that was read (0 for a write), or a refusal's number.
abbrev ok : ℕ → Answer
ok byte = record { number = 0; byte = byte }

abbrev turned : ℕ → Answer
turned number = record { number = number; byte = 0 }

abbrev pub window : Bool → Bool → Registers
window done enable = record { done = done; tick = 515; allowance = 1027; number = 12; enable = enable }

pub record WindowCards : Type 0 where
  -- by 3 ticks at a time: nothing has left after 3; after 4 the word 0 has
  pub polled :
      (on (wr 4 3 ∷ wr 0 1 ∷ rd 1 ∷ rd 2 ∷ wr 0 1 ∷ rd 1 ∷ rd 2 ∷ rd 3 ∷ rd 4 ∷ [])).answers
      ≡ ok 0 ∷ ok 0 ∷ ok 0 ∷ ok 3 ∷ ok 0 ∷ ok 2 ∷ ok 4 ∷ ok 0 ∷ ok 3 ∷ []
  pub not_yet : (on (wr 4 3 ∷ wr 0 1 ∷ [])).card.results ≡ 9 ∷ []
  pub left : (on (wr 4 3 ∷ wr 0 1 ∷ wr 0 1 ∷ [])).card.results ≡ 0 ∷ []
  -- an allowance of 256 is one of its high byte
  pub high : (on (wr 5 1 ∷ wr 0 1 ∷ rd 1 ∷ rd 4 ∷ rd 5 ∷ [])).answers ≡ ok 0 ∷ ok 0 ∷ ok 2 ∷ ok 0 ∷ ok 1 ∷ []
  -- CONTROL reads as 0, and its other bits do nothing
  pub other_bits : (on (wr 4 4 ∷ wr 0 252 ∷ rd 0 ∷ rd 1 ∷ rd 2 ∷ [])).answers ≡ ok 0 ∷ ok 0 ∷ ok 0 ∷ ok 0 ∷ ok 0 ∷ []
  pub all_bits : (on (wr 4 4 ∷ wr 0 255 ∷ rd 0 ∷ rd 1 ∷ rd 2 ∷ [])).answers ≡ ok 0 ∷ ok 0 ∷ ok 0 ∷ ok 2 ∷ ok 4 ∷ []
  -- a run that is refused, and one of no tick after it, which is accepted
  pub refused : (on (wr 4 3 ∷ short 0 1 ∷ rd 1 ∷ rd 6 ∷ rd 2 ∷ [])).answers ≡ ok 0 ∷ ok 0 ∷ ok 128 ∷ ok 12 ∷ ok 0 ∷ []
  pub accepted_again : (on (short 0 1 ∷ wr 0 1 ∷ rd 1 ∷ rd 6 ∷ [])).answers ≡ ok 0 ∷ ok 0 ∷ ok 0 ∷ ok 0 ∷ []
  -- the tick of the last accepted run stays shown
  pub tick_kept : (on (wr 4 3 ∷ wr 0 1 ∷ short 0 1 ∷ rd 1 ∷ rd 2 ∷ [])).answers ≡ ok 0 ∷ ok 0 ∷ ok 0 ∷ ok 128 ∷ ok 3 ∷ []
  -- a clearing alone leaves bit 7 and byte 6
  pub cleared : (on (wr 4 4 ∷ wr 0 1 ∷ short 0 1 ∷ rd 1 ∷ wr 0 2 ∷ rd 1 ∷ rd 6 ∷ [])).answers
      ≡ ok 0 ∷ ok 0 ∷ ok 0 ∷ ok 130 ∷ ok 0 ∷ ok 128 ∷ ok 12 ∷ []
  -- "the clearing comes first": a run that finishes sets done again, a refused one does not
  pub both : (on (wr 4 4 ∷ wr 0 1 ∷ wr 0 3 ∷ rd 1 ∷ short 0 3 ∷ rd 1 ∷ [])).answers ≡ ok 0 ∷ ok 0 ∷ ok 0 ∷ ok 2 ∷ ok 0 ∷ ok 128 ∷ []
  -- a new window over a finished state reads 0, until a run of no tick
  pub finished_before : (late (rd 1 ∷ rd 2 ∷ wr 0 1 ∷ rd 1 ∷ rd 2 ∷ [])).answers ≡ ok 0 ∷ ok 0 ∷ ok 0 ∷ ok 2 ∷ ok 4 ∷ []
  pub enabled : (on (wr 7 255 ∷ rd 7 ∷ wr 7 254 ∷ rd 7 ∷ [])).answers ≡ ok 0 ∷ ok 1 ∷ ok 0 ∷ ok 0 ∷ []
  -- refused transactions
  pub turned_back :
      (on (wr 1 1 ∷ wr 2 1 ∷ wr 3 1 ∷ wr 6 1 ∷ wr 8 1 ∷ rd 8 ∷ rd 255 ∷ rd 1 ∷ [])).answers
      ≡ turned 26 ∷ turned 26 ∷ turned 26 ∷ turned 26 ∷ turned 25 ∷ turned 25 ∷ turned 25 ∷ ok 0 ∷ []
  -- the eight bytes, and their number
  pub bytes : bytes_of (window true true) ≡ 0 ∷ 130 ∷ 3 ∷ 2 ∷ 3 ∷ 4 ∷ 12 ∷ 1 ∷ []
  pub value : value_of (window true true) ≡ 75439704723653120
  pub held : registers_in 75439704723653120 ≡ window true true
  pub lines :
      (interrupt_of (window true true) ≡ true) × (interrupt_of (window true false) ≡ false)
      × (interrupt_of (window false true) ≡ false) × (interrupt_of (window false false) ≡ false)
