-- What `road` says of an input, by what reading it into a buffer came to.
use Rattle.std.specs.Prelude.{ℕ, ◌<◌, ◌≤◌, ◌≡◌, List, length, Some}
use Rattle.input.specs.declared.Input.{Input}
use Rattle.input.specs.declared.Input.TheVariants.{Full}
use Rattle.input.specs.Reads.{ReadInto, WholeInput}

-- A file that was read whole, of at most 1,048,576 bytes, is printed.
pub record ToPrint (buffer : List ℕ) (input : Input) (file : List ℕ) : Type 0 where
  pub whole : WholeInput buffer input file
  pub most : length file ≤ 1048576

-- That a file is longer is told only where more bytes were read, and no room is left.
pub record ToTell (buffer : List ℕ) (input : Input) : Type 0 where
  pub full : input ≡ Full
  pub longer : 1048576 < length buffer

-- An input read into a buffer with room for one byte more than the longest file.
pub record InRoom (buffer : List ℕ) (input : Input) : Type 0 where
  pub read : ReadInto (length buffer) (Some input)
  pub room : length buffer ≡ 1048577
