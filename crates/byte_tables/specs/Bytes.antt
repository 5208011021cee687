-- Document 01: "The card's host, written in C, calls the elimination on byte slices, two bytes a word, low byte first".
use Rattle.std.specs.Prelude.{ℕ, ◌+◌, ◌*◌, ◌/◌, ◌%◌, List, [], ◌∷◌}

-- The words of a memory of bytes. An odd byte at the end is no word.
unfoldable pub decoded : List ℕ → List ℕ
decoded [] = []
decoded (low ∷ []) = []
decoded (low ∷ high ∷ bytes) = (low + 256 * high) ∷ decoded bytes

-- The bytes of a memory of words.
unfoldable pub encoded : List ℕ → List ℕ
encoded [] = []
encoded (word ∷ words) = (word % 256) ∷ (word / 256) ∷ encoded words
