-- "two bytes a word, low byte first": words in their bytes, worked out apart from the definitions, which could be exchanged alike.
use Rattle.std.specs.Prelude.{◌≡◌, [], ◌∷◌}
use Rattle.byte_tables.specs.Bytes.{decoded, encoded}

pub record ByteCards : Type 0 where
  -- 1 and 2 are 1 + 2 · 256, and none is 65535 either way
  pub read : decoded (1 ∷ 2 ∷ 255 ∷ 255 ∷ 0 ∷ 1 ∷ []) ≡ 513 ∷ 65535 ∷ 256 ∷ []
  pub written : encoded (513 ∷ 65535 ∷ 256 ∷ []) ≡ 1 ∷ 2 ∷ 255 ∷ 255 ∷ 0 ∷ 1 ∷ []
  pub odd : decoded (1 ∷ 2 ∷ 3 ∷ []) ≡ 513 ∷ []
