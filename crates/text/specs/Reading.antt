-- What a reader of spelled bytes answers, whatever the spelling.
use Rattle.std.specs.Prelude.{ℕ, List, Option, Some, None}

-- the bytes that are spelled; or none, where no bytes are
pub data Decodes (Spelled : List ℕ → Type 0) : Option (List ℕ) → Type 0 where
  yes_read : {bytes : List ℕ} → Spelled bytes → Decodes Spelled (Some bytes)
  none_read : ((bytes : List ℕ) → Spelled bytes → ⊥) → Decodes Spelled None
