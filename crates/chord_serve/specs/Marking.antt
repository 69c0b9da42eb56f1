-- Up to where changes are that an answer may show. Source: our own.
use Rattle.std.specs.Prelude.{◌≡◌, ℕ, max}

-- the mark is the greater of the old one and one that was told
abbrev pub NotesMark : (ℕ → Type 0) → ℕ → ℕ → Type 0
NotesMark tells old new = (told : ℕ) × tells told × (new ≡ max old told)
