-- How many bytes were read. Source: our own.
use Rattle.std.specs.Prelude.{ℕ, ◌+◌, ◌*◌, ◌≤◌, List, length, Option, Some, None}
use Rattle.chord_serve.specs.declared.read_size.ReadSize.{ReadSize}
use Rattle.chord_serve.specs.declared.read_size.ReadSize.TheVariants.{Small, Large}

-- if the bytes left are known, `least` to `most` of them were read
abbrev pub ReadsBetween : ℕ → ℕ → Option (List ℕ) → Option (List ℕ) → Type 0
ReadsBetween least most None after = Unit {0}
ReadsBetween least most (Some left) None = ⊥
ReadsBetween least most (Some left) (Some after) = (length after + least ≤ length left) × (length left ≤ length after + most)

-- at most `turns` reads of up to `most` bytes each were made, and if all of them were spent, each
-- took at least one byte
abbrev pub ReadsInTurns : (spent : Type 0) → (most turns : ℕ) → (before after : Option (List ℕ)) → Type 0
ReadsInTurns spent most turns before after = ReadsBetween 0 (most * turns) before after × (spent → ReadsBetween turns (most * turns) before after)

-- how many bytes one read takes at most
abbrev pub most_bytes : ReadSize → ℕ
most_bytes Small = 4096
most_bytes Large = 65536

-- what the last read took
pub record Taken : Type 0 where
  pub size : ReadSize
  pub bytes : List ℕ
