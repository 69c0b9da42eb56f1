-- What a write and a cut do to a file whose bytes are known. Source: our own.
use Rattle.std.specs.Prelude.{◌≡◌, ℕ, List, length, take, Option, Result, Ok, Err}
use Rattle.std.specs.Option.{option_map}
use Rattle.std.specs.Io.KnownBytes.{append_known}
use Rattle.chord_journal_file.specs.declared.journal_file.WriteFault.{WriteFault}
use Rattle.chord_journal_file.specs.declared.journal_file.WriteFault.TheVariants.{Refused, Lost}

-- bytes were added, as many as the write says; where it failed, nobody knows how many
abbrev pub AddsSome : {E : Type 0} → Option (List ℕ) → Option (List ℕ) → Result ℕ E → List ℕ → Type 0
AddsSome old new (Ok n) bytes = new ≡ append_known old (take n bytes)
AddsSome old new (Err error) bytes = (some : List ℕ) × (new ≡ append_known old some)

-- all of the bytes were added; where that failed, nobody knows how many
abbrev pub Adds : {E : Type 0} → Option (List ℕ) → Option (List ℕ) → Result (Unit {0}) E → List ℕ → Type 0
Adds old new (Ok done) bytes = new ≡ append_known old bytes
Adds old new (Err error) bytes = (some : List ℕ) × (new ≡ append_known old some)

-- only this many bytes were kept
abbrev pub CutTo : Option (List ℕ) → Option (List ℕ) → ℕ → Type 0
CutTo old new n = new ≡ option_map (take n) old

-- known bytes are this many
abbrev pub HasLength : Option (List ℕ) → ℕ → Type 0
HasLength held n = option_map length held ≡ option_map (λ (_ : List ℕ). n) held

-- all of the bytes were added, or none; where the file could not be cut back, nobody knows
abbrev pub AddsAll : Option (List ℕ) → Option (List ℕ) → Result (Unit {0}) WriteFault → List ℕ → Type 0
AddsAll old new (Ok done) bytes = new ≡ append_known old bytes
AddsAll old new (Err (Refused kind)) bytes = new ≡ old
AddsAll old new (Err (Lost kind)) bytes = Unit {0}
