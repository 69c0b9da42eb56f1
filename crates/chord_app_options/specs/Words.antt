-- The words that a command line takes as a number and as stores. Source: our own.
use Rattle.std.specs.Prelude.{◌≡◌, ℕ, ◌≤◌, ◌<◌, ◌⊎◌, ◌^◌, List, length}
use Rattle.std.specs.List.{All}
use Rattle.std.specs.Str.Parse.{IsNumeral, digits_value, without_leading_plus}
use Rattle.chord_app_options.specs.declared.serve.RingSource.{RingSource}
use Rattle.chord_app_options.specs.declared.serve.RingSource.TheVariants.{Plan, Even}

-- from the least to the most
abbrev pub IsWithin : ℕ → ℕ → ℕ → Type 0
IsWithin least most number = (least ≤ number) × (number ≤ most)

-- a decimal numeral, with a plus before it or not, of a number from the least to the most
abbrev pub IsNumberFrom : ℕ → ℕ → List ℕ → ℕ → Type 0
IsNumberFrom least most word number =
    IsNumeral 10 (without_leading_plus word) × (digits_value 10 (without_leading_plus word) ≡ number) × IsWithin least most number

-- a plan, or 1 to 64 nodes without one
abbrev pub IsSource : RingSource → Type 0
IsSource (Plan path) = Unit {0}
IsSource (Even nodes) = IsWithin 1 64 nodes

-- one of a number from 1 to 65,535
abbrev pub IsSmall : List ℕ → ℕ → Type 0
IsSmall word number =
    IsNumeral 10 (without_leading_plus word) × (digits_value 10 (without_leading_plus word) ≡ number) × (1 ≤ number) × (number < 2 ^ 16)

-- t, l, n or c
abbrev pub IsStoreLetter : ℕ → Type 0
IsStoreLetter letter = (letter ≡ 116) ⊎ (letter ≡ 108) ⊎ (letter ≡ 110) ⊎ (letter ≡ 99)

-- 1 to 64 such letters
abbrev pub NameStores : List ℕ → Type 0
NameStores word = (1 ≤ length word) × (length word ≤ 64) × All IsStoreLetter word
