-- Lines that have a mark and a number of one or two digits. Source: our own.
use Rattle.std.specs.Prelude.{◌≡◌, ◌⊎◌, ℕ, ◌+◌, ◌*◌, ◌<◌, ◌≤◌, List, length, get_or}

-- the byte at this index is this digit
pub record HasDigit (bytes : List ℕ) (index digit : ℕ) : Type 0 where
  pub there : index < length bytes
  pub byte : get_or bytes index 0 ≡ 48 + digit
  pub few : digit ≤ 9

-- the two bytes from this index on end a line
pub record EndsLine (bytes : List ℕ) (index : ℕ) : Type 0 where
  pub there : index + 1 < length bytes
  pub return : get_or bytes index 0 ≡ 13
  pub newline : get_or bytes (index + 1) 0 ≡ 10

-- behind its first byte the line has one digit, which is this number
pub record HasOneDigit (bytes : List ℕ) (number upto : ℕ) : Type 0 where
  pub digit : HasDigit bytes 1 number
  pub line : EndsLine bytes 2
  pub end : upto ≡ 4

-- behind its first byte the line has two digits, which are this number
pub record HasTwoDigits (bytes : List ℕ) (number upto : ℕ) : Type 0 where
  pub tens : ℕ
  pub ones : ℕ
  pub first : HasDigit bytes 1 tens
  pub second : HasDigit bytes 2 ones
  pub line : EndsLine bytes 3
  pub value : number ≡ tens * 10 + ones
  pub end : upto ≡ 5

-- the bytes up to this index are a mark, the digits of this number and a line's end
abbrev pub HasShortLine : List ℕ → (number upto : ℕ) → Type 0
HasShortLine bytes number upto = HasOneDigit bytes number upto ⊎ HasTwoDigits bytes number upto
