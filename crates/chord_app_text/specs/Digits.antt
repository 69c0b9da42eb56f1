-- Bytes that are written as hexadecimal digits. Source: our own.
use Rattle.std.specs.Prelude.{◌≡◌, ℕ, ◌%◌, ◌<◌, if◌then◌else◌, bytes_eq, codes, List, [], length, Option, Some, None}
use Rattle.std.specs.List.{AllPass}
use Rattle.std.specs.Char.{is_ascii_hexdigit}
use Rattle.std.specs.Result.{result_ok}
use Rattle.hex.specs.Hex.{decode_of}

-- the bytes that a word writes: pairs of hexadecimal digits of either case, or `-` for none
abbrev pub bytes_in : List ℕ → Option (List ℕ)
bytes_in word =
    if bytes_eq word (codes "-") then Some []
    else if bytes_eq word [] then None
    else result_ok (decode_of word)

-- pairs of hexadecimal digits, and at least one
pub record ArePairs (word : List ℕ) : Type 0 where
  pub some : 0 < length word
  pub even : length word % 2 ≡ 0
  pub digits : AllPass is_ascii_hexdigit word
