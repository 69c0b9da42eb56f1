-- What a client is answered. Source: the published RESP specification, version 2.
use Rattle.std.specs.Prelude.{◌≡◌, ℕ, List, ◌∷◌, ◌++◌, length, take, decimal, codes, Result, Ok, Err}
use Rattle.std.specs.List.{flat_map}
use Rattle.std.specs.declared.alloc.AllocError.{AllocError}
use Rattle.chord_resp.specs.Spelling.{newline, bulk}

-- a line behind its mark
abbrev pub line : ℕ → List ℕ → List ℕ
line mark text = (mark ∷ text) ++ newline

-- `+` and a text
abbrev pub simple : List ℕ → List ℕ
simple text = line 43 text

-- `-` and a text, which begins with the kind of error
abbrev pub error : List ℕ → List ℕ
error text = line 45 text

-- `:` and a number
abbrev pub integer : ℕ → List ℕ
integer number = line 58 (decimal number)

-- no value
abbrev pub null : List ℕ
null = codes "$-1\r\n"

-- `*` and how many items follow
abbrev pub count : ℕ → List ℕ
count items = line 42 (decimal items)

-- an array of bulk strings
abbrev pub bulks : List (List ℕ) → List ℕ
bulks items = count (length items) ++ flat_map bulk items

-- an array of integers
abbrev pub integers : List ℕ → List ℕ
integers items = count (length items) ++ flat_map integer items

-- the bytes were added to the output; none if memory ran out
abbrev pub Joins : Result (Unit {0}) AllocError → List ℕ → List ℕ → List ℕ → Type 0
Joins (Ok done) old new bytes = new ≡ old ++ bytes
Joins (Err refused) old new bytes = new ≡ old

-- the bytes were added to the output; if memory ran out, what was there before is there still
abbrev pub Grows : Result (Unit {0}) AllocError → List ℕ → List ℕ → List ℕ → Type 0
Grows (Ok done) old new bytes = new ≡ old ++ bytes
Grows (Err refused) old new bytes = take (length old) new ≡ old
