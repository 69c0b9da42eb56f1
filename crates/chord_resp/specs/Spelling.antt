-- How a client writes a command. Source: the published RESP specification, version 2; the limits
-- are our own.
use Rattle.std.specs.Prelude.{◌≡◌, ◌≢◌, ℕ, true, false, ◌+◌, ◌*◌, ◌<◌, ◌≤◌, List, [], ◌∷◌, ◌++◌, map, take, drop, length, slice_index, decimal}
use Rattle.std.specs.List.{flat_map, sum_by, AllByRecursion}
use Rattle.chord_resp.specs.declared.reading.word.Word.{Word}
use Rattle.chord_resp.specs.declared.reading.word.Word.TheVariants.{Long}
use Rattle.chord_resp.specs.Foreign.{is_foreign}
use Rattle.chord_resp.specs.Machine.{word_of}
use Rattle.chord_resp.specs.Quotes.{hex_value, is_hex, is_space, meant}

-- the end of a line, `\r\n`
abbrev pub newline : List ℕ
newline = 13 ∷ 10 ∷ []

-- a word: `$`, its length in decimal digits, and its bytes
abbrev pub bulk : List ℕ → List ℕ
bulk word = (36 ∷ decimal (length word)) ++ (newline ++ (word ++ newline))

-- a command: `*`, how many words it has, and the words
abbrev pub array : List (List ℕ) → List ℕ
array words = (42 ∷ decimal (length words)) ++ (newline ++ flat_map bulk words)

-- words that have this spelling: 1 to 1,024, of at most 1,048,576 bytes
pub record AreWords (words : List (List ℕ)) : Type 0 where
  pub some : 1 ≤ length words
  pub few : length words ≤ 1024
  pub each : AllByRecursion (λ (word : List ℕ). length word ≤ 1048576) words

-- words of a longer command that is read: up to 1,048,576, with at most 512 MiB together
pub record AreManyWords (words : List (List ℕ)) : Type 0 where
  pub many : 1024 < length words
  pub few : length words ≤ 1048576
  pub each : AllByRecursion (λ (word : List ℕ). length word ≤ 1048576) words
  pub total : sum_by (λ (word : List ℕ). length word) words ≤ 536870912

-- what is known of them: the first 1,024, and the length of the next one
abbrev pub words_known : List (List ℕ) → List Word
words_known words = map word_of (take 1024 words) ++ map (λ (word : List ℕ). Long (length word)) (take 1 (drop 1024 words))

-- ---- inline commands

-- a byte of a line is no 0 and no `\n`
abbrev pub IsLineByte : ℕ → Type 0
IsLineByte byte = (byte ≢ 0) × (byte ≢ 10)

-- a line before its `\n`: at most 65,536 bytes; it does not begin with `*`
pub record IsLine (line : List ℕ) : Type 0 where
  pub each : AllByRecursion IsLineByte line
  pub no_array : slice_index line 0 ≢ 42
  pub short : length line ≤ 65536

-- a byte of a word outside of quotes is no space and no quote either
abbrev pub IsInlineByte : ℕ → Type 0
IsInlineByte byte = (is_space byte ≡ false) × (byte ≢ 34) × (byte ≢ 39) × IsLineByte byte

-- a word outside of quotes has a byte
pub record IsInlineWord (word : List ℕ) : Type 0 where
  pub some : 1 ≤ length word
  pub each : AllByRecursion IsInlineByte word

-- how a byte is written in double quotes: as it is, as the byte that stands for it behind `\`, or as
-- two hexadecimal digits behind `\x`
pub data InDouble : ℕ → List ℕ → Type 0 where
  Plain : (byte : ℕ) → IsLineByte byte → byte ≢ 34 → byte ≢ 92 → InDouble byte (byte ∷ [])
  Escaped : (byte : ℕ) → IsLineByte byte → byte ≢ 120 → InDouble (meant byte) (92 ∷ byte ∷ [])
  Hex : (first second : ℕ) → is_hex first ≡ true → is_hex second ≡ true
      → InDouble (hex_value first * 16 + hex_value second) (92 ∷ 120 ∷ first ∷ second ∷ [])

-- how a byte is written in single quotes
pub data InSingle : ℕ → List ℕ → Type 0 where
  Literal : (byte : ℕ) → IsLineByte byte → byte ≢ 39 → byte ≢ 92 → InSingle byte (byte ∷ [])
  EscapedQuote : InSingle 39 (92 ∷ 39 ∷ [])

-- each byte is written so, one behind the other
pub data EachIn (Writes : ℕ → List ℕ → Type 0) : List ℕ → List ℕ → Type 0 where
  Done : EachIn Writes [] []
  Then : (byte : ℕ) (text bytes more : List ℕ) → Writes byte text → EachIn Writes bytes more → EachIn Writes (byte ∷ bytes) (text ++ more)

-- how a word is written: as it is, or in quotes of either kind
pub data Writes : List ℕ → List ℕ → Type 0 where
  Bare : (word : List ℕ) → IsInlineWord word → Writes word word
  Double : (word text : List ℕ) → EachIn InDouble word text → Writes word (34 ∷ (text ++ 34 ∷ []))
  Single : (word text : List ℕ) → EachIn InSingle word text → Writes word (39 ∷ (text ++ 39 ∷ []))

-- each word is written so
abbrev pub WritesEach : List (List ℕ) → List (List ℕ) → Type 0
WritesEach [] [] = Unit {0}
WritesEach (word ∷ words) (text ∷ texts) = Writes word text × WritesEach words texts
WritesEach _ _ = ⊥

-- the words behind the first, each behind a space, and the end of the line
abbrev pub behind : List (List ℕ) → List ℕ
behind [] = newline
behind (word ∷ words) = 32 ∷ (word ++ behind words)

-- an inline command: its words with spaces between them, in one line
abbrev pub inline : List ℕ → List (List ℕ) → List ℕ
inline word words = word ++ behind words

-- words that are written so: at most 1,024, of at most 65,536 bytes with their spaces and the `\r`;
-- the first does not begin with `*`, and they are none of HTTP
pub record AreInline (word text : List ℕ) (words texts : List (List ℕ)) : Type 0 where
  pub first : Writes word text
  pub others : WritesEach words texts
  pub no_array : slice_index text 0 ≢ 42
  pub few : length words < 1024
  pub short : length (inline text texts) ≤ 65537
  pub ours : is_foreign (word ∷ words) ≡ false
