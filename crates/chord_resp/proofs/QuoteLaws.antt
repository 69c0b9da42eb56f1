-- Words in quotes and without are split off a line.
use Rattle.std.proofs.Common.{◌≡◌, ◌≢◌, ℕ, ◌+◌, ◌*◌, ◌<◌, ◌≤◌, true, false, List, [], ◌∷◌, ◌++◌, length, Option, Some, refl, sym, ap, ◌∙◌, append_assoc, arith, length-append}
use Rattle.std.specs.List.{AllByRecursion}
use Rattle.std.proofs.lemmas.Bool.{ne_eqb}
use Rattle.std.proofs.lemmas.List.{append-nil}
use Rattle.chord_resp.specs.declared.reading.place.Place.{Place}
use Rattle.chord_resp.specs.declared.reading.place.Place.TheVariants as place
use Rattle.chord_resp.specs.Quotes.{Split, split_step, split_from, split_on, hex_value, is_hex, is_space, meant}
use Rattle.chord_resp.specs.Spelling.{IsLineByte, IsInlineByte, IsInlineWord, InDouble, Plain, Escaped, Hex, InSingle, Literal, EscapedQuote, EachIn, Done, Then, Writes, Bare, Double, Single}

abbrev pub at_place : Place → List (List ℕ) → List ℕ → Split
at_place p words word = record { place = p; words = words; word = word }

pub on_by : (s t : Split) (byte : ℕ) (rest : List ℕ) → split_step s byte ≡ Some t → split_from s (byte ∷ rest) ≡ split_from t rest
unfolding split_from
on_by s t byte rest e = ap (λ (o : Option Split). split_on o (λ u. split_from u rest)) e

-- ---- bytes of lines

pub both : (xs ys : List ℕ) → AllByRecursion IsLineByte xs → AllByRecursion IsLineByte ys → AllByRecursion IsLineByte (xs ++ ys)
both [] ys p q = q
both (x ∷ xs) ys p q = (p.0, both xs ys p.1 q)

of_line : (word : List ℕ) → AllByRecursion IsInlineByte word → AllByRecursion IsLineByte word
of_line [] p = p
of_line (b ∷ bs) p = (p.0.3, of_line bs p.1)

pub above_line : (b : ℕ) → 10 < b → IsLineByte b
above_line b more = (λ e. absurd (omega (arith, e)), λ e. absurd (omega (arith, e)))

-- ---- a text is split off

-- the text is read as this word, be it the last or not
pub record IsSplitOff (word text : List ℕ) : Type 0 where
  pub spaced : (ws : List (List ℕ)) (rest : List ℕ) → split_from (at_place place.Gap ws []) (text ++ 32 ∷ rest) ≡ split_from (at_place place.Gap (ws ++ word ∷ []) []) rest
  pub last : (ws : List (List ℕ)) → split_from (at_place place.Gap ws []) text ≡ Some (ws ++ word ∷ [])
  pub clean : AllByRecursion IsLineByte text
  pub some : 1 ≤ length text

-- ---- outside of quotes

module _ (ws : List (List ℕ)) where
  first_byte : (b : ℕ) → IsInlineByte b → split_step (at_place place.Gap ws []) b ≡ Some (at_place place.Bare ws (b ∷ []))
  unfolding split_step
  first_byte b is = rw (is.0, ne_eqb b 34 is.1, ne_eqb b 39 is.2) refl

  bare_byte : (w : List ℕ) (b : ℕ) → IsInlineByte b → split_step (at_place place.Bare ws w) b ≡ Some (at_place place.Bare ws (w ++ b ∷ []))
  unfolding split_step
  bare_byte w b is = rw (is.0, ne_eqb b 34 is.1, ne_eqb b 39 is.2) refl

  bare_bytes : (w bytes rest : List ℕ) → AllByRecursion IsInlineByte bytes → split_from (at_place place.Bare ws w) (bytes ++ rest) ≡ split_from (at_place place.Bare ws (w ++ bytes)) rest
  bare_bytes w [] rest each = ap (λ (q : List ℕ). split_from (at_place place.Bare ws q) rest) (sym (append-nil w))
  bare_bytes w (b ∷ bs) rest each =
      on_by (at_place place.Bare ws w) (at_place place.Bare ws (w ++ b ∷ [])) b (bs ++ rest) (bare_byte w b each.0)
      ∙ bare_bytes (w ++ b ∷ []) bs rest each.1
      ∙ ap (λ (q : List ℕ). split_from (at_place place.Bare ws q) rest) (append_assoc w (b ∷ []) bs)

  bare_word : (b : ℕ) (bs rest : List ℕ) → AllByRecursion IsInlineByte (b ∷ bs) → split_from (at_place place.Gap ws []) ((b ∷ bs) ++ rest) ≡ split_from (at_place place.Bare ws (b ∷ bs)) rest
  bare_word b bs rest each = on_by (at_place place.Gap ws []) (at_place place.Bare ws (b ∷ [])) b (bs ++ rest) (first_byte b each.0) ∙ bare_bytes (b ∷ []) bs rest each.1

  bare_space : (w rest : List ℕ) → split_from (at_place place.Bare ws w) (32 ∷ rest) ≡ split_from (at_place place.Gap (ws ++ w ∷ []) []) rest
  unfolding split_step split_from
  bare_space w rest = refl

  bare_end : (w : List ℕ) → split_from (at_place place.Bare ws w) [] ≡ Some (ws ++ w ∷ [])
  unfolding split_from
  bare_end w = refl

bare_split : (word : List ℕ) → IsInlineWord word → IsSplitOff word word
bare_split [] is = absurd (omega (arith, is.some))
bare_split (b ∷ bs) is = record {
  spaced = λ ws rest. bare_word ws b bs (32 ∷ rest) is.each ∙ bare_space ws (b ∷ bs) rest;
  last = λ ws. ap (split_from (at_place place.Gap ws [])) (sym (append-nil (b ∷ bs))) ∙ bare_word ws b bs [] is.each ∙ bare_end ws (b ∷ bs);
  clean = of_line (b ∷ bs) is.each;
  some = is.some;
}

-- ---- in quotes

closed_space : (ws : List (List ℕ)) (rest : List ℕ) → split_from (at_place place.Closed ws []) (32 ∷ rest) ≡ split_from (at_place place.Gap ws []) rest
unfolding split_step split_from
closed_space ws rest = refl

closed_end : (ws : List (List ℕ)) → split_from (at_place place.Closed ws []) [] ≡ Some ws
unfolding split_from
closed_end ws = refl

no_digit : (n b : ℕ) → b ≡ n → is_hex n ≡ false → is_hex b ≡ true → ⊥
no_digit n b e none is = absurd cc

-- in this place each byte is read that is written so
record ReadsBytes (p : Place) (writes : ℕ → List ℕ → Type 0) : Type 0 where
  byte : (ws : List (List ℕ)) (w : List ℕ) (b : ℕ) (text rest : List ℕ) → writes b text → split_from (at_place p ws w) (text ++ rest) ≡ split_from (at_place p ws (w ++ b ∷ [])) rest
  clean : (b : ℕ) (text : List ℕ) → writes b text → AllByRecursion IsLineByte text

module _ (p : Place) (writes : ℕ → List ℕ → Type 0) (reads : ReadsBytes p writes) where
  bytes_read : (ws : List (List ℕ)) (w word text rest : List ℕ) → EachIn writes word text → split_from (at_place p ws w) (text ++ rest) ≡ split_from (at_place p ws (w ++ word)) rest
  bytes_read ws w word text rest Done = ap (λ (q : List ℕ). split_from (at_place p ws q) rest) (sym (append-nil w))
  bytes_read ws w word text rest (Then b one bs more is each) =
      ap (split_from (at_place p ws w)) (append_assoc one more rest)
      ∙ reads.byte ws w b one (more ++ rest) is
      ∙ bytes_read ws (w ++ b ∷ []) bs more rest each
      ∙ ap (λ (q : List ℕ). split_from (at_place p ws q) rest) (append_assoc w (b ∷ []) bs)

  bytes_clean : (word text : List ℕ) → EachIn writes word text → AllByRecursion IsLineByte text
  bytes_clean word text Done = tt
  bytes_clean word text (Then b one bs more is each) = both one more (reads.clean b one is) (bytes_clean bs more each)

  -- from the quote that opens to the one that closes, which is the same
  record Quotes (mark : ℕ) : Type 0 where
    opens : (ws : List (List ℕ)) → split_step (at_place place.Gap ws []) mark ≡ Some (at_place p ws [])
    closes : (ws : List (List ℕ)) (w : List ℕ) → split_step (at_place p ws w) mark ≡ Some (at_place place.Closed (ws ++ w ∷ []) [])
    clean : IsLineByte mark

  module _ (mark : ℕ) (quotes : Quotes mark) (word text : List ℕ) (each : EachIn writes word text) where
    quoted_read : (ws : List (List ℕ)) (rest : List ℕ) → split_from (at_place place.Gap ws []) ((mark ∷ (text ++ mark ∷ [])) ++ rest) ≡ split_from (at_place place.Closed (ws ++ word ∷ []) []) rest
    quoted_read ws rest =
        on_by (at_place place.Gap ws []) (at_place p ws []) mark ((text ++ mark ∷ []) ++ rest) (quotes.opens ws)
        ∙ ap (split_from (at_place p ws [])) (append_assoc text (mark ∷ []) rest)
        ∙ bytes_read ws [] word text (mark ∷ rest) each
        ∙ on_by (at_place p ws word) (at_place place.Closed (ws ++ word ∷ []) []) mark rest (quotes.closes ws word)

    quoted_split : IsSplitOff word (mark ∷ (text ++ mark ∷ []))
    quoted_split = record {
      spaced = λ ws rest. quoted_read ws (32 ∷ rest) ∙ closed_space (ws ++ word ∷ []) rest;
      last = λ ws. ap (split_from (at_place place.Gap ws [])) (sym (append-nil (mark ∷ (text ++ mark ∷ [])))) ∙ quoted_read ws [] ∙ closed_end (ws ++ word ∷ []);
      clean = (quotes.clean, both text (mark ∷ []) (bytes_clean word text each) (quotes.clean, tt));
      some = omega arith;
    }

-- ---- in double quotes

module _ (ws : List (List ℕ)) (w : List ℕ) where
  plain_step : (b : ℕ) → b ≢ 34 → b ≢ 92 → split_step (at_place place.Double ws w) b ≡ Some (at_place place.Double ws (w ++ b ∷ []))
  unfolding split_step
  plain_step b quote slash = rw (ne_eqb b 34 quote, ne_eqb b 92 slash) refl

  slash_step : split_step (at_place place.Double ws w) 92 ≡ Some (at_place place.Escape ws w)
  unfolding split_step
  slash_step = refl

  escape_step : (b : ℕ) → b ≢ 120 → split_step (at_place place.Escape ws w) b ≡ Some (at_place place.Double ws (w ++ meant b ∷ []))
  unfolding split_step
  escape_step b no_hex = rw (ne_eqb b 120 no_hex) refl

  hex_begins : split_step (at_place place.Escape ws w) 120 ≡ Some (at_place place.Hex ws w)
  unfolding split_step
  hex_begins = refl

  first_digit : (b : ℕ) → is_hex b ≡ true → split_step (at_place place.Hex ws w) b ≡ Some (at_place (place.HexDigit b) ws w)
  unfolding split_step
  first_digit b is = rw is refl

  second_digit : (b c : ℕ) → is_hex c ≡ true → split_step (at_place (place.HexDigit b) ws w) c ≡ Some (at_place place.Double ws (w ++ (hex_value b * 16 + hex_value c) ∷ []))
  unfolding split_step
  second_digit b c is = rw is refl

double_byte : (ws : List (List ℕ)) (w : List ℕ) (b : ℕ) (text rest : List ℕ) → InDouble b text → split_from (at_place place.Double ws w) (text ++ rest) ≡ split_from (at_place place.Double ws (w ++ b ∷ [])) rest
double_byte ws w b text rest (Plain c line quote slash) = on_by (at_place place.Double ws w) (at_place place.Double ws (w ++ c ∷ [])) c rest (plain_step ws w c quote slash)
double_byte ws w b text rest (Escaped c line no_hex) =
    on_by (at_place place.Double ws w) (at_place place.Escape ws w) 92 (c ∷ rest) (slash_step ws w)
    ∙ on_by (at_place place.Escape ws w) (at_place place.Double ws (w ++ meant c ∷ [])) c rest (escape_step ws w c no_hex)
double_byte ws w b text rest (Hex c d one other) =
    on_by (at_place place.Double ws w) (at_place place.Escape ws w) 92 (120 ∷ (c ∷ (d ∷ rest))) (slash_step ws w)
    ∙ on_by (at_place place.Escape ws w) (at_place place.Hex ws w) 120 (c ∷ (d ∷ rest)) (hex_begins ws w)
    ∙ on_by (at_place place.Hex ws w) (at_place (place.HexDigit c) ws w) c (d ∷ rest) (first_digit ws w c one)
    ∙ on_by (at_place (place.HexDigit c) ws w) (at_place place.Double ws (w ++ (hex_value c * 16 + hex_value d) ∷ [])) d rest (second_digit ws w c d other)

hex_line : (b : ℕ) → is_hex b ≡ true → IsLineByte b
hex_line b is = (λ e. absurd (no_digit 0 b e refl is), λ e. absurd (no_digit 10 b e refl is))

double_clean : (b : ℕ) (text : List ℕ) → InDouble b text → AllByRecursion IsLineByte text
double_clean b text (Plain c line quote slash) = (line, tt)
double_clean b text (Escaped c line no_hex) = (above_line 92 (omega arith), (line, tt))
double_clean b text (Hex c d one other) = (above_line 92 (omega arith), (above_line 120 (omega arith), (hex_line c one, (hex_line d other, tt))))

in_double : ReadsBytes place.Double InDouble
in_double = record { byte = double_byte; clean = double_clean }

double_quotes : Quotes place.Double InDouble in_double 34
unfolding split_step
double_quotes = record { opens = λ ws. refl; closes = λ ws w. refl; clean = above_line 34 (omega arith) }

-- ---- in single quotes

module _ (ws : List (List ℕ)) (w : List ℕ) where
  literal_step : (b : ℕ) → b ≢ 39 → b ≢ 92 → split_step (at_place place.Single ws w) b ≡ Some (at_place place.Single ws (w ++ b ∷ []))
  unfolding split_step
  literal_step b quote slash = rw (ne_eqb b 39 quote, ne_eqb b 92 slash) refl

  single_slash : split_step (at_place place.Single ws w) 92 ≡ Some (at_place place.SingleEscape ws w)
  unfolding split_step
  single_slash = refl

  single_quote : split_step (at_place place.SingleEscape ws w) 39 ≡ Some (at_place place.Single ws (w ++ 39 ∷ []))
  unfolding split_step
  single_quote = refl

single_byte : (ws : List (List ℕ)) (w : List ℕ) (b : ℕ) (text rest : List ℕ) → InSingle b text → split_from (at_place place.Single ws w) (text ++ rest) ≡ split_from (at_place place.Single ws (w ++ b ∷ [])) rest
single_byte ws w b text rest (Literal c line quote slash) = on_by (at_place place.Single ws w) (at_place place.Single ws (w ++ c ∷ [])) c rest (literal_step ws w c quote slash)
single_byte ws w b text rest EscapedQuote =
    on_by (at_place place.Single ws w) (at_place place.SingleEscape ws w) 92 (39 ∷ rest) (single_slash ws w)
    ∙ on_by (at_place place.SingleEscape ws w) (at_place place.Single ws (w ++ 39 ∷ [])) 39 rest (single_quote ws w)

single_clean : (b : ℕ) (text : List ℕ) → InSingle b text → AllByRecursion IsLineByte text
single_clean b text (Literal c line quote slash) = (line, tt)
single_clean b text EscapedQuote = (above_line 92 (omega arith), (above_line 39 (omega arith), tt))

in_single : ReadsBytes place.Single InSingle
in_single = record { byte = single_byte; clean = single_clean }

single_quotes : Quotes place.Single InSingle in_single 39
unfolding split_step
single_quotes = record { opens = λ ws. refl; closes = λ ws w. refl; clean = above_line 39 (omega arith) }

-- ---- however it is written

pub written_split : (word text : List ℕ) → Writes word text → IsSplitOff word text
written_split word text (Bare w is) = bare_split w is
written_split word text (Double w bytes each) = quoted_split place.Double InDouble in_double 34 double_quotes w bytes each
written_split word text (Single w bytes each) = quoted_split place.Single InSingle in_single 39 single_quotes w bytes each
