-- A line is read.
use Rattle.std.proofs.Common.{◌≡◌, ◌≢◌, ℕ, ◌+◌, ◌-◌, ◌<◌, ◌≤◌, false, leb, ltb, eqb, List, [], ◌∷◌, ◌++◌, map, length, get_or, Option, Some, refl, sym, ap, subst, ◌∙◌, append_assoc, arith, length-append}
use Rattle.std.specs.List.{AllByRecursion}
use Rattle.std.proofs.lemmas.Bool.{ne_eqb}
use Rattle.std.proofs.lemmas.Bool.Decides.{nat_tests}
use Rattle.std.proofs.lemmas.List.{take_at, append-nil}
use Rattle.chord_resp.specs.declared.reading.phase.Phase.TheVariants as phase
use Rattle.chord_resp.specs.declared.reading.place.Place.TheVariants as place
use Rattle.chord_resp.specs.declared.reading.protocol_error.ProtocolError.TheVariants.{Foreign}
use Rattle.chord_resp.specs.declared.reading.word.Word.{Word}
use Rattle.chord_resp.specs.Foreign.{is_foreign}
use Rattle.chord_resp.specs.Machine.{Outcome, State, Goes, Gives, Fails, nothing, start, step, word_of, without_return, line_given, line_of}
use Rattle.chord_resp.specs.Quotes.{split_from, words_in}
use Rattle.chord_resp.specs.Reading.{reading, after, with_commands, Broken}
use Rattle.chord_resp.specs.Spelling.{behind, inline, IsLineByte, IsLine, Writes, WritesEach, AreInline, newline}
use Rattle.chord_resp.proofs.NumberLaws.{at, goes_by}
use Rattle.chord_resp.proofs.QuoteLaws.{at_place, above_line, both, written_split}

-- ---- bytes of a line

fits : (p : List ℕ) → length p < 65536 → leb 65536 (length p) ≡ false
fits p lt = grind (arith, nat_tests)

line_byte : (p : List ℕ) (byte : ℕ) → IsLineByte byte → length p < 65536 → step (at phase.Line nothing [] p) byte ≡ Goes (at phase.Line nothing [] (p ++ byte ∷ []))
unfolding step
line_byte p byte is lt = rw (ne_eqb byte 10 is.1, ne_eqb byte 0 is.0, fits p lt) refl

line_bytes : (p bytes rest : List ℕ) → AllByRecursion IsLineByte bytes → length p + length bytes ≤ 65536
    → reading (at phase.Line nothing [] p) (bytes ++ rest) ≡ reading (at phase.Line nothing [] (p ++ bytes)) rest
line_bytes p [] rest each le = rw (append-nil p) refl
line_bytes p (byte ∷ bytes) rest each le =
    let one : length (p ++ byte ∷ []) ≡ length p + 1 = length-append p (byte ∷ []) in
    goes_by (at phase.Line nothing [] p) (at phase.Line nothing [] (p ++ byte ∷ [])) byte (bytes ++ rest) (line_byte p byte each.0 (omega arith))
    ∙ line_bytes (p ++ byte ∷ []) bytes rest each.1 (omega (arith, one))
    ∙ ap (λ (q : List ℕ). reading (at phase.Line nothing [] q) rest) (append_assoc p (byte ∷ []) bytes)

-- a line begins as one that has begun
begins : (b : ℕ) → eqb b 42 ≡ false → step start b ≡ step (at phase.Line nothing [] []) b
unfolding step
begins b ne = rw ne refl

as_line : (b : ℕ) (rest : List ℕ) → eqb b 42 ≡ false → reading start (b ∷ rest) ≡ reading (at phase.Line nothing [] []) (b ∷ rest)
unfolding reading
as_line b rest ne = ap (λ (o : Outcome). after o (λ t. reading t rest)) (begins b ne)

-- the bytes of a line, and one more
line_and : (line : List ℕ) (b : ℕ) (rest : List ℕ) → IsLine line → eqb b 42 ≡ false → reading start (line ++ b ∷ rest) ≡ reading (at phase.Line nothing [] line) (b ∷ rest)
line_and [] b rest is ne = as_line b rest ne
line_and (c ∷ cs) b rest is ne = as_line c (cs ++ b ∷ rest) (ne_eqb c 42 is.no_array) ∙ line_bytes [] (c ∷ cs) (b ∷ rest) is.each (omega (arith, is.short))

ended : (p rest : List ℕ) → reading (at phase.Line nothing [] p) (10 ∷ rest) ≡ after (line_of (words_in (without_return p))) (λ t. reading t rest)
unfolding reading step
ended p rest = refl

broken : (p rest : List ℕ) → reading (at phase.Line nothing [] p) (0 ∷ rest) ≡ record { commands = []; ending = Broken Foreign }
unfolding reading step
broken p rest = refl

pub line_read : (line rest : List ℕ) → IsLine line → reading start (line ++ 10 ∷ rest) ≡ after (line_of (words_in (without_return line))) (λ t. reading t rest)
line_read line rest is = line_and line 10 rest is refl ∙ ended line rest

pub zero_refused : (front rest : List ℕ) → IsLine front → reading start (front ++ 0 ∷ rest) ≡ record { commands = []; ending = Broken Foreign }
zero_refused front rest is = line_and front 0 rest is refl ∙ broken front rest

-- ---- the words of a line

last_of : (p : List ℕ) (byte d : ℕ) → get_or (p ++ byte ∷ []) (length p) d ≡ byte
last_of [] byte d = refl
last_of (x ∷ p) byte d = last_of p byte d

without : (p : List ℕ) → without_return (p ++ 13 ∷ []) ≡ p
without p =
    let count : length (p ++ 13 ∷ []) - 1 ≡ length p = omega (arith, length-append p (13 ∷ [])) in
    rw (count, last_of p 13 0) (take_at p (13 ∷ []) (length p) refl)

-- the words behind the first, each behind a space
spaced : List (List ℕ) → List ℕ
spaced [] = []
spaced (word ∷ words) = 32 ∷ (word ++ spaced words)

behind_is : (words : List (List ℕ)) → behind words ≡ spaced words ++ newline
unfolding spaced
behind_is [] = refl
behind_is (word ∷ words) = ap (λ (xs : List ℕ). 32 ∷ (word ++ xs)) (behind_is words) ∙ ap (λ (xs : List ℕ). 32 ∷ xs) (sym (append_assoc word (spaced words) newline))

spaced_words : (ws words texts : List (List ℕ)) (word text : List ℕ) → Writes word text → WritesEach words texts
    → split_from (at_place place.Gap ws []) (text ++ spaced texts) ≡ Some (ws ++ word ∷ words)
unfolding spaced
spaced_words ws [] [] word text is each =
    ap (split_from (at_place place.Gap ws [])) (append-nil text) ∙ (written_split word text is).last ws
spaced_words ws [] (other ∷ texts) word text is each = absurd each
spaced_words ws (next ∷ words) [] word text is each = absurd each
spaced_words ws (next ∷ words) (other ∷ texts) word text is each =
    (written_split word text is).spaced ws (other ++ spaced texts)
    ∙ spaced_words (ws ++ word ∷ []) words texts next other each.0 each.1
    ∙ ap (λ (all : List (List ℕ)). Some all) (append_assoc ws (word ∷ []) (next ∷ words))

-- ---- a command with single spaces

is_32 : IsLineByte 32
is_32 = above_line 32 (omega arith)

is_13 : IsLineByte 13
is_13 = above_line 13 (omega arith)

spaced_line : (words texts : List (List ℕ)) → WritesEach words texts → AllByRecursion IsLineByte (spaced texts)
unfolding spaced
spaced_line [] [] p = tt
spaced_line [] (text ∷ texts) p = absurd p
spaced_line (word ∷ words) [] p = absurd p
spaced_line (word ∷ words) (text ∷ texts) p = (is_32, both text (spaced texts) (written_split word text p.0).clean (spaced_line words texts p.1))

first_of : (word xs : List ℕ) → 1 ≤ length word → get_or (word ++ xs) 0 0 ≡ get_or word 0 0
first_of [] xs some = absurd (omega (arith, some))
first_of (b ∷ bs) xs some = refl

given : (words : List (List ℕ)) (word : List ℕ) (rest : List ℕ) → is_foreign (word ∷ words) ≡ false → length words < 1024
    → after (line_of (Some (word ∷ words))) (λ t. reading t rest) ≡ with_commands ((word_of word ∷ map word_of words) ∷ []) (reading start rest)
given words word rest ours few =
    let enough : ltb 1024 (length (word ∷ words)) ≡ false = grind (arith, nat_tests) in
    rw (ours, enough) refl

pub inline_read : (word text : List ℕ) (words texts : List (List ℕ)) (rest : List ℕ) → AreInline word text words texts
    → reading start (inline text texts ++ rest) ≡ with_commands ((word_of word ∷ map word_of words) ∷ []) (reading start rest)
inline_read word text words texts rest are =
    let front = text ++ spaced texts in
    let line = front ++ 13 ∷ [] in
    let first = written_split word text are.first in
    let spelled : inline text texts ++ rest ≡ line ++ 10 ∷ rest =
    ap (λ (xs : List ℕ). (text ++ xs) ++ rest) (behind_is texts) ∙ ap (λ (xs : List ℕ). xs ++ rest) (sym (append_assoc text (spaced texts) newline))
    ∙ append_assoc front newline rest ∙ sym (append_assoc front (13 ∷ []) (10 ∷ rest)) in
    let whole : length (inline text texts) ≡ length front + 2 =
    ap (λ (xs : List ℕ). length (text ++ xs)) (behind_is texts) ∙ ap length (sym (append_assoc text (spaced texts) newline)) ∙ length-append front newline in
    let is : IsLine line = record {
      each = both front (13 ∷ []) (both text (spaced texts) first.clean (spaced_line words texts are.others)) (is_13, tt);
      no_array = λ e. are.no_array (sym (ap (λ (xs : List ℕ). get_or xs 0 0) (append_assoc text (spaced texts) (13 ∷ [])) ∙ first_of text (spaced texts ++ 13 ∷ []) first.some) ∙ e);
      short = omega (arith, are.short, whole, length-append front (13 ∷ []));
    } in
    ap (reading start) spelled
    ∙ line_read line rest is
    ∙ ap (λ (ws : Option (List (List ℕ))). after (line_of ws) (λ t. reading t rest)) (ap words_in (without front) ∙ spaced_words [] words texts word text are.first are.others)
    ∙ given words word rest are.ours are.few
