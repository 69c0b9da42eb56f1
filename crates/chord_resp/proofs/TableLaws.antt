-- Operands that are taken one by one, and commands with too many words.
use Rattle.std.proofs.Common.{◌≡◌, ℕ, ◌+◌, ◌<◌, true, leb, List, [], ◌∷◌, ◌++◌, length, map, take, drop, Result, Ok, Err, refl, ap, ◌∙◌, append_assoc, arith, length-append}
use Rattle.std.proofs.lemmas.Bool.{le-leb}
use Rattle.std.proofs.lemmas.List.{length-drop, length-map, length-take-le}
use Rattle.chord_resp.specs.declared.reading.word.Word.{Word}
use Rattle.chord_resp.specs.declared.table.operand.Operand.{Operand}
use Rattle.chord_resp.specs.declared.table.refusal.Refusal.{Refusal}
use Rattle.chord_resp.specs.declared.reading.word.Word.TheVariants.{Long}
use Rattle.chord_resp.specs.declared.table.refusal.Refusal.TheVariants.{TooManyWords}
use Rattle.chord_resp.specs.Machine.{word_of}
use Rattle.chord_resp.specs.Spelling.{AreManyWords, words_known}
use Rattle.chord_resp.specs.Table.{◌>>=◌, bytes_of, command_of, each}

-- the operands read so far, before those that are left
abbrev pub with_front : List (List ℕ) → Result (List (List ℕ)) Refusal → Result (List (List ℕ)) Refusal
with_front front read = read >>= λ more. Ok (front ++ more)

joined : (front : List (List ℕ)) (bytes : List ℕ) (read : Result (List (List ℕ)) Refusal) → with_front (front ++ bytes ∷ []) read ≡ with_front front (read >>= λ more. Ok (bytes ∷ more))
joined front bytes (Ok more) = ap (λ (all : List (List ℕ)). Ok all) (append_assoc front (bytes ∷ []) more)
joined front bytes (Err e) = refl

pub one_more : (o : Operand) (front : List (List ℕ)) (word : Word) (words : List Word) (bytes : List ℕ) → bytes_of o word ≡ Ok bytes
    → with_front (front ++ bytes ∷ []) (each o words) ≡ with_front front (each o (word ∷ words))
one_more o front word words bytes is = rw is (joined front bytes (each o words))

pub one_bad : (o : Operand) (front : List (List ℕ)) (word : Word) (words : List Word) (e : Refusal) → bytes_of o word ≡ Err e
    → with_front front (each o (word ∷ words)) ≡ Err e
one_bad o front word words e is = rw is refl

-- ---- too many words

too_many : (ws : List Word) → 1024 < length ws → command_of ws ≡ Err TooManyWords
unfolding command_of
too_many [] many = absurd (omega (arith, many))
too_many (name ∷ words) many =
    let more : leb 1024 (length words) ≡ true = le-leb 1024 (length words) (omega (arith, many)) in
    rw more refl

pub many_refused : (words : List (List ℕ)) → AreManyWords words → command_of (words_known words) ≡ Err TooManyWords
many_refused words are =
    let first = map word_of (take 1024 words) in
    let next = map (λ (word : List ℕ). Long (length word)) (take 1 (drop 1024 words)) in
    let count : length first ≡ 1024 = length-map (take 1024 words) word_of ∙ length-take-le 1024 words (omega (arith, are.many)) in
    let one : length next ≡ 1 = length-map (take 1 (drop 1024 words)) (λ (word : List ℕ). Long (length word)) ∙ length-take-le 1 (drop 1024 words) (omega (arith, are.many, length-drop 1024 words)) in
    too_many (words_known words) (omega (arith, length-append first next, count, one))
