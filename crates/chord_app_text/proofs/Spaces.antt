-- What of a line is left behind its first word.
use Rattle.std.proofs.Common.{◌≡◌, ℕ, ◌+◌, ◌<◌, ◌==◌, Bool, true, false, not, List, [], ◌∷◌, length, take, get_or, Option, Some, None, Bor, refl, sym, ap, ◌∙◌, arith}
use Rattle.std.specs.List.{All, slice_split, before_first, after_first, position_or_len}
use Rattle.std.proofs.lemmas.List.Splits.{length-slice_split, slice_split_first, slice_split_none}
use Rattle.std.proofs.lemmas.List.Sums.{fails_before_first}
use Rattle.std.proofs.lemmas.Str.Pattern.{IsSplitOnceResult, split_once_first}
use Rattle.chord_app_text.specs.Words.{is_none_of, words_in, words_of}

none_if_empty : (words : List (List ℕ)) → 0 < length words → is_none_of words ≡ false
none_if_empty [] some = absurd (omega (arith, some))
none_if_empty (word ∷ words) some = refl

-- a line has a word
pub some_word : (line : List ℕ) → is_none_of (words_of line) ≡ false
some_word line =
    let count = length-slice_split (λ byte. byte == 32) line in
    none_if_empty (words_of line) (omega (arith, count))

-- so there is one where something is left
pub some_left : (rest : Option (Bor (List ℕ))) (line : Bor (List ℕ)) → rest ≡ Some line
    → is_none_of (words_in rest) ≡ false
some_left rest line is = rw is (some_word line.now)

-- a line without a space is one word
pub one_word : (line : List ℕ) → position_or_len (λ byte. byte == 32) line ≡ length line
    → words_of line ≡ line ∷ []
one_word line none =
    slice_split_none (λ byte. byte == 32) line
    (λ k d lt. fails_before_first (λ byte. byte == 32) line k d (rw none lt))

module _ (line : List ℕ) (r : Option (Bor (List ℕ) × Bor (List ℕ))) (split : IsSplitOnceResult 32 line r) where
  pub first_word : (x : Bor (List ℕ) × Bor (List ℕ)) → r ≡ Some x
      → words_of line ≡ x.0.now ∷ words_of x.1.now
  first_word x is =
      let (inside, front, back) = rw is at (split_once_first 32 line r split (omega arith)) in
      rw (front, back) (slice_split_first (λ byte. byte == 32) line 0 inside)

  pub last_word : r ≡ None → words_of line ≡ line ∷ []
  last_word is = one_word line (rw is at (split_once_first 32 line r split (omega arith)))
