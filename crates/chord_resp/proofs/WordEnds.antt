-- The end of a word, read together, and a reading that goes on.
use Rattle.std.proofs.Common.{◌≡◌, ℕ, ◌+◌, ◌-◌, ◌<◌, false, leb, take, drop, List, [], ◌∷◌, ◌++◌, length, refl, ap, ◌∙◌, arith}
use Rattle.std.proofs.lemmas.Bool.Decides.{nat_tests}
use Rattle.std.proofs.lemmas.List.{drop-drop, length-drop, take_rest}
use Rattle.chord_resp.specs.declared.reading.left.Left.{Left}
use Rattle.chord_resp.specs.declared.reading.phase.Phase.TheVariants as phase
use Rattle.chord_resp.specs.declared.reading.word.Word.{Word}
use Rattle.chord_resp.specs.Machine.{State, Goes, step, word_kept, words_with}
use Rattle.chord_resp.specs.Reading.{reading, Skims}
use Rattle.chord_resp.specs.ShortLines.{EndsLine}
use Rattle.chord_resp.proofs.NumberLaws.{at}
use Rattle.chord_resp.proofs.ReadingLaws.{goes}
use Rattle.chord_resp.proofs.SpellingLaws.{after_body}

more_words : (w : Left) (ws : List Word) (count : ℕ) (p : List ℕ) → 1 < w.words → step (at (phase.End count) w ws p) 10 ≡ Goes (word_kept w (words_with ws count p))
unfolding step
more_words w ws count p more =
    let many : leb w.words 1 ≡ false = grind (arith, nat_tests, more) in
    rw many refl

module _ (bytes : List ℕ) (w : Left) (ws : List Word) (p : List ℕ) (count : ℕ) (line : EndsLine bytes 0) where
  -- the `\r` behind a word
  pub end_begun : Skims (at (phase.Body count 0) w ws p) bytes 1 (at (phase.End count) w ws p)
  end_begun = (
    omega (arith, line.there),
    goes (at (phase.Body count 0) w ws p) bytes 0 (omega (arith, line.there)) (at (phase.End count) w ws p) (rw line.return (after_body w ws p count)),
  )

  -- the end of a word behind which more words come
  pub end_read : 1 < w.words → Skims (at (phase.Body count 0) w ws p) bytes 2 (word_kept w (words_with ws count p))
  end_read more = (
    omega (arith, line.there),
    goes (at (phase.Body count 0) w ws p) bytes 0 (omega (arith, line.there)) (at (phase.End count) w ws p) (rw line.return (after_body w ws p count))
        ∙ goes (at (phase.End count) w ws p) bytes 1 (omega (arith, line.there)) (word_kept w (words_with ws count p)) (rw line.newline (more_words w ws count p more)),
  )

-- what is read on behind what was read is read with it
pub skims_on : (a b c : State) (bytes : List ℕ) (n m : ℕ) → Skims a bytes n b → Skims b (take (length bytes - n) (drop n bytes)) m c → Skims a bytes (n + m) c
skims_on a b c bytes n m first second =
    let rest : Skims b (drop n bytes) m c = rw (take_rest bytes n) at second in (
      omega (arith, first.0, rest.0, length-drop n bytes),
      first.1 ∙ rest.1 ∙ ap (reading c) (drop-drop m n bytes),
    )
