use Rattle.std.proofs.Common.{ℕ, Bool, List, Option, Some, None, Bor, ◌≡◌, ◌∙◌, not, ap, refl, sym}
use Rattle.std.specs.Prelude.{is_some}
use Rattle.chord_app_text.specs.Words.{is_none_of, words_in}
use Rattle.chord_app_text.proofs.Spaces.{some_word}
use Rattle.chord_app_text.proofs.words.Words.has_more.Goals as goal

more_words : (rest : Option (Bor (List ℕ))) → is_some rest ≡ not (is_none_of (words_in rest))
more_words None = refl
more_words (Some line) = sym (ap not (some_word line.now))

pub returns : goal.returns
returns c = c.is_some.ensures ∙ more_words c.args.self.now.rest
