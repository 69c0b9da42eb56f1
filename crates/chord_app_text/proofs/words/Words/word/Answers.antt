use Rattle.std.proofs.Common.{◌∙◌, ap}
use Rattle.chord_app_text.specs.Words.{words_in}
use Rattle.chord_app_text.proofs.Spaces.{first_word, last_word}
use Rattle.chord_app_text.proofs.words.Words.word.Goals as goal

pub returns-in-Some-split_once : goal.returns-in-Some-split_once
returns-in-Some-split_once c = (
  ap words_in c.in-Some.is
      ∙ first_word c.in-Some.rest.now c.split_once.result c.split_once.ensures.cases
      (c.in-Some-split_once.word, c.in-Some-split_once.rest) c.in-Some-split_once.is,
  c.saturating_add-self.ensures,
)

pub returns-in-None : goal.returns-in-None
returns-in-None c = (
  ap words_in c.in-Some.is
      ∙ last_word c.in-Some.rest.now c.split_once.result c.split_once.ensures.cases c.in-None.is,
  c.saturating_add-self.ensures,
)
