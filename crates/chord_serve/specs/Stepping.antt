-- One step of a link, in any protocol. Source: our own.
use Rattle.std.specs.Prelude.{◌≡◌, ◌⊎◌, ℕ, List, [], ◌++◌, Result, Ok, Err}
use Rattle.chord_serve.specs.declared.link.stage.Step.{Step}
use Rattle.chord_serve.specs.declared.link.stage.Step.TheVariants as steps
use Rattle.chord_serve.specs.declared.served.Served.{Served}

-- the state before the next request: this one, or the one before the request that was begun
abbrev pub IsBefore : {P : Type 0} → (P → Type 0) → (P → P → Type 0) → P → P → Type 0
IsBefore idle begun before now = (idle now × (before ≡ now)) ⊎ begun before now

module _ {P : Type 0} (hears says : P → List ℕ → P → Type 0)
    (stops : Served → P → List ℕ → P → Type 0) (rests idle : P → Type 0) (begun : P → P → Type 0) where
  -- What a step did with the next request; what was due before and after. Of a request that ended
  -- the connection `before` is the state before it was begun.
  abbrev pub AnswersNext : Result Step Served → (before : P) (due due' : List ℕ) (after : P)
      → Type 0
  -- it is answered, behind what was due
  AnswersNext (Ok steps.Answered) before due due' after =
      (bytes : List ℕ) × says before bytes after × idle after × (due' ≡ due ++ bytes)
  -- none is whole
  AnswersNext (Ok steps.Nothing) before due due' after =
      rests after × hears before [] after × idle after × (due' ≡ due)
  -- it is begun
  AnswersNext (Ok steps.Later) before due due' after = begun before after × (due' ≡ due)
  -- it ended the connection
  AnswersNext (Err end) before due due' after =
      (bytes : List ℕ) × stops end before bytes after × (due' ≡ due ++ bytes)
