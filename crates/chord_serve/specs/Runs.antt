-- A number of steps of a link, one behind another. Source: our own.
use Rattle.std.specs.Prelude.{ℕ, ◌+◌, List, Result}
use Rattle.chord_serve.specs.Stepping.{AnswersNext, IsBefore}
use Rattle.chord_serve.specs.declared.link.stage.Step.{Step}
use Rattle.chord_serve.specs.declared.served.Served.{Served}

pub data Run {P : Type 0} (hears says : P → List ℕ → P → Type 0)
    (stops : Served → P → List ℕ → P → Type 0) (rests idle : P → Type 0) (begun : P → P → Type 0)
    (first : P) (first_due : List ℕ) : ℕ → P → List ℕ → Type 0 where
  -- no step
  Stays : Run hears says stops rests idle begun first first_due 0 first first_due
  -- one more
  Goes : (count : ℕ) (middle last : P) (due due' : List ℕ) (step : Result Step Served)
      → Run hears says stops rests idle begun first first_due count middle due
      → ((before : P) → IsBefore idle begun before middle
      → AnswersNext hears says stops rests idle begun step before due due' last)
      → Run hears says stops rests idle begun first first_due (count + 1) last due'
