-- What is true of a link at each moment. Source: our own.
use Rattle.std.specs.Prelude.{◌≡◌, ℕ, List, [], ◌∷◌, ◌++◌, Bool, Option}
use Rattle.std.specs.Io.KnownBytes.{Appends, Consumes}
use Rattle.chord_serve.specs.declared.link.stage.Stage.{Stage}
use Rattle.chord_serve.specs.declared.link.stage.Stage.TheVariants as stages
use Rattle.chord_serve.specs.Conversing.{Talks, Waits, Conversed}
use Rattle.chord_serve.specs.declared.served.Served.{Served}

module _ {P : Type 0} (hears says : P → List ℕ → P → Type 0)
    (stops : Served → P → List ℕ → P → Type 0) (rests idle : P → Type 0) (begun : P → P → Type 0) (between : P → Bool) where
  -- where it stands, with all that it took in and all that it answered
  abbrev pub Stands : Stage → P → List ℕ → List ℕ → P → Type 0
  -- each whole request is answered
  Stands stages.Reads first received output now =
      Waits hears says stops rests first received output now × idle now
  Stands stages.Answers first received output now =
      Talks hears says first received output now × idle now
  -- each is before one that was begun
  Stands stages.Waits first received output now =
      (before : P) × Talks hears says first received output before × begun before now
  -- the end has its row
  Stands (stages.Over end) first received output now =
      Conversed hears says stops rests between end first received output now

  -- What it read from its stream and wrote there since it began, with the first stream and protocol
  -- of its log; and where it stands with what it wrote and what is due behind that.
  pub record Told {S : Type 0} (left held : S → Option (List ℕ)) (log : List (S × P)) (stream : S)
      (due : List ℕ) (stage : Stage) (now : P) : Type 0 where
    pub first : S × P
    pub begins : log ≡ first ∷ []
    pub received : List ℕ
    pub sent : List ℕ
    pub read : Consumes (left first.0) (left stream) received
    pub written : Appends (held first.0) (held stream) sent
    pub stands : Stands stage first.1 received (sent ++ due) now
