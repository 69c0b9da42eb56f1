-- What a read leaves, and what a link does next. Source: our own.
use Rattle.std.specs.Prelude.{◌≡◌, ◌≢◌, ℕ, ◌≤◌, List, [], length, Bool, true, false}
use Rattle.chord_serve.specs.declared.link.stage.Stage.{Stage}
use Rattle.chord_serve.specs.declared.link.stage.Stage.TheVariants as stages
use Rattle.chord_serve.specs.declared.served.Served.TheVariants as served

-- a read gave these bytes: none are the end of the input
abbrev pub TakesIn : {P : Type 0} → (P → List ℕ → P → Type 0) → (P → Type 0) → (P → Bool)
    → Stage → P → List ℕ → P → Type 0
TakesIn hears idle between stages.Answers old more new =
    (more ≢ []) × hears old more new × (idle old → idle new)
TakesIn hears idle between (stages.Over served.Ended) old more new =
    (more ≡ []) × (between old ≡ true) × (new ≡ old)
TakesIn hears idle between (stages.Over served.Truncated) old more new =
    (more ≡ []) × (between old ≡ false) × (new ≡ old)
TakesIn hears idle between (stages.Over served.Memory) old more new = (more ≢ []) × (new ≡ old)
TakesIn hears idle between other old more new = ⊥

-- it is in this stage, no write failed, and no more is due than a full outbox has
abbrev pub IsFreeIn : Stage → Stage → Bool → List ℕ → Type 0
IsFreeIn which stage is_lost due = (stage ≡ which) × (is_lost ≡ false) × (length due ≤ 65536)

abbrev pub WantsRead : Stage → Bool → List ℕ → Type 0
WantsRead = IsFreeIn stages.Reads

abbrev pub WantsAdvance : Stage → Bool → List ℕ → Type 0
WantsAdvance = IsFreeIn stages.Answers
