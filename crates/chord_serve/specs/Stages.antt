-- Where a link stands behind a step. Source: our own.
use Rattle.std.specs.Prelude.{ℕ, ◌+◌, ◌-◌, ◌^◌, min, Result, Ok, Err}
use Rattle.chord_serve.specs.declared.link.stage.Stage.{Stage}
use Rattle.chord_serve.specs.declared.link.stage.Stage.TheVariants as stages
use Rattle.chord_serve.specs.declared.link.stage.Step.{Step}
use Rattle.chord_serve.specs.declared.link.stage.Step.TheVariants as steps
use Rattle.chord_serve.specs.declared.served.Served.{Served}

abbrev pub stage_after : Result Step Served → Stage
stage_after (Ok steps.Answered) = stages.Answers
stage_after (Ok steps.Nothing) = stages.Reads
stage_after (Ok steps.Later) = stages.Waits
stage_after (Err end) = stages.Over end

-- how many tries the next request had
abbrev pub tries_after : Result Step Served → ℕ → ℕ
tries_after (Ok steps.Answered) tries = 0
tries_after (Ok steps.Nothing) tries = 0
tries_after (Ok steps.Later) tries = min (tries + 1) (2 ^ 32 - 1)
tries_after (Err end) tries = 0
