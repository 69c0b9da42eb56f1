-- The asker of a session that never waits: each of its calls is one try. Source: our own.
use Rattle.std.specs.Prelude.{◌≡◌, ℕ, ◌+◌, length, Bool, false, true, Err}
use Rattle.chord_app_serve.specs.Answered.{AnswersBy, SettlesTo}
use Rattle.chord_app_serve.specs.Asked.{AskerSight}
use Rattle.chord_caller.specs.Caller.{next_number}
use Rattle.chord_live_steps.specs.Asking.{CallIs, RetryIs}
use Rattle.chord_live_steps.specs.Ending.{AwaitIs}
use Rattle.chord_live_types.specs.declared.caller.AskFault.TheVariants as ask
use Rattle.chord_live_types.specs.declared.caller.RetryFault.TheVariants as retry
use Rattle.chord_live_types.specs.declared.caller.WaitFault.TheVariants as wait
use Rattle.chord_serve.specs.Question.{Question, Ask, Retry}
use Rattle.chord_serve.specs.declared.asker.Asked.{Asked}
use Rattle.chord_table.specs.Views.{CallerSight}

-- what an asker shows, with the caller's number of the last request and whether that waits
pub record TrySight : Type 0 where
  pub before : ℕ
  pub via : ℕ
  pub last : ℕ
  pub waits : Bool
  pub caller : CallerSight

abbrev pub as_asker : TrySight → AskerSight
as_asker sight = record { before = sight.before; via = sight.via; caller = sight.caller }

-- the asker of a session that begins, at this node
abbrev pub first_trying : CallerSight → ℕ → TrySight
first_trying sight via = record { before = length sight.caller.submitted; via = via; last = 0; waits = false; caller = sight }

-- the question's request was sent under this number of the caller's, and waits for its reply
abbrev pub WaitsOn : ℕ → Question → CallerSight → ℕ → CallerSight → Type 0
WaitsOn before (Ask request floor) old number new =
    (settled : CallerSight) × SettlesTo (before + floor) old settled
    × (number ≡ next_number settled.caller)
    × CallIs AwaitIs request settled (Err (ask.Wait wait.NoAnswer)) new
WaitsOn before (Retry again floor) old number new =
    (settled : CallerSight) × SettlesTo (before + floor) old settled
    × (number ≡ before + again)
    × RetryIs AwaitIs (before + again) settled (Err (retry.Wait wait.NoAnswer)) new

-- how the asker answers a question: as one that waits, by one try
abbrev pub TriesBy : TrySight → Question → Asked → TrySight → Type 0
TriesBy old question answer new =
    AnswersBy (as_asker old) question answer (as_asker new)
    × (new.waits ≡ true → WaitsOn old.before question old.caller new.last new.caller)
