-- A copy of pairs as its lines come: requests, and at its end their number. Source: our own.
use Rattle.std.specs.Prelude.{◌≡◌, ◌⊎◌, ℕ, ◌+◌, ◌-◌, ◌^◌, min, List, ◌++◌, bytes_eq, codes, decimal}
use Rattle.std.specs.Prelude.{Bool, true, false, All, Option, Some, None, option_and_then, Result}
use Rattle.std.specs.Prelude.{Ok, Err}
use Rattle.std.specs.Io.KnownBytes.{Appends}
use Rattle.chord_app_text.specs.declared.finish.Finish.{Finish}
use Rattle.chord_app_text.specs.declared.finish.Finish.TheVariants as End
use Rattle.chord_app_text.specs.declared.finish.Fault.TheVariants as Cause
use Rattle.chord_app_text.specs.declared.undone.Undone.{Undone}
use Rattle.chord_app_text.specs.declared.undone.Undone.TheVariants as undone
use Rattle.chord_app_ask.specs.declared.ask.copy.CopyRead.{CopyRead}
use Rattle.chord_app_ask.specs.declared.ask.outcome.AskOutcome.{AskOutcome}
use Rattle.chord_app_ask.specs.declared.ask.outcome.AskOutcome.TheVariants as outcome
use Rattle.chord_app_ask.specs.declared.ask.question.Question.{Question}
use Rattle.chord_map.specs.declared.reply.Reply.TheVariants as reply
use Rattle.chord_wire.specs.Fault.{code_number}

-- the last line of a copy, which has this number of pairs
abbrev pub count_line : ℕ → List ℕ
count_line pairs = codes "# pairs " ++ decimal pairs

-- a copy with one more request, or with another line, of which the last one may tell their number
abbrev pub with_request : CopyRead → CopyRead
with_request read = record { requests = min (read.requests + 1) (2 ^ 64 - 1); is_whole = false }

abbrev pub with_comment : List ℕ → CopyRead → CopyRead
with_comment line read =
    record { requests = read.requests; is_whole = bytes_eq line (count_line read.requests) }

-- why a request with this outcome is not done: an insert that found the set full is none that is
abbrev pub undone_of : AskOutcome → Option Undone
undone_of (outcome.Reply reply.SetFull) = Some undone.SetFull
undone_of (outcome.Reply reply) = None
undone_of outcome.Full = Some undone.Full
undone_of outcome.NoAnswer = Some undone.NoAnswer
undone_of (outcome.Fault code) = Some (undone.Code (code_number code))
undone_of outcome.CallersSpent = Some undone.CallersSpent
undone_of outcome.Lost = Some undone.Lost

-- each of these requests has an outcome, and is done
abbrev pub IsDone : Question → Type 0
IsDone question = (ended : AskOutcome) × (question.outcome ≡ Some ended) × (undone_of ended ≡ None)

abbrev pub AreDone : List Question → Type 0
AreDone questions = All IsDone questions

-- what is written of a copy that is done
abbrev pub restored_line : ℕ → List ℕ
restored_line requests = codes "restored " ++ decimal requests ++ codes "\n"

-- a copy ends well where its last line tells the number of its requests, which is written
abbrev pub IsRestored : CopyRead → (held held' : Option (List ℕ)) → Result Finish Finish → Type 0
IsRestored read held held' (Ok finish) = (finish ≡ End.Done) × (read.is_whole ≡ true)
    × Appends held held' (restored_line read.requests)
IsRestored read held held' (Err finish) =
    ((finish ≡ End.Fault Cause.Cut) × (read.is_whole ≡ false))
    ⊎ ((read.is_whole ≡ true) × ((finish ≡ End.Fault Cause.Write) ⊎ (finish ≡ End.OutOfMemory)))
