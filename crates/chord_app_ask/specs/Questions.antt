-- Requests that may change something, and how often they are sent. Source: our own.
use Rattle.std.specs.Prelude.{◌≡◌, ◌⊎◌, ℕ, ◌+◌, ◌-◌, ◌^◌, min, Bool, true, false, not, ◌&&◌, ◌||◌}
use Rattle.std.specs.Prelude.{◌==◌, nat_le, if◌then◌else◌, Option, Some, None}
use Rattle.chord_map.specs.declared.request.Request.{Request}
use Rattle.chord_map.specs.declared.request.Request.TheVariants.{Insert, Retrieve, Remove}
use Rattle.chord_app_ask.specs.declared.ask.outcome.AskOutcome.{AskOutcome}
use Rattle.chord_app_ask.specs.declared.ask.outcome.AskOutcome.TheVariants as outcome
use Rattle.chord_app_ask.specs.declared.ask.outcome.AskOutcome.TheVariants.{Lost}
use Rattle.chord_serve.specs.ClientState.{ClientState}
use Rattle.chord_serve.specs.InFlight.{is_full, with_sent}
use Rattle.chord_wire.specs.declared.answer.Answer.{Answer}
use Rattle.chord_wire.specs.declared.answer.Answer.TheVariants as answer
use Rattle.chord_wire.specs.declared.fault.FaultCode.TheVariants as code

-- inserts and removes
abbrev pub may_change : Request → Bool
may_change (Insert key value) = true
may_change (Retrieve key) = false
may_change (Remove key value) = true

-- An insert or a remove with no outcome was never sent, or has its number in the session that is
-- open now.
abbrev pub IsSentOnce : Request → Option ℕ → ℕ → Option AskOutcome → Type 0
IsSentOnce request number times outcome =
    may_change request ≡ true → outcome ≡ None → number ≡ None → times ≡ 0

-- a request with no outcome that has no number in the open session
abbrev pub IsUnsent : Option ℕ → Option AskOutcome → Type 0
IsUnsent number outcome = (outcome ≡ None) × (number ≡ None)

-- The client sent the request under its next number. That is the request's number now, and it
-- counts as sent once more.
pub record IsCounted (request : Request) (before : ℕ) (old : ClientState) (number : Option ℕ)
    (times : ℕ) (new : ClientState) : Type 0 where
  pub sent : new ≡ with_sent old request
  pub numbered : number ≡ Some new.last
  pub counted : times ≡ min (before + 1) (2 ^ 32 - 1)

-- the client's window is full, or its numbers are spent
abbrev pub MaySendNoMore : ClientState → Type 0
MaySendNoMore client = (is_full client ≡ true) ⊎ (client.last + 1 ≡ 2 ^ 64)

-- Once its session ended, a request with no answer is given up if it has no tries left, or if it
-- was sent and may have changed something.
abbrev pub is_lost : Request → ℕ → ℕ → Bool
is_lost request times tries = nat_le tries times || (not (times == 0) && may_change request)

-- the outcome once the session ended
abbrev pub outcome_after_loss : Request → ℕ → ℕ → Option AskOutcome → Option AskOutcome
outcome_after_loss request times tries None =
    if is_lost request times tries then Some Lost else None
outcome_after_loss request times tries (Some outcome) = Some outcome

-- how a request ended with this answer
abbrev pub outcome_of : Answer → AskOutcome
outcome_of (answer.Reply number reply) = outcome.Reply reply
outcome_of (answer.Fault number code.Full) = outcome.Full
outcome_of (answer.Fault number code.NoAnswer) = outcome.NoAnswer
outcome_of (answer.Fault number fault) = outcome.Fault fault

-- the request may be answered otherwise when it is sent again
abbrev pub may_pass : Answer → Bool
may_pass (answer.Fault number code.Full) = true
may_pass (answer.Fault number code.NoAnswer) = true
may_pass answer = false

-- the request got a reply
abbrev pub is_answered : AskOutcome → Bool
is_answered (outcome.Reply reply) = true
is_answered other = false

-- the outcome once the server had no caller for it
abbrev pub outcome_refused : Option AskOutcome → Option AskOutcome
outcome_refused None = Some outcome.CallersSpent
outcome_refused (Some outcome) = Some outcome

-- the outcome once no more is waited for
abbrev pub outcome_given_up : Option AskOutcome → Option AskOutcome
outcome_given_up None = Some Lost
outcome_given_up (Some outcome) = Some outcome
