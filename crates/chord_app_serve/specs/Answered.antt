-- What a session is told by a caller of a ring: how the caller's call ended. Source: our own.
use Rattle.std.specs.Prelude.{◌≡◌, ◌⊎◌, ℕ, ◌+◌, ◌^◌, ◌<◌, ◌≤◌, false, Result, Ok, Err}
use Rattle.chord_caller.specs.Answers.{is_pending}
use Rattle.chord_live_steps.specs.Asking.{CallIs, GaveUpSome, RetryIs}
use Rattle.chord_live_steps.specs.Ending.{AwaitIs}
use Rattle.chord_live_types.specs.declared.caller.AskFault.{AskFault}
use Rattle.chord_live_types.specs.declared.caller.AskFault.TheVariants as ask
use Rattle.chord_live_types.specs.declared.caller.RetryFault.{RetryFault}
use Rattle.chord_live_types.specs.declared.caller.RetryFault.TheVariants as retry
use Rattle.chord_live_types.specs.declared.caller.WaitFault.{WaitFault}
use Rattle.chord_live_types.specs.declared.caller.WaitFault.TheVariants as wait
use Rattle.chord_map.specs.Copies.{IsShortRequest}
use Rattle.chord_map.specs.declared.reply.Reply.{Reply}
use Rattle.chord_map.specs.declared.request.Request.{Request}
use Rattle.chord_app_serve.specs.Asked.{AskerSight, asked_since}
use Rattle.chord_serve.specs.Question.{Question, Ask, Retry, IsHeard}
use Rattle.chord_serve.specs.declared.asker.Asked.{Asked}
use Rattle.chord_serve.specs.declared.asker.Asked.TheVariants as asked
use Rattle.chord_table.specs.Views.{CallerSight}
use Rattle.chord_wire.specs.Replies.{IsReply}

-- a reply is told as it is, or as no answer if it has no frame
abbrev pub TellsReply : Reply → Asked → Type 0
TellsReply reply (asked.Reply told) = told ≡ reply
TellsReply reply asked.NoAnswer = ¬ IsReply reply
TellsReply reply asked.Full = ⊥
TellsReply reply asked.Memory = ⊥

-- what is told of a wait that ended without a reply
abbrev pub told_of_wait : WaitFault → Asked
told_of_wait wait.Full = asked.Full
told_of_wait wait.NoAnswer = asked.NoAnswer
told_of_wait wait.Memory = asked.Memory

-- what is told of how the call of a new request ended
abbrev pub TellsCall : Result Reply AskFault → Asked → Type 0
TellsCall (Ok reply) answer = TellsReply reply answer
TellsCall (Err (ask.Wait fault)) answer = answer ≡ told_of_wait fault
TellsCall (Err (ask.Begin fault)) answer = answer ≡ asked.Memory

-- what is told of how the call of a request that was sent again ended
abbrev pub TellsRetry : Result Reply RetryFault → Asked → Type 0
TellsRetry (Ok reply) answer = TellsReply reply answer
TellsRetry (Err (retry.Wait fault)) answer = answer ≡ told_of_wait fault
TellsRetry (Err retry.NoSuchNode) answer = answer ≡ asked.NoAnswer
TellsRetry (Err retry.Idle) answer = answer ≡ asked.NoAnswer

-- the caller was called with the request and the answer tells how that ended, or there was no
-- memory for a copy of the request and nothing was asked
abbrev pub AskedBy : Request → CallerSight → Asked → CallerSight → Type 0
AskedBy request old answer new =
    ((ended : Result Reply AskFault) × CallIs AwaitIs request old ended new × TellsCall ended answer)
    ⊎ ((answer ≡ asked.Memory) × (¬ IsShortRequest request) × (new ≡ old))

-- the caller was called with the number and the answer tells how that ended, or no request can have
-- the number and nothing was asked
abbrev pub RetriedBy : ℕ → CallerSight → Asked → CallerSight → Type 0
RetriedBy number old answer new =
    ((ended : Result Reply RetryFault) × RetryIs AwaitIs number old ended new × TellsRetry ended answer)
    ⊎ ((answer ≡ asked.NoAnswer) × (2 ^ 64 ≤ number) × (new ≡ old))

-- the caller's requests up to this number that were pending are given up, and no other is
pub record SettlesTo (floor : ℕ) (old new : CallerSight) : Type 0 where
  pub given : GaveUpSome old new
  pub below : (number : ℕ) → number ≤ floor → is_pending number new.caller ≡ false
  pub above : (number : ℕ) → floor < number → is_pending number new.caller ≡ is_pending number old.caller

-- How a question of a session was answered by a caller that had submitted `before` requests when
-- the session began: the session's request of a number is the caller's of that many more. First the
-- requests up to the floor are settled.
abbrev pub AnsweredBy : ℕ → Question → CallerSight → Asked → CallerSight → Type 0
AnsweredBy before (Ask request floor) old answer new = (settled : CallerSight) × SettlesTo (before + floor) old settled × AskedBy request settled answer new
AnsweredBy before (Retry number floor) old answer new = (settled : CallerSight) × SettlesTo (before + floor) old settled × RetriedBy (before + number) settled answer new

-- how the asker of a session answers a question: what every asker promises, by one call of its
-- caller, at the same node
abbrev pub AnswersBy : AskerSight → Question → Asked → AskerSight → Type 0
AnswersBy old question answer new =
    IsHeard question answer (asked_since old.before old.caller) (asked_since new.before new.caller)
    × (new.before ≡ old.before) × (new.via ≡ old.via) × AnsweredBy old.before question old.caller answer new.caller
