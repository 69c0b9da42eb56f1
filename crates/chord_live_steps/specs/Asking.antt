-- What the calls of one who asks a ring answer. `ends` says how its waits end: AwaitIs or WaitIs.
use Rattle.std.specs.Prelude.{◌≡◌, ℕ, Bool, true, false, None, is_some, List, ◌++◌, Result, Ok, Err}
use Rattle.std.specs.declared.alloc.AllocError.{AllocError}
use Rattle.chord_caller.specs.Answers.{is_pending}
use Rattle.chord_caller.specs.Caller.{Caller, Note, next_number, submission_at, unknown_calls, with_given_up}
use Rattle.chord_live_steps.specs.Begun.{BeginIs, Submitted}
use Rattle.chord_live_steps.specs.Ending.{Ended, WaitIs}
use Rattle.chord_live_types.specs.declared.caller.AskFault.{AskFault}
use Rattle.chord_live_types.specs.declared.caller.AskFault.TheVariants as ask
use Rattle.chord_live_types.specs.declared.caller.CollectFault.{CollectFault}
use Rattle.chord_live_types.specs.declared.caller.CollectFault.TheVariants as collect
use Rattle.chord_live_types.specs.declared.caller.RetryFault.{RetryFault}
use Rattle.chord_live_types.specs.declared.caller.RetryFault.TheVariants as retry
use Rattle.chord_live_types.specs.declared.caller.WaitFault.{WaitFault}
use Rattle.chord_map.specs.declared.reply.Reply.{Reply}
use Rattle.chord_map.specs.declared.request.Request.{Request}
use Rattle.chord_table.specs.Views.{CallerSight}

-- the request is submitted, and then a wait for its reply ended so
abbrev pub SubmittedAndEnded : (ℕ → Caller → Result Reply WaitFault → Caller → Type 0) → Request → CallerSight → Result Reply WaitFault → CallerSight → Type 0
SubmittedAndEnded ends request old answer new = (asked : CallerSight) × Submitted request old asked × Ended ends (next_number old.caller) asked answer new

-- the request is submitted and the wait for its reply ended, or the first refusal that applies is
-- answered and nothing changes
abbrev pub CallIs : (ℕ → Caller → Result Reply WaitFault → Caller → Type 0) → Request → CallerSight → Result Reply AskFault → CallerSight → Type 0
CallIs ends request old (Ok reply) new = SubmittedAndEnded ends request old (Ok reply) new
CallIs ends request old (Err (ask.Wait fault)) new = SubmittedAndEnded ends request old (Err fault) new
CallIs ends request old (Err (ask.Begin fault)) new = BeginIs request old.caller (Err fault) new.caller × (new ≡ old)

-- the request of the number was pending and a wait for its reply ended, or nothing changes
abbrev pub RetryIs : (ℕ → Caller → Result Reply WaitFault → Caller → Type 0) → ℕ → CallerSight → Result Reply RetryFault → CallerSight → Type 0
RetryIs ends number old (Ok reply) new = (is_pending number old.caller ≡ true) × Ended ends number old (Ok reply) new
RetryIs ends number old (Err (retry.Wait fault)) new = (is_pending number old.caller ≡ true) × Ended ends number old (Err fault) new
RetryIs ends number old (Err retry.NoSuchNode) new = (is_pending number old.caller ≡ true) × (new ≡ old)
RetryIs ends number old (Err retry.Idle) new = (is_pending number old.caller ≡ false) × (new ≡ old)

-- the request of the number was pending and is given up, or it was not and nothing changes
abbrev pub GiveUpIs : ℕ → CallerSight → Bool → CallerSight → Type 0
GiveUpIs number old true new = (is_pending number old.caller ≡ true) × (new ≡ record old { caller = with_given_up number old.caller })
GiveUpIs number old false new = (is_pending number old.caller ≡ false) × (new ≡ old)

-- requests were given up, none or more, and nothing else changed
abbrev pub GaveUpSome : CallerSight → CallerSight → Type 0
GaveUpSome old new = (numbers : List ℕ) × (new ≡ record old { caller = record old.caller { given_up = numbers } })

-- the reply to the request of the number is among the calls taken, or the request is as it was
abbrev pub CollectIs : ℕ → CallerSight → Result Reply CollectFault → CallerSight → Type 0
CollectIs number old (Ok reply) new = Ended WaitIs number old (Ok reply) new
CollectIs number old (Err (collect.Wait fault)) new = (is_some (submission_at number old.caller.submitted) ≡ true) × Ended WaitIs number old (Err fault) new
CollectIs number old (Err collect.NotBegun) new = (submission_at number old.caller.submitted ≡ None) × (new ≡ old)

-- the calls of the note that the caller did not know come after those that it learned before
abbrev pub MeetIs : Note → Caller → Result (Unit {0}) AllocError → Caller → Type 0
MeetIs note old (Ok done) new = new ≡ record old { told = old.told ++ unknown_calls old note.done }
MeetIs note old (Err fault) new = new ≡ old
