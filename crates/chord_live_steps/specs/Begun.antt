-- What submitting a request answers.
use Rattle.std.specs.Prelude.{◌≡◌, ℕ, ◌^◌, ◌<◌, true, Result, Ok, Err}
use Rattle.chord_caller.specs.Answers.{SubmitIs, HasWindow, is_pending}
use Rattle.chord_caller.specs.Caller.{Caller, next_number, with_request}
use Rattle.chord_caller.specs.declared.ask.Ask.{Ask}
use Rattle.chord_caller.specs.declared.fault.SubmitFault.TheVariants as submit
use Rattle.chord_live_types.specs.declared.caller.BeginFault.{BeginFault}
use Rattle.chord_live_types.specs.declared.caller.BeginFault.TheVariants as begin
use Rattle.chord_map.specs.Checked.{IsRequest}
use Rattle.chord_map.specs.declared.request.Request.{Request}
use Rattle.chord_model.specs.declared.message.Message.{Message}
use Rattle.chord_model.specs.declared.message.Message.TheVariants.{Ask as AskMessage}
use Rattle.chord_table.specs.Views.{CallerSight}

-- the caller would refuse the request for memory only
abbrev pub MaySubmit : Request → Caller → Type 0
MaySubmit request caller = IsRequest request × HasWindow caller × (next_number caller < 2 ^ 64)

-- the request is submitted under the next number, or the first refusal that applies is answered and
-- nothing changes
abbrev pub BeginIs : Request → Caller → Result ℕ BeginFault → Caller → Type 0
BeginIs request old (Ok number) new =
    (number ≡ next_number old) × IsRequest request × HasWindow old × (next_number old < 2 ^ 64) × (new ≡ with_request request old)
BeginIs request old (Err (begin.Submit fault)) new = SubmitIs request old (Err fault) new
BeginIs request old (Err begin.NoSuchNode) new = SubmitIs request old (Err submit.Memory) new

-- the message is the caller's call of this number
abbrev pub IsCallOf : Caller → ℕ → Message → Type 0
IsCallOf caller number message = (ask : Ask) × (message ≡ AskMessage ask) × (ask.caller ≡ caller.number) × (ask.number ≡ number)

-- the request was submitted and waits for its reply; no message came
pub record Submitted (request : Request) (old new : CallerSight) : Type 0 where
  pub begun : BeginIs request old.caller (Ok (next_number old.caller)) new.caller
  pub waits : is_pending (next_number old.caller) new.caller ≡ true
  pub quiet : new.messages ≡ old.messages
