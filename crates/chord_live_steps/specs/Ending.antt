-- How a wait for a reply ends.
use Rattle.std.specs.Prelude.{◌≡◌, ℕ, ◌+◌, Bool, false, ◌&&◌, eqb, count_by, List, ◌++◌, Some, Result, Ok, Err}
use Rattle.chord_caller.specs.Answers.{is_pending}
use Rattle.chord_caller.specs.Caller.{Caller, fresh_for, with_reply}
use Rattle.chord_caller.specs.declared.told.Told.{Told}
use Rattle.chord_live_types.specs.declared.caller.WaitFault.{WaitFault}
use Rattle.chord_live_types.specs.declared.caller.WaitFault.TheVariants as wait
use Rattle.chord_map.specs.History.{done_at}
use Rattle.chord_map.specs.declared.done.Done.{Done}
use Rattle.chord_map.specs.declared.reply.Reply.{Reply}
use Rattle.chord_map.specs.declared.request.Request.{Request}
use Rattle.chord_model.specs.declared.message.Message.{Message}
use Rattle.chord_model.specs.declared.message.Message.TheVariants.{Full as FullMessage}
use Rattle.chord_table.specs.Views.{CallerSight}

-- ---- the caller

-- the caller's message of this reply to its request of the number
abbrev pub told_to : Caller → ℕ → Reply → Told
told_to caller number reply = record { caller = caller.number; number = number; reply = reply }

-- the caller took this reply to its pending request of the number, and nothing else of it changed
abbrev pub TookReply : ℕ → Reply → Caller → Caller → Type 0
TookReply number reply old new =
    (request : Request) × (fresh_for (told_to old number reply) old ≡ Some request) × (new ≡ with_reply (told_to old number reply) request old)

-- how a wait of a client ends: it takes the reply that it waits for and no other
abbrev pub AwaitIs : ℕ → Caller → Result Reply WaitFault → Caller → Type 0
AwaitIs number old (Ok reply) new = TookReply number reply old new
AwaitIs number old (Err fault) new = new ≡ old

-- the caller took replies, none or more, and nothing else of it changed
abbrev pub TookReplies : Caller → Caller → Type 0
TookReplies old new = (rest : List Done) × (new ≡ record old { mine = old.mine ++ rest })

-- the caller took this reply to its request of the number
abbrev pub IsTaken : Caller → ℕ → Reply → Type 0
IsTaken caller number reply = (done : Done) × (done_at caller.number number caller.mine ≡ Some done) × (done.reply ≡ reply)

-- the request of the number waits for its reply as before
abbrev pub WaitsStill : ℕ → Caller → Caller → Type 0
WaitsStill number old new = TookReplies old new × (is_pending number new ≡ is_pending number old)

-- how a wait of a caller that stores replies ends: it takes any reply that comes
abbrev pub WaitIs : ℕ → Caller → Result Reply WaitFault → Caller → Type 0
WaitIs number old (Ok reply) new = TookReplies old new × IsTaken new number reply
WaitIs number old (Err fault) new = WaitsStill number old new

-- ---- the messages

-- messages came, none or more
abbrev pub TookMessages : CallerSight → CallerSight → Type 0
TookMessages old new = (others : List Message) × (new.messages ≡ old.messages ++ others)

-- the message says that a store has no room for this caller's request of the number
abbrev pub says_full : ℕ → ℕ → Message → Bool
says_full caller number (FullMessage other of) = eqb other caller && eqb of number
says_full caller number message = false

-- how many of the messages that came say this of the caller's own request of the number
unfoldable pub full_count : ℕ → CallerSight → ℕ
full_count number sight = count_by (says_full sight.caller.number number) sight.messages

-- how many such messages a wait has taken when it ends so: one ends it
abbrev pub fulls_at : Result Reply WaitFault → ℕ
fulls_at (Ok reply) = 0
fulls_at (Err wait.Full) = 1
fulls_at (Err wait.NoAnswer) = 0
fulls_at (Err wait.Memory) = 0

-- ---- both

-- A wait for the reply to the request of the number ended. The caller is then as `ends` says. If
-- the wait ended as Full, one message said so of that request, else none did.
pub record Ended (ends : ℕ → Caller → Result Reply WaitFault → Caller → Type 0) (number : ℕ) (old : CallerSight) (answer : Result Reply WaitFault) (new : CallerSight) : Type 0 where
  pub change : ends number old.caller answer new.caller
  pub came : TookMessages old new
  pub full : full_count number new ≡ full_count number old + fulls_at answer
