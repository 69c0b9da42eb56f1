-- What a node answers to a call, and the node afterwards.
use Rattle.std.specs.Prelude.{Result, Ok, Err, ◌≡◌, ℕ, Bool, true, false, nat_le, if◌then◌else◌, Option, None, Some, List, length}
use Rattle.std.specs.declared.alloc.AllocError.{AllocError}
use Rattle.chord_map.specs.declared.pair.Pair.{Pair}
use Rattle.chord_map.specs.declared.request.Request.{Request}
use Rattle.chord_map.specs.declared.reply.Reply.{Reply}
use Rattle.chord_map.specs.declared.reply.Reply.TheVariants as reply
use Rattle.chord_map.specs.Map.{reply_to, pairs_after}
use Rattle.chord_store.specs.declared.outcome.StoreFault.{StoreFault}
use Rattle.chord_store.specs.declared.outcome.StoreFault.TheVariants as fault
use Rattle.chord_map.specs.declared.done.Done.{Done}
use Rattle.chord_journal.specs.Journal.{Buffered, JournalIs}
use Rattle.chord_segment.specs.Segment.{Segment, Past, id_of, past_at, append}
use Rattle.chord_segment.specs.Segment.Past.{New, Kept, Seen}
use Rattle.chord_caller.specs.declared.ask.Ask.{Ask}
use Rattle.chord_node.specs.declared.asks.answered.Answered.{Answered}
use Rattle.chord_node.specs.declared.asks.answered.Answered.TheVariants as answer
use Rattle.chord_model.specs.declared.message.Message.{Message}
use Rattle.chord_model.specs.declared.message.Message.TheVariants.{Ask as AskMessage, Told as ToldMessage, Full as FullMessage}
use Rattle.chord_node.specs.Passed.{PassesOn}
use Rattle.chord_model.specs.Node.{Node, NodeStep, segment_with, with_executed, told_of, done_of}

-- whether a reply adds a pair
abbrev pub adds_pair : Reply → Bool
adds_pair reply.Added = true
adds_pair other = false

-- whether a request would add a pair to a store with no room
unfoldable pub is_full_for : Request → List Pair → ℕ → Bool
is_full_for request pairs limit = if adds_pair (reply_to request pairs) then nat_le limit (length pairs) else false

-- a store's answer to a request, with its pairs before and after, and its limit
abbrev pub Applied : Request → List Pair → ℕ → Result Reply StoreFault → List Pair → Type 0
Applied request old limit (Ok reply) new = (reply ≡ reply_to request old) × (is_full_for request old limit ≡ false) × (new ≡ pairs_after request old)
Applied request old limit (Err fault.Full) new = (is_full_for request old limit ≡ true) × (new ≡ old)
Applied request old limit (Err fault.Memory) new = (is_full_for request old limit ≡ false) × (new ≡ old)

-- the answer to a call of which the segment knows this, over a store with these pairs
abbrev pub past_answer : Past → Ask → List Pair → ℕ → Answered
past_answer Seen ask pairs limit = answer.Dropped
past_answer (Kept done) ask pairs limit = answer.Told (told_of ask done.reply)
past_answer New ask pairs limit =
    if is_full_for ask.request pairs limit then answer.Full else answer.Told (told_of ask (reply_to ask.request pairs))

-- answers that copy something; only these can run out of memory
abbrev pub TakesMemory : Answered → Type 0
TakesMemory (answer.Told told) = Unit {0}
TakesMemory (answer.Forward to passed) = Unit {0}
TakesMemory answer.Dropped = ⊥
TakesMemory answer.Full = ⊥

-- the call that is executed if the segment knows this of it
abbrev pub past_done : Past → Ask → List Pair → ℕ → Option Done
past_done New ask pairs limit = if is_full_for ask.request pairs limit then None else Some (done_of ask (reply_to ask.request pairs))
past_done past ask pairs limit = None

-- the segment after the call, if one was executed
abbrev pub segment_after : Option Done → Ask → Segment → Segment
segment_after None ask segment = segment
segment_after (Some done) ask segment = append done ask.floor segment

-- the pairs after the call, if one was executed
abbrev pub entries_after : Option Done → Ask → List Pair → List Pair
entries_after None ask pairs = pairs
entries_after (Some done) ask pairs = pairs_after ask.request pairs

-- the executed call with this request, if there is one, and this reply
abbrev pub done_with : Ask → Option Request → Reply → Option Done
done_with ask (Some request) reply = Some (record { caller = ask.caller; number = ask.number; request = request; reply = reply })
done_with ask None reply = None

-- the executed call, if it is to be recorded
abbrev pub note_of : Bool → Option Done → Option Done
note_of true did = did
note_of false did = None

-- What a segment and a store answer to a call, and the two afterwards; the executed call is
-- answered too if `recording`. Both stay as they were if memory runs out
abbrev pub AnswersIn : Ask → Bool → Segment → List Pair → ℕ → Result (Answered × Option Done) AllocError → Segment → List Pair → Type 0
AnswersIn ask recording segment pairs limit (Ok both) segment' pairs' =
    let past = past_at ask.caller ask.number segment in
    let did = past_done past ask pairs limit in
    (both.0 ≡ past_answer past ask pairs limit) × (both.1 ≡ note_of recording did) × (segment' ≡ segment_after did ask segment) × (pairs' ≡ entries_after did ask pairs)
AnswersIn ask recording segment pairs limit (Err fault) segment' pairs' =
    TakesMemory (past_answer (past_at ask.caller ask.number segment) ask pairs limit) × (segment' ≡ segment) × (pairs' ≡ pairs)

-- the buffer of a journal grew by the command of this call, if one was executed; by nothing if
-- memory ran out
abbrev pub Journals : {A : Type 0}
    → Result A AllocError → Option Done → Buffered → Buffered → Type 0
Journals (Ok answered) did old new = JournalIs old did new
Journals (Err fault) did old new = JournalIs old None new

-- the call that an Ask executes at the segment, if any
abbrev pub done_in : Option Segment → Ask → Node → Option Done
done_in None ask node = None
done_in (Some segment) ask node = past_done (past_at ask.caller ask.number segment) ask node.entries node.limit

-- the call that an Ask executes at the node, if any
unfoldable pub ask_done : Ask → Node → Option Done
ask_done ask node = done_in (segment_with (id_of ask.request) node.held) ask node

-- the node after the call, if one was executed
abbrev pub after_done : Option Done → Ask → Node → Node
after_done None ask node = node
after_done (Some done) ask node = with_executed ask node

-- the message that an answer sends
abbrev pub sent_by : Ask → Answered → Option Message
sent_by ask (answer.Told told) = Some (ToldMessage told)
sent_by ask (answer.Forward to passed) = Some (AskMessage passed)
sent_by ask answer.Full = Some (FullMessage ask.caller ask.number)
sent_by ask answer.Dropped = None

-- what a node answers: from the segment that holds the key, or by passing the call on
abbrev pub AnswersBy : Option Segment → Ask → Node → Answered → Type 0
AnswersBy None ask node answered = PassesOn node.links ask answered
AnswersBy (Some segment) ask node answered = answered ≡ past_answer (past_at ask.caller ask.number segment) ask node.entries node.limit

-- the node may lack memory: its answer would copy something
abbrev pub AsksMemory : Ask → Node → Type 0
AsksMemory ask node = (answered : Answered) × AnswersBy (segment_with (id_of ask.request) node.held) ask node answered × TakesMemory answered

-- What a node answers to an Ask, and the node afterwards. It stays as it was if memory runs out
abbrev pub AskIs : Ask → Node → Result Answered AllocError → Node → Type 0
AskIs ask old (Ok answered) new =
    AnswersBy (segment_with (id_of ask.request) old.held) ask old answered × (new ≡ after_done (ask_done ask old) ask old)
AskIs ask old (Err fault) new = AsksMemory ask old × (new ≡ old)

-- AskIs, with the executed call if it is to be recorded
abbrev pub AskRecords : Ask → Bool → Node → Result (Answered × Option Done) AllocError → Node → Type 0
AskRecords ask recording old (Ok both) new = AskIs ask old (Ok both.0) new × (both.1 ≡ note_of recording (ask_done ask old))
AskRecords ask recording old (Err fault) new = AsksMemory ask old × (new ≡ old)

-- AskIs is one step of the node, unless memory ran out
abbrev pub AskSteps : Ask → Node → Result Answered AllocError → Node → Type 0
AskSteps ask old (Ok answered) new = NodeStep old (Some (AskMessage ask)) new (sent_by ask answered) (ask_done ask old)
AskSteps ask old (Err fault) new = Unit {0}

abbrev pub AskStepsRecording : Ask → Node → Result (Answered × Option Done) AllocError → Node → Type 0
AskStepsRecording ask old (Ok both) new = AskSteps ask old (Ok both.0) new
AskStepsRecording ask old (Err fault) new = Unit {0}
