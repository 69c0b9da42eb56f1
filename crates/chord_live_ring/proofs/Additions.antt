-- What adds nothing to a journal: a node that sends nothing, and a Retrieve.
use Rattle.std.proofs.Common.{◌≡◌, ℕ, Bool, true, false, cond, None, Some, Option, Ok, List, [], refl, ap, subst}
use Rattle.chord_map.specs.declared.done.Done.{Done}
use Rattle.chord_map.specs.declared.pair.Pair.{Pair}
use Rattle.chord_map.specs.Map.{reply_to}
use Rattle.chord_segment.specs.Segment.{Segment, Past, id_of, past_at}
use Rattle.chord_segment.specs.Segment.Past.{New, Kept, Seen}
use Rattle.chord_caller.specs.declared.ask.Ask.{Ask}
use Rattle.chord_caller.specs.declared.told.Told.{Told as ToldType}
use Rattle.chord_journal.specs.Journal.{added}
use Rattle.chord_map.specs.declared.request.Request.{Request}
use Rattle.chord_map.specs.declared.request.Request.TheVariants.{Retrieve}
use Rattle.chord_map.specs.declared.reply.Reply.{Reply}
use Rattle.chord_model.specs.declared.message.Message.{Message}
use Rattle.chord_model.specs.declared.message.Message.TheVariants.{Ask as AskMessage}
use Rattle.chord_model.specs.Node.{Node, segment_with, done_of, told_of}
use Rattle.chord_node.specs.declared.asks.answered.Answered.{Answered}
use Rattle.chord_node.specs.declared.asks.answered.Answered.TheVariants as answer
use Rattle.chord_node.specs.Asked.{AnswersBy, ask_done, done_in, is_full_for, past_answer, past_done}
use Rattle.chord_live_steps.specs.Dealt.{DealIs, answer_to, executed_for}

full_none : (b : Bool) (told : ToldType) (done : Done) → answer.Dropped ≡ cond b answer.Full (answer.Told told) → cond b None (Some done) ≡ None
full_none true told done e = refl
full_none false told done e = absurd cc

past_none : (past : Past) (ask : Ask) (pairs : List Pair) (limit : ℕ) → answer.Dropped ≡ past_answer past ask pairs limit → past_done past ask pairs limit ≡ None
past_none Seen ask pairs limit e = refl
past_none (Kept done) ask pairs limit e = refl
past_none New ask pairs limit e = full_none (is_full_for ask.request pairs limit) (told_of ask (reply_to ask.request pairs)) (done_of ask (reply_to ask.request pairs)) e

by_none : (o : Option Segment) (ask : Ask) (node : Node) → AnswersBy o ask node answer.Dropped → done_in o ask node ≡ None
by_none None ask node h = refl
by_none (Some segment) ask node h = past_none (past_at ask.caller ask.number segment) ask node.entries node.limit h

is_dropped : (caller number : ℕ) (answered : Answered) → None ≡ answer_to caller number answered → answered ≡ answer.Dropped
is_dropped caller number (answer.Told told) e = absurd cc
is_dropped caller number (answer.Forward to passed) e = absurd cc
is_dropped caller number answer.Full e = absurd cc
is_dropped caller number answer.Dropped e = refl

ask_none : (ask : Ask) (old new : Node) → DealIs (AskMessage ask) old (Ok None) new → ask_done ask old ≡ None
unfolding ask_done
ask_none ask old new (answered, is, e) =
    by_none (segment_with (id_of ask.request) old.held) ask old
    (subst (AnswersBy (segment_with (id_of ask.request) old.held) ask old) (is_dropped ask.caller ask.number answered e) is.0)

pub silent_none : (message : Message) (old new : Node) → DealIs message old (Ok None) new → executed_for message old ≡ None
silent_none (AskMessage ask) old new d = ask_none ask old new d
silent_none message old new d = refl

-- ---- a Retrieve

read_only : (b : Bool) (ask : Ask) (key : List ℕ) (reply : Reply) → ask.request ≡ Retrieve key → added true (cond b None (Some (done_of ask reply))) ≡ []
read_only true ask key reply e = refl
read_only false ask key reply e = ap (λ (request : Request). added true (Some (record { caller = ask.caller; number = ask.number; request = request; reply = reply }))) e

past_reads : (past : Past) (ask : Ask) (key : List ℕ) (pairs : List Pair) (limit : ℕ) → ask.request ≡ Retrieve key → added true (past_done past ask pairs limit) ≡ []
past_reads Seen ask key pairs limit e = refl
past_reads (Kept done) ask key pairs limit e = refl
past_reads New ask key pairs limit e = read_only (is_full_for ask.request pairs limit) ask key (reply_to ask.request pairs) e

held_reads : (o : Option Segment) (ask : Ask) (key : List ℕ) (node : Node) → ask.request ≡ Retrieve key → added true (done_in o ask node) ≡ []
held_reads None ask key node e = refl
held_reads (Some segment) ask key node e = past_reads (past_at ask.caller ask.number segment) ask key node.entries node.limit e

pub retrieve_adds_none : (ask : Ask) (key : List ℕ) (node : Node) → ask.request ≡ Retrieve key → added true (ask_done ask node) ≡ []
unfolding ask_done
retrieve_adds_none ask key node e = held_reads (segment_with (id_of ask.request) node.held) ask key node e
