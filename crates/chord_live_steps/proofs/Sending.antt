-- An answer to a call sends its message.
use Rattle.std.proofs.Common.{◌≡◌, ◌∙◌, ℕ, Bool, true, false, cond, List, refl, sym, ap, subst, Option, None, Some, Ok}
use Rattle.std.specs.Prelude.{IfSome}
use Rattle.chord_caller.specs.declared.ask.Ask.{Ask}
use Rattle.chord_caller.specs.declared.told.Told.{Told}
use Rattle.chord_map.specs.declared.done.Done.{Done}
use Rattle.chord_map.specs.declared.pair.Pair.{Pair}
use Rattle.chord_segment.specs.Segment.{Segment, Past, id_of, past_at}
use Rattle.chord_segment.specs.Segment.Past.{New, Kept, Seen}
use Rattle.chord_live_steps.specs.Dealt.{answer_to, message_in}
use Rattle.chord_live_steps.specs.Keys.{IsKeyId}
use Rattle.chord_live_steps.specs.declared.target.Target.{Target}
use Rattle.chord_node.specs.Asked.{AnswersBy, AskIs, AskSteps, ask_done, is_full_for, past_answer, sent_by}
use Rattle.chord_model.specs.Node.{Node, NodeStep, segment_with}
use Rattle.chord_node.specs.declared.asks.answered.Answered.{Answered}
use Rattle.chord_node.specs.declared.asks.answered.Answered.TheVariants as answered
use Rattle.chord_model.specs.declared.message.Message.{Message}
use Rattle.chord_model.specs.declared.message.Message.TheVariants.{Ask as AskMessage}

same_message : (ask : Ask) (answer : Answered) → message_in (answer_to ask.caller ask.number answer) ≡ sent_by ask answer
same_message ask (answered.Told told) = refl
same_message ask (answered.Forward to passed) = refl
same_message ask answered.Full = refl
same_message ask answered.Dropped = refl

pub asked : (ask : Ask) (answer : Answered) (message : Message) (old new : Node) (sent : Option (Target × Message)) → message ≡ AskMessage ask → sent ≡ answer_to ask.caller ask.number answer
    → AskSteps ask old (Ok answer) new → (done : Option Done) × NodeStep old (Some message) new (message_in sent) done
asked ask answer message old new sent is goes step = (
  ask_done ask old,
  subst (λ (m : Message). NodeStep old (Some m) new (message_in sent) (ask_done ask old)) (sym is)
      (subst (λ (m : Option Message). NodeStep old (Some (AskMessage ask)) new m (ask_done ask old)) (sym (ap message_in goes ∙ same_message ask answer)) step),
)

-- ---- a call that is sent on has the same key

abbrev KeepsKey : ℕ → Answered → Type 0
KeepsKey id (answered.Forward to passed) = id ≡ id_of passed.request
KeepsKey id answer = Unit {0}

new_keeps : (id : ℕ) (told : Told) (full : Bool) → KeepsKey id (cond full answered.Full (answered.Told told))
new_keeps id told true = tt
new_keeps id told false = tt

past_keeps : (id : ℕ) (ask : Ask) (past : Past) (pairs : List Pair) (limit : ℕ) → KeepsKey id (past_answer past ask pairs limit)
past_keeps id ask Seen pairs limit = tt
past_keeps id ask (Kept done) pairs limit = tt
past_keeps id ask New pairs limit = new_keeps id _ (is_full_for ask.request pairs limit)

passed_keeps : (id to : ℕ) (passed : Ask) (spent : Bool) → id ≡ id_of passed.request → KeepsKey id (cond spent answered.Dropped (answered.Forward to passed))
passed_keeps id to passed true same = tt
passed_keeps id to passed false same = same

answer_keeps : (id : ℕ) (ask : Ask) (node : Node) (answer : Answered) (o : Option Segment) → AnswersBy o ask node answer → id ≡ id_of ask.request → KeepsKey id answer
answer_keeps id ask node answer None (hop, next, is) same = subst (KeepsKey id) (sym is) (passed_keeps id _ _ _ same)
answer_keeps id ask node answer (Some segment) is same = subst (KeepsKey id) (sym is) (past_keeps id ask (past_at ask.caller ask.number segment) node.entries node.limit)

sends_key : (id caller number : ℕ) (answer : Answered) → KeepsKey id answer → IfSome (answer_to caller number answer) (λ both. IsKeyId id both.1)
sends_key id caller number (answered.Told told) keeps = refl
sends_key id caller number (answered.Forward to passed) keeps = keeps
sends_key id caller number answered.Full keeps = refl
sends_key id caller number answered.Dropped keeps = tt

pub key_kept : (id : ℕ) (ask : Ask) (answer : Answered) (old new : Node) (sent : Option (Target × Message)) → id ≡ id_of ask.request → sent ≡ answer_to ask.caller ask.number answer
    → AskIs ask old (Ok answer) new → IfSome sent (λ both. IsKeyId id both.1)
key_kept id ask answer old new sent same goes is =
    subst (λ (out : Option (Target × Message)). IfSome out (λ both. IsKeyId id both.1)) (sym goes)
    (sends_key id ask.caller ask.number answer (answer_keeps id ask old answer (segment_with (id_of ask.request) old.held) is.0 same))
