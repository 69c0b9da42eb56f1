-- Nodes that take in a Part, a Got or a Declined.
use Rattle.std.proofs.Common.{◌≡◌, ℕ, ◌<◌, inl, inr, Bool, Option, None, Some, Ok, List, length, get_or, refl, sym, ◌∙◌, ap, subst, arith}
use Rattle.std.specs.Prelude.{slice_get}
use Rattle.chord_handover.specs.declared.ticket.Ticket.{Ticket}
use Rattle.chord_handover.specs.Handover.{Part, ticket_of_part}
use Rattle.chord_node.specs.declared.handovers.part_answer.PartAnswer.{PartAnswer}
use Rattle.chord_node.specs.declared.handovers.part_answer.PartAnswer.TheVariants as given
use Rattle.chord_node.specs.declared.handovers.part_answer.Back.{Back}
use Rattle.chord_node.specs.declared.handovers.part_answer.Back.TheVariants as back
use Rattle.chord_model.specs.declared.message.Message.{Message}
use Rattle.chord_model.specs.declared.message.Message.TheVariants.{Part as PartMessage, Got as GotMessage, Declined as DeclinedMessage}
use Rattle.chord_model.specs.Node.{Node}
use Rattle.chord_node.specs.Received.{PartIs, GotIs, BackIs, sent_for}
use Rattle.chord_model.specs.World.{with_one}
use Rattle.chord_world.specs.Deeds.{IsPartFor}
use Rattle.chord_world.specs.declared.sent.Sent.{Sent}
use Rattle.chord_world.specs.State.{WorldState, messages_of, AreAimed, IsWorld}
use Rattle.chord_world.specs.Taking.{confirmation, no_target}
use Rattle.chord_world.proofs.Acting.{SendsCall}
use Rattle.chord_world.proofs.Answering.{place_within, read}
use Rattle.chord_world.proofs.Handing.{IsStill, still_same}
use Rattle.chord_world.proofs.Placing.{nodes_by, call_at, aimed_pushed}

-- ---- a node that takes in a message keeps its number and links

pub still_part : (part : Part) (answer : PartAnswer) (node after : Node)
    → PartIs part node (Ok answer) after → IsStill node after
still_part part given.Got node after (inl h) = still_same node after h.1
still_part part given.Got node after (inr h) =
    subst (IsStill node) (sym h.4) (record { number = refl; gone = refl; links = refl })
still_part part given.Declined node after h = still_same node after h.2
still_part part given.Early node after h = still_same node after h.2
still_part part given.Clash node after h = still_same node after h.2
still_part part given.Full node after h = still_same node after h.4
still_part part given.Part node after h =
    subst (IsStill node) (sym h.2) (record { number = refl; gone = refl; links = refl })

pub still_got : (got : Ticket) (found : Bool) (node after : Node) → GotIs got node found after
    → IsStill node after
still_got got found node after h =
    subst (IsStill node) (sym h.1) (record { number = refl; gone = refl; links = refl })

pub still_back : (declined : Ticket) (answer : Back) (node after : Node)
    → BackIs declined node (Ok answer) after → IsStill node after
still_back declined back.Held node after h =
    subst (IsStill node) (sym h.4) (record { number = refl; gone = refl; links = refl })
still_back declined back.Unknown node after h = still_same node after h.1
still_back declined back.Clash node after h = still_same node after h.3
still_back declined back.Full node after h = still_same node after h.4

-- ---- the node and its number

pub numbered : (place : ℕ) (view : WorldState) (node : Node) → IsWorld view
    → slice_get view.world.nodes place ≡ Some node
    → node.number ≡ place
numbered place view node kept here =
    let at = nodes_by.number 0 place node view.world.nodes kept.nodes here in omega arith

pub part_ends : (view : WorldState) (place : ℕ) (part : Part) → IsWorld view
    → slice_get view.world.sent place ≡ Some (PartMessage part)
    → (part.from < length view.world.nodes) × (part.to < length view.world.nodes)
part_ends view place part kept sent =
    call_at (length view.world.nodes) (length view.world.callers) view.world.sent place
    (PartMessage part) kept.calls sent

-- ---- the answer to a part

pub confirmed : (part : Part) (answer : PartAnswer)
    → confirmation (ticket_of_part part) answer ≡ sent_for part answer
confirmed part given.Got = refl
confirmed part given.Declined = refl
confirmed part given.Early = refl
confirmed part given.Clash = refl
confirmed part given.Full = refl
confirmed part given.Part = refl

pub known_reply : (nodes count : ℕ) (part : Part) (answer : PartAnswer) → part.from < nodes
    → part.to < nodes → SendsCall nodes count (sent_for part answer)
known_reply nodes count part given.Got from to = (from, to)
known_reply nodes count part given.Declined from to = (from, to)
known_reply nodes count part given.Early from to = tt
known_reply nodes count part given.Clash from to = tt
known_reply nodes count part given.Full from to = tt
known_reply nodes count part given.Part from to = tt

pub reply_aimed : (sent : List Message) (targets : List (Option ℕ)) (part : Part)
    (answer : PartAnswer) → AreAimed sent targets
    → AreAimed (with_one sent (sent_for part answer)) (with_one targets (no_target
    (sent_for part answer)))
reply_aimed sent targets part given.Got all =
    aimed_pushed sent targets (GotMessage (ticket_of_part part)) None all tt
reply_aimed sent targets part given.Declined all =
    aimed_pushed sent targets (DeclinedMessage (ticket_of_part part)) None all tt
reply_aimed sent targets part given.Early all = all
reply_aimed sent targets part given.Clash all = all
reply_aimed sent targets part given.Full all = all
reply_aimed sent targets part given.Part all = all

-- the part that was read under its number is the one there
pub read_part : {number : ℕ} {x : Sent} {part : Part} {node : Node} (items before : List Sent)
    → items ≡ before
    → (is_for : IsPartFor number node (messages_of before)) → x ≡ get_or items number x
    → x.message ≡ PartMessage part
    → is_for.part ≡ part
read_part {number} {x} {part} items before same is_for e is =
    let within = place_within items before number (PartMessage is_for.part) same is_for.came in
    let both : Some (PartMessage is_for.part) ≡ Some (PartMessage part) =
    sym is_for.came ∙ read items before number x (PartMessage part) same within e is in cc

-- the message of an answer to a part, in the terms of the code
pub answered : {sent before : List Message} {ticket : Ticket} (part : Part) (answer : PartAnswer)
    (all : List Message)
    → ticket ≡ ticket_of_part part → before ≡ all
    → sent ≡ with_one before (confirmation ticket answer)
    → sent ≡ with_one all (sent_for part answer)
answered part answer all named same e =
    e ∙ (λ i. with_one (same i) (confirmation (named i) answer))
    ∙ ap (with_one all) (confirmed part answer)

pub answered_to : {targets before : List (Option ℕ)} {ticket : Ticket} (part : Part)
    (answer : PartAnswer) (all : List (Option ℕ))
    → ticket ≡ ticket_of_part part → before ≡ all
    → targets ≡ with_one before (no_target (confirmation ticket answer))
    → targets ≡ with_one all (no_target (sent_for part answer))
answered_to part answer all named same e =
    e ∙ (λ i. with_one (same i) (no_target (confirmation (named i) answer)))
    ∙ ap (λ m. with_one all (no_target m)) (confirmed part answer)
