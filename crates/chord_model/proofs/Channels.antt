-- The handovers between nodes: what each sent message says of its sender and its receiver now.
use Rattle.std.proofs.Common.{◌≡◌, ℕ, ◌<◌, ◌≤◌, Bool, true, false, Option, Some, None, List, ⊎_elim, refl, ◌∙◌, ap, arith}
use Rattle.std.specs.Prelude.{Contains}
use Rattle.std.proofs.lemmas.List.Elements.{Contains-push_cases}
use Rattle.chord_handover.specs.declared.ticket.Ticket.{Ticket}
use Rattle.chord_handover.specs.Handover.{Handover, Part, part_at, Item, item_at, handover_of}
use Rattle.chord_model.proofs.Nodes.{at_put}
use Rattle.chord_model.specs.declared.message.Message.{Message}
use Rattle.chord_model.specs.declared.message.Message.TheVariants.{Ask as AskMessage, Told as ToldMessage, Full as FullMessage, Part as PartMessage, Got as GotMessage, Declined as DeclinedMessage, Note as NoteMessage}
use Rattle.chord_model.specs.declared.phase.Phase.{Phase}
use Rattle.chord_model.specs.Node.{Node}
use Rattle.chord_model.specs.World.{node_at, put_node, taken_by, with_one}
use Rattle.chord_model.specs.declared.phase.Phase.TheVariants.{Staying, Leaving, Gone}
use Rattle.chord_segment.specs.Marks.{mark_of}

abbrev pub is_gone : Phase → Bool
is_gone Gone = true
is_gone Staying = false
is_gone Leaving = false

abbrev pub gone_by : Option Node → Bool
gone_by None = false
gone_by (Some node) = is_gone node.phase

abbrev pub given_by : Option Node → ℕ → ℕ
given_by None to = 0
given_by (Some node) to = mark_of to node.given

abbrev pub item_by : Option Node → ℕ → ℕ → Option Item
item_by None to number = None
item_by (Some node) to number = item_at to number node.outbox

-- the last number that `to` took from `from`, and the last that `from` gave to `to`
abbrev pub taken_in : List Node → ℕ → ℕ → ℕ
taken_in nodes to from = taken_by (node_at to nodes) from

abbrev pub given_in : List Node → ℕ → ℕ → ℕ
given_in nodes from to = given_by (node_at from nodes) to

-- the item for `to` under a number in the outbox of `from`
abbrev pub item_in : List Node → ℕ → ℕ → ℕ → Option Item
item_in nodes from to number = item_by (node_at from nodes) to number

abbrev pub gone_in : List Node → ℕ → Bool
gone_in nodes number = gone_by (node_at number nodes)

-- the item of a handover
abbrev pub item_from : Handover → Item
item_from handover = record { to = handover.to; number = handover.number; segment = handover.segment; pairs = handover.pairs }

-- What each message says. A part: its handover's number was given, and until the handover is taken
-- its item is in the outbox, unless the receiver is gone. A Got: it was taken. A Declined: the
-- receiver is gone and did not take it.
pub record GiveOk (nodes : List Node) (handover : Handover) : Type 0 where
  pub given : handover.number ≤ given_in nodes handover.from handover.to
  pub kept : gone_in nodes handover.to ≡ false → taken_in nodes handover.to handover.from < handover.number → item_in nodes handover.from handover.to handover.number ≡ Some (item_from handover)

-- GiveOk of a part's handover, and the part is one of that item's
pub record PartOk (nodes : List Node) (part : Part) : Type 0 where
  pub given : part.number ≤ given_in nodes part.from part.to
  pub kept : gone_in nodes part.to ≡ false → taken_in nodes part.to part.from < part.number
      → (item : Item) × (item_in nodes part.from part.to part.number ≡ Some item) × (part ≡ part_at (handover_of part.from item) part.place)

-- each part of a handover that is GiveOk is PartOk
pub part_ok : (nodes : List Node) (handover : Handover) (place : ℕ) → GiveOk nodes handover → PartOk nodes (part_at handover place)
part_ok nodes handover place ok = record { given = ok.given; kept = λ here above. (item_from handover, ok.kept here above, refl) }

pub record DeclinedOk (nodes : List Node) (ticket : Ticket) : Type 0 where
  pub gone : gone_in nodes ticket.to ≡ true
  pub above : taken_in nodes ticket.to ticket.from < ticket.number

abbrev pub MessageOk : List Node → Message → Type 0
MessageOk nodes (AskMessage ask) = Unit {0}
MessageOk nodes (ToldMessage told) = Unit {0}
MessageOk nodes (FullMessage caller number) = Unit {0}
MessageOk nodes (PartMessage part) = PartOk nodes part
MessageOk nodes (GotMessage ticket) = ticket.number ≤ taken_in nodes ticket.to ticket.from
MessageOk nodes (DeclinedMessage ticket) = DeclinedOk nodes ticket
MessageOk nodes (NoteMessage note) = Unit {0}

pub record Channels (nodes : List Node) (sent : List Message) : Type 0 where
  -- no more was taken than given
  pub behind : (to from : ℕ) → taken_in nodes to from ≤ given_in nodes from to
  -- an item in the outbox has a number that was given
  pub numbered : (from to number : ℕ) (item : Item) → item_in nodes from to number ≡ Some item → number ≤ given_in nodes from to
  pub messages : (message : Message) → Contains sent message → MessageOk nodes message

-- in later nodes no number fell, and a gone node is still gone
pub record Later (nodes nodes' : List Node) : Type 0 where
  pub taken_grows : (to from : ℕ) → taken_in nodes to from ≤ taken_in nodes' to from
  pub gone_takes_none : (to from : ℕ) → gone_in nodes to ≡ true → taken_in nodes' to from ≡ taken_in nodes to from
  pub given_grows : (from to : ℕ) → given_in nodes from to ≤ given_in nodes' from to
  pub gone_stays : (number : ℕ) → gone_in nodes number ≡ true → gone_in nodes' number ≡ true
  pub items_stay : (from to number : ℕ) → gone_in nodes to ≡ false → taken_in nodes to from < number → number ≤ given_in nodes from to
      → item_in nodes' from to number ≡ item_in nodes from to number

not_gone_before : (b c : Bool) → (b ≡ true → c ≡ true) → c ≡ false → b ≡ false
not_gone_before true c h f = let yes = h refl in cc
not_gone_before false c h f = refl

-- every message goes on saying it
pub MessageOk-later : (nodes nodes' : List Node) → Later nodes nodes' → (message : Message) → MessageOk nodes message → MessageOk nodes' message
MessageOk-later nodes nodes' later (AskMessage ask) ok = tt
MessageOk-later nodes nodes' later (ToldMessage told) ok = tt
MessageOk-later nodes nodes' later (FullMessage caller number) ok = tt
MessageOk-later nodes nodes' later (PartMessage handover) ok = record {
  given = let grows = later.given_grows handover.from handover.to in let g = ok.given in omega arith;
  kept = λ here above.
      let here' = not_gone_before (gone_in nodes handover.to) (gone_in nodes' handover.to) (later.gone_stays handover.to) here in
      let grows = later.taken_grows handover.to handover.from in
      let above' : taken_in nodes handover.to handover.from < handover.number = omega arith in
      let kept = ok.kept here' above' in
      (kept.0, later.items_stay handover.from handover.to handover.number here' above' ok.given ∙ kept.1, kept.2);
}
MessageOk-later nodes nodes' later (GotMessage ticket) ok = let grows = later.taken_grows ticket.to ticket.from in omega arith
MessageOk-later nodes nodes' later (DeclinedMessage ticket) ok = record {
  gone = later.gone_stays ticket.to ok.gone;
  above = let same = later.gone_takes_none ticket.to ticket.from ok.gone in let a = ok.above in omega arith;
}
MessageOk-later nodes nodes' later (NoteMessage note) ok = tt

-- a node's own numbers and items after its step, among these nodes
pub record Change (nodes : List Node) (node after : Node) : Type 0 where
  pub same_number : after.number ≡ node.number
  pub taken_grows : (from : ℕ) → mark_of from node.taken ≤ mark_of from after.taken
  pub gone_takes_none : (from : ℕ) → is_gone node.phase ≡ true → mark_of from after.taken ≡ mark_of from node.taken
  pub given_grows : (to : ℕ) → mark_of to node.given ≤ mark_of to after.given
  pub gone_stays : is_gone node.phase ≡ true → is_gone after.phase ≡ true
  pub items_stay : (to number : ℕ) → gone_in nodes to ≡ false → taken_in nodes to node.number < number → number ≤ mark_of to node.given
      → item_at to number after.outbox ≡ item_at to number node.outbox
  pub behind : (from : ℕ) → mark_of from after.taken ≤ given_in nodes from node.number
  pub numbered : (to number : ℕ) (item : Item) → item_at to number after.outbox ≡ Some item → number ≤ mark_of to after.given

pub later_from : (nodes : List Node) (node after : Node) → node_at node.number nodes ≡ Some node → Change nodes node after → Later nodes (put_node after nodes)
later_from nodes node after at change =
    let at' : node_at after.number nodes ≡ Some node = rw change.same_number at in
    record {
      taken_grows = at_put (λ to old new. (from : ℕ) → taken_by old from ≤ taken_by new from) after node nodes at' change.taken_grows (λ to other from. omega arith);
      gone_takes_none = at_put (λ to old new. (from : ℕ) → gone_by old ≡ true → taken_by new from ≡ taken_by old from) after node nodes at' change.gone_takes_none (λ to other from gone. refl);
      given_grows = at_put (λ from old new. (to : ℕ) → given_by old to ≤ given_by new to) after node nodes at' change.given_grows (λ from other to. omega arith);
      gone_stays = at_put (λ number old new. gone_by old ≡ true → gone_by new ≡ true) after node nodes at' change.gone_stays (λ number other h. h);
      items_stay = at_put (λ from old new. (to number : ℕ) → gone_in nodes to ≡ false → taken_in nodes to from < number → number ≤ given_by old to → item_by new to number ≡ item_by old to number)
          after node nodes at' (rw change.same_number change.items_stay) (λ from other to number here above given. refl);
    }

-- the channels after a step
pub Channels-later : (nodes : List Node) (sent : List Message) (node after : Node) → Channels nodes sent → node_at node.number nodes ≡ Some node → Change nodes node after
    → Channels (put_node after nodes) sent
Channels-later nodes sent node after channels at change =
    let at' : node_at after.number nodes ≡ Some node = rw change.same_number at in
    let later = later_from nodes node after at change in
    record {
      behind = λ to from.
          let grows = later.given_grows from to in
          let before : taken_in (put_node after nodes) to from ≤ given_in nodes from to =
          at_put (λ to old new. (from : ℕ) → taken_by old from ≤ given_in nodes from to → taken_by new from ≤ given_in nodes from to) after node nodes at'
          (λ from h. rw change.same_number (change.behind from)) (λ to other from h. h) to from (channels.behind to from) in
          omega arith;
      numbered = λ from to number item e.
          at_put (λ from old new. ((to number : ℕ) (item : Item) → item_by old to number ≡ Some item → number ≤ given_by old to)
          → (to number : ℕ) (item : Item) → item_by new to number ≡ Some item → number ≤ given_by new to) after node nodes at'
          (λ h. change.numbered) (λ from other h. h) from (channels.numbered from) to number item e;
      messages = λ message was. MessageOk-later nodes (put_node after nodes) later message (channels.messages message was);
    }

-- the channels after a step and its message
pub Channels_with : (nodes : List Node) (sent : List Message) (out : Option Message) → Channels nodes sent → ((message : Message) → out ≡ Some message → MessageOk nodes message)
    → Channels nodes (with_one sent out)
Channels_with nodes sent None channels ok = channels
Channels_with nodes sent (Some new) channels ok = record {
  behind = channels.behind;
  numbered = channels.numbered;
  messages = λ message was.
      ⊎_elim (channels.messages message) (λ (same : new ≡ message). ok message (ap Some same)) (Contains-push_cases sent new message was);
}
