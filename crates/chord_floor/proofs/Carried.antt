-- What was sent of handovers: a part that may still be taken has its item in its giver's outbox.
use Rattle.std.proofs.Common.{◌≡◌, ◌≢◌, ℕ, ◌+◌, ◌<◌, ◌≤◌, eqb, ◌⊎◌, inl, inr, ⊎_elim, refl, sym, ◌∙◌, ap, subst, arith, List, [], ◌∷◌, ◌++◌, Option, Some, None, le_trans, lt_of_le_of_lt}
use Rattle.std.proofs.lemmas.Bool.{cases_eq}
use Rattle.std.proofs.lemmas.Option.{same_Some}
use Rattle.chord_handover.specs.Handover.{Handover, Part, part_at, IsWhole, gathered_parts, Item, item_at}
use Rattle.chord_map.proofs.Lists.{Has, Each, has_cases, has_contained, has_filter, has_left, has_pushed, find_left}
use Rattle.chord_model.proofs.NodeLemmas.{item_found, last_at, last_grows, last_pushed, node_pushed}
use Rattle.chord_model.proofs.Numbered.{nodes_by}
use Rattle.chord_model.specs.declared.message.Message.{Message}
use Rattle.chord_model.specs.declared.message.Message.TheVariants.{Ask as AskMessage, Told as ToldMessage, Full as FullMessage, Part as PartMessage, Got as GotMessage, Declined as DeclinedMessage, Note as NoteMessage}
use Rattle.chord_model.specs.declared.phase.Phase.TheVariants.{Gone}
use Rattle.chord_model.specs.Node.{Node}
use Rattle.chord_model.specs.Stock.{IsOnCircle}
use Rattle.chord_model.specs.World.{node_at, put_node, with_one, taken_by, last_taken}
use Rattle.chord_segment.specs.Marks.{mark_of}
use Rattle.chord_segment.specs.Segment.{Segment}

-- the node of this number is gone
abbrev pub IsGone : List Node → ℕ → Type 0
IsGone nodes number = (node : Node) × (node_at number nodes ≡ Some node) × (node.phase ≡ Gone)

-- the item that a part is of, in its sender's outbox
pub record Origin (nodes : List Node) (part : Part) : Type 0 where
  pub sender : Node
  pub item : Item
  pub is_sender : node_at part.from nodes ≡ Some sender
  pub is_item : item_at part.to part.number sender.outbox ≡ Some item
  pub same : (segment : Segment) → part.segment ≡ Some segment → item.segment ≡ segment

-- An Ask's number is above its floor. A part that may still be taken has its item; what was got was
-- taken; and what was declined will not be.
abbrev pub MessageOk : List Node → Message → Type 0
MessageOk nodes (AskMessage ask) = ask.floor < ask.number
MessageOk nodes (ToldMessage told) = Unit {0}
MessageOk nodes (FullMessage caller number) = Unit {0}
MessageOk nodes (PartMessage part) = last_taken nodes part.to part.from < part.number → (IsGone nodes part.to → ⊥) → Origin nodes part
MessageOk nodes (GotMessage ticket) = ticket.number ≤ last_taken nodes ticket.to ticket.from
MessageOk nodes (DeclinedMessage ticket) = IsGone nodes ticket.to × (last_taken nodes ticket.to ticket.from < ticket.number)
MessageOk nodes (NoteMessage note) = Unit {0}

pub record NodeOk (sent : List Message) (node : Node) : Type 0 where
  pub held_on : Each (λ (segment : Segment). IsOnCircle segment.span) node.held
  pub items_on : Each (λ (item : Item). IsOnCircle item.segment.span) node.outbox
  pub given : Each (λ (item : Item). item.number ≤ mark_of item.to node.given) node.outbox
  pub buffered : (part : Part) → Has node.buffered part → Has sent (PartMessage part)

pub record Carried (nodes : List Node) (sent : List Message) : Type 0 where
  pub all : (number : ℕ) (node : Node) → node_at number nodes ≡ Some node → NodeOk sent node
  pub messages : (message : Message) → Has sent message → MessageOk nodes message

last_same : (one other : List Node) (to from : ℕ) → node_at to one ≡ node_at to other → last_taken one to from ≡ last_taken other to from
unfolding last_taken
last_same one other to from e = ap (λ o. taken_by o from) e

-- lists with one more

pub has_one : {A : Type 0} (xs : List A) (o : Option A) (x : A) → Has (with_one xs o) x → Has xs x ⊎ (o ≡ Some x)
has_one xs None x h = inl h
has_one xs (Some y) x h = ⊎_elim (λ a. inl a) (λ e. inr (ap Some e)) (has_pushed xs y x h)

pub has_still : {A : Type 0} (xs : List A) (o : Option A) (x : A) → Has xs x → Has (with_one xs o) x
has_still xs None x h = h
has_still xs (Some y) x h = has_left xs (y ∷ []) x h

node_left : (number : ℕ) (nodes : List Node) (last node : Node) → node_at number nodes ≡ Some node → node_at number (nodes ++ last ∷ []) ≡ Some node
unfolding node_at
node_left number nodes last node e = find_left (λ (n : Node). eqb n.number number) nodes (last ∷ []) node e

pub item_left : (to number : ℕ) (outbox more : List Item) (item : Item) → item_at to number outbox ≡ Some item → item_at to number (outbox ++ more) ≡ Some item
unfolding item_at
item_left to number outbox more item e = find_left _ outbox more item e

pub ok_longer : (sent : List Message) (out : Option Message) (node : Node) → NodeOk sent node → NodeOk (with_one sent out) node
ok_longer sent out node ok = record {
  held_on = ok.held_on;
  items_on = ok.items_on;
  given = ok.given;
  buffered = λ part h. has_still sent out (PartMessage part) (ok.buffered part h);
}

-- what no step of a node undoes
pub record Change (nodes : List Node) (node after : Node) : Type 0 where
  pub number : after.number ≡ node.number
  pub grows : (from : ℕ) → mark_of from node.taken ≤ mark_of from after.taken
  pub gone : node.phase ≡ Gone → (after.phase ≡ Gone) × (after.taken ≡ node.taken)
  pub kept : (to number : ℕ) (item : Item) → item_at to number node.outbox ≡ Some item → last_taken nodes to node.number < number → (IsGone nodes to → ⊥)
      → item_at to number after.outbox ≡ Some item

module _ (nodes : List Node) (node after : Node) (here : node_at node.number nodes ≡ Some node) (change : Change nodes node after) where
  at : node_at after.number nodes ≡ Some node
  at = ap (λ n. node_at n nodes) change.number ∙ here

  -- the step's node is the changed one, and the others are those of before
  after_cases : {G : Type 0} (number : ℕ) → (number ≡ node.number → node_at number (put_node after nodes) ≡ Some after → G)
      → (node_at number (put_node after nodes) ≡ node_at number nodes → G) → G
  after_cases number own others =
      ⊎_elim
      (λ same. own (same ∙ change.number) (ap (λ n. node_at n (put_node after nodes)) same ∙ nodes_by.put_same after nodes node at))
      (λ apart. others (nodes_by.put_apart after nodes number apart))
      (cases_eq number after.number)

  is_node : (number : ℕ) (other : Node) → number ≡ node.number → node_at number nodes ≡ Some other → node ≡ other
  is_node number other same e = same_Some node other (sym here ∙ ap (λ n. node_at n nodes) (sym same) ∙ e)

  gone_later : (number : ℕ) → IsGone nodes number → IsGone (put_node after nodes) number
  gone_later number gone =
      after_cases number
      (λ same now. (after, now, (change.gone (subst (λ (n : Node). n.phase ≡ Gone) (sym (is_node number gone.0 same gone.1)) gone.2)).0))
      (λ e. (gone.0, e ∙ gone.1, gone.2))

  late_before : (to from number : ℕ) → last_taken (put_node after nodes) to from < number → last_taken nodes to from < number
  late_before to from number late = lt_of_le_of_lt (last_grows after nodes node at change.grows to from) late

  gone_late : (to from number : ℕ) → IsGone nodes to → last_taken nodes to from < number → last_taken (put_node after nodes) to from < number
  gone_late to from number gone late =
      after_cases to
      (λ same now.
      let is : node ≡ gone.0 = is_node to gone.0 same gone.1 in
      let still : after.taken ≡ node.taken = (change.gone (subst (λ (n : Node). n.phase ≡ Gone) (sym is) gone.2)).1 in
      let before : last_taken nodes to from ≡ mark_of from node.taken = last_at nodes to from node (gone.1 ∙ ap Some (sym is)) in
      let e : mark_of from after.taken ≡ mark_of from node.taken = ap (mark_of from) still in
      omega (arith, last_at (put_node after nodes) to from after now))
      (λ e. omega (arith, last_same (put_node after nodes) nodes to from e))

  origin_later : (part : Part) → last_taken nodes part.to part.from < part.number → (IsGone nodes part.to → ⊥) → Origin nodes part → Origin (put_node after nodes) part
  origin_later part late stays origin =
      after_cases part.from
      (λ same now.
      let is : node ≡ origin.sender = is_node part.from origin.sender same origin.is_sender in
      record {
        sender = after;
        item = origin.item;
        is_sender = now;
        is_item = change.kept part.to part.number origin.item (subst (λ (n : Node). item_at part.to part.number n.outbox ≡ Some origin.item) (sym is) origin.is_item)
            (subst (λ n. last_taken nodes part.to n < part.number) same late) stays;
        same = origin.same;
      })
      (λ e. record { sender = origin.sender; item = origin.item; is_sender = e ∙ origin.is_sender; is_item = origin.is_item; same = origin.same })

  -- each message is still right
  message_later : (message : Message) → MessageOk nodes message → MessageOk (put_node after nodes) message
  message_later (AskMessage ask) ok = ok
  message_later (ToldMessage told) ok = tt
  message_later (FullMessage caller number) ok = tt
  message_later (PartMessage part) ok = λ late stays.
      let before : last_taken nodes part.to part.from < part.number = late_before part.to part.from part.number late in
      let stayed : IsGone nodes part.to → ⊥ = λ gone. stays (gone_later part.to gone) in
      origin_later part before stayed (ok before stayed)
  message_later (GotMessage ticket) ok = le_trans ok (last_grows after nodes node at change.grows ticket.to ticket.from)
  message_later (DeclinedMessage ticket) ok = (gone_later ticket.to ok.0, gone_late ticket.to ticket.from ticket.number ok.0 ok.1)
  message_later (NoteMessage note) ok = tt

  -- one step of one node
  pub carried_put : (sent : List Message) (out : Option Message) → Carried nodes sent → NodeOk sent after
      → ((message : Message) → out ≡ Some message → MessageOk (put_node after nodes) message) → Carried (put_node after nodes) (with_one sent out)
  carried_put sent out carried ok says = record {
    all = λ number other e. ok_longer sent out other
        (after_cases number
        (λ same now. subst (NodeOk sent) (same_Some after other (sym now ∙ e)) ok)
        (λ before. carried.all number other (sym before ∙ e)));
    messages = λ message h. ⊎_elim (λ there. message_later message (carried.messages message there)) (says message) (has_one sent out message h);
  }

-- one more node, that has nothing in its outbox

module _ (nodes : List Node) (last : Node) where
  gone_before : (number : ℕ) → IsGone nodes number → IsGone (nodes ++ last ∷ []) number
  gone_before number gone = (gone.0, node_left number nodes last gone.0 gone.1, gone.2)

  message_pushed : (message : Message) → MessageOk nodes message → MessageOk (nodes ++ last ∷ []) message
  message_pushed (AskMessage ask) ok = ok
  message_pushed (ToldMessage told) ok = tt
  message_pushed (FullMessage caller number) ok = tt
  message_pushed (PartMessage part) ok = λ late stays.
      let origin = ok (lt_of_le_of_lt (last_pushed nodes last part.to part.from) late) (λ gone. stays (gone_before part.to gone)) in
      record { sender = origin.sender; item = origin.item; is_sender = node_left part.from nodes last origin.sender origin.is_sender; is_item = origin.is_item; same = origin.same }
  message_pushed (GotMessage ticket) ok = le_trans ok (last_pushed nodes last ticket.to ticket.from)
  message_pushed (DeclinedMessage ticket) ok =
      let gone : IsGone nodes ticket.to = ok.0 in
      let late : last_taken nodes ticket.to ticket.from < ticket.number = ok.1 in (
        gone_before ticket.to gone,
        omega (
          arith,
          late,
          last_at nodes ticket.to ticket.from gone.0 gone.1,
          last_at (nodes ++ last ∷ []) ticket.to ticket.from gone.0 (node_left ticket.to nodes last gone.0 gone.1),
        ),
      )
  message_pushed (NoteMessage note) ok = tt

  pub carried_pushed : (sent : List Message) → Carried nodes sent → NodeOk sent last → Carried (nodes ++ last ∷ []) sent
  carried_pushed sent carried ok = record {
    all = λ number node e. ⊎_elim (λ there. carried.all number node there) (λ is. subst (NodeOk sent) is ok) (node_pushed number nodes last node e);
    messages = λ message h. message_pushed message (carried.messages message h);
  }

-- the handover that is taken next is in its sender's outbox
pub record TakenFrom (nodes : List Node) (handover : Handover) : Type 0 where
  pub sender : Node
  pub item : Item
  pub is_sender : node_at handover.from nodes ≡ Some sender
  pub has_item : Has sender.outbox item
  pub late : last_taken nodes item.to handover.from < item.number
  pub same : item.segment ≡ handover.segment

pub taken_from : (nodes : List Node) (sent : List Message) → Carried nodes sent → (node : Node) (part : Part) (handover : Handover) → node_at handover.to nodes ≡ Some node
    → Has sent (PartMessage part) → IsWhole (gathered_parts part node.buffered) handover → handover.number ≡ mark_of handover.from node.taken + 1 → node.phase ≢ Gone
    → TakenFrom nodes handover
taken_from nodes sent carried node part handover at was whole next stays =
    let first : Has (gathered_parts part node.buffered) (part_at handover 1) = has_contained (gathered_parts part node.buffered) (part_at handover 1) (whole.all 1 (omega arith) (omega arith)) in
    let first_sent : Has sent (PartMessage (part_at handover 1)) =
    ⊎_elim (λ a. (carried.all handover.to node at).buffered (part_at handover 1) (has_filter _ node.buffered (part_at handover 1) a).0)
    (λ b. ⊎_elim (λ e. subst (λ (p : Part). Has sent (PartMessage p)) e was) (λ n. absurd n) b)
    (has_cases _ (part ∷ []) (part_at handover 1) first) in
    let late : last_taken nodes handover.to handover.from < handover.number = omega (arith, last_at nodes handover.to handover.from node at) in
    let origin : Origin nodes (part_at handover 1) =
    carried.messages (PartMessage (part_at handover 1)) first_sent late
    (λ gone. stays (subst (λ (n : Node). n.phase ≡ Gone) (same_Some gone.0 node (sym gone.1 ∙ at)) gone.2)) in
    let is = item_found handover.to handover.number origin.sender.outbox origin.item origin.is_item in
    record {
      sender = origin.sender;
      item = origin.item;
      is_sender = origin.is_sender;
      has_item = is.2;
      late = subst (λ n. last_taken nodes n handover.from < origin.item.number) (sym is.0) (omega (arith, is.1));
      same = origin.same handover.segment refl;
    }
