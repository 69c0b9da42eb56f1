-- What a node does: the world keeps its rules, and so does its ring.
use Rattle.std.proofs.Common.{◌≡◌, ℕ, ◌<◌, ◌⊎◌, inl, inr, false, Option, None, Some, Result, Ok, Err, List, length, set, refl, sym, ◌∙◌, ap, subst}
use Rattle.std.specs.Prelude.{slice_get, IsErrAnd, Contains}
use Rattle.std.proofs.lemmas.Option.{none-some}
use Rattle.chord_caller.specs.declared.ask.Ask.{Ask}
use Rattle.chord_segment.specs.Segment.{id_of}
use Rattle.chord_model.specs.Node.{segment_with}
use Rattle.chord_node.specs.Asked.{ask_done}
use Rattle.chord_world.specs.Delivering.{IsReceiver}
use Rattle.chord_handover.specs.declared.ticket.Ticket.{Ticket}
use Rattle.chord_handover.specs.Handover.{Part, item_at}
use Rattle.chord_handover.specs.Outbox.{payload_of}
use Rattle.chord_ring.proofs.Stepping.{Kept}
use Rattle.chord_model.specs.declared.message.Message.{Message}
use Rattle.chord_model.specs.declared.message.Message.TheVariants.{Ask as AskMessage, Part as PartMessage, Got as GotMessage, Declined as DeclinedMessage}
use Rattle.chord_model.specs.Node.{Node, NodeStep}
use Rattle.chord_model.specs.World.{World, Reached, WasSent, node_at, with_one}
use Rattle.chord_node.specs.declared.handovers.part_answer.PartAnswer.TheVariants as given
use Rattle.chord_node.specs.declared.handovers.part_answer.Back.TheVariants as back
use Rattle.chord_node.specs.Moves.{RetireIs}
use Rattle.chord_node.specs.Received.{PartIs, BackIs}
use Rattle.chord_world.specs.declared.deed.NodeDeed.{NodeDeed}
use Rattle.chord_world.specs.declared.deed.NodeDeed.TheVariants as deed
use Rattle.chord_world.specs.declared.outcome.Outcome.{Outcome}
use Rattle.chord_world.specs.declared.refusal.Refusal.{Refusal}
use Rattle.chord_world.specs.declared.refusal.Refusal.TheVariants.{Memory as NoMemory}
use Rattle.chord_world.specs.Linking.{IsFinger, with_finger_at}
use Rattle.chord_world.specs.Deeds.{Effect, Log, says, with_effect, log_in, AnswersCall, FingerIs, TakesPart, RefusedBy, NodeDoes, NodeRefuses, NodeFits, DoesDeed, RefusesIt, RefusesDeed, DeedIs, Fits, DidBy, DoesIt, DoesItAt, taken_by}
use Rattle.chord_world.specs.Delivered.{IsFor, Delivers, RefusesDeliver, DeliverIs}
use Rattle.chord_world.specs.Delivered.IsFor.{Ask_for, Part_for, Got_for, Declined_for}
use Rattle.chord_world.specs.Delivered.TakesMemory.{Ask_takes, Part_takes, Declined_takes}
use Rattle.chord_world.specs.Delivered.Delivers.{To_node, Part_to_node, Got_to_node, Declined_to_node}
use Rattle.chord_world.specs.Handing.{Call, IsMissing, HasNode, CanAct, CannotAct, NeededIs}
use Rattle.chord_world.specs.Handing.IsMissing.{Uncreated, Missing}
use Rattle.chord_world.specs.Handing.CannotAct.{Is_missing, Is_crashed}
use Rattle.chord_ring.specs.Ring.{CanDepart}
use Rattle.chord_world.specs.Members.{is_dead, is_gone, ring_with}
use Rattle.chord_world.specs.Refusals.{DoneOrRefused}
use Rattle.chord_world.specs.State.{WorldState, AreAimed, IsWorld, ring_of, fate_of, is_crashed, KeepsRing}
use Rattle.chord_world.specs.Steps.{Advances}
use Rattle.chord_world.proofs.Acting.{SendsCall, acts_at, keeps_same, ring_stays, put_is}
use Rattle.chord_world.proofs.Answering.{was_sent, sent_here, answered_number, answer_call, answer_aimed, done_phase, done_links, receiver_there}
use Rattle.chord_world.proofs.Handing.{IsStill, has_node, acts_within, still_same, still_cut, still_merge, still_leave, still_give, give_ends, resent_ends, part_known, leaving_member, can_of}
use Rattle.chord_world.proofs.Placing.{call_at, aimed_pushed}
use Rattle.chord_world.proofs.Pointing.{node_stands, pointed_ring}
use Rattle.chord_world.proofs.Posting.{set_same}
use Rattle.chord_world.proofs.Taking.{still_part, still_got, still_back, numbered, part_ends, known_reply, reply_aimed}
use Rattle.chord_world.proofs.Upkeeping.{retired, retired_ring}

-- ---- the node

-- a change that was done
pub changed : (self is : NodeDeed) (node after : Node) (log : Log) (outcome : Outcome) → self ≡ is
    → NodeDoes is node log.sent outcome after (says None)
    → NodeStep node (taken_by is log.sent) after None None
    → DoesIt self node log (Ok outcome) after log
changed self is node after log outcome e does steps =
    subst (λ d. DoesIt d node log (Ok outcome) after log) (sym e)
    (record { effect = says None; does = does; steps = steps; log_is = refl })

-- a node that refused and is unchanged
pub refused_by : {A E : Type 0} (Is : Call (Result A E)) (refusal_of : E
    → Refusal) (fault : E) (node after : Node)
    → Is node (Err fault) after → after ≡ node → RefusedBy Is refusal_of node (refusal_of fault)
refused_by Is refusal_of fault node after is same =
    record { fault = fault; is = subst (Is node (Err fault)) same is; told = refl }

pub not_done : (self is : NodeDeed) (node after : Node) (log log' : Log) (refusal : Refusal)
    (result : Result Outcome Refusal) → self ≡ is → NodeRefuses is node refusal → after ≡ node
    → log' ≡ log
    → IsErrAnd result (λ e. e ≡ refusal) → DoesIt self node log result after log'
not_done self is node after log log' refusal (Ok outcome) e why a l told = absurd told
not_done self is node after log log' refusal (Err other) e why a l told = (
  subst (λ d. NodeRefuses d node other) (sym e) (subst (NodeRefuses is node)
      (sym told) why),
  a,
  l,
)

-- ---- what the world sees of it

-- the node keeps its number, its message is one of this world, and the ring stays sound
pub record Seen (place : ℕ) (node after : Node) (taken : Option Message) (effect : Effect)
    (view : WorldState) : Type 0 where
  pub number : after.number ≡ node.number
  pub was : WasSent view.world.sent taken
  pub call : SendsCall (length view.world.nodes) (length view.world.callers) effect.message
  pub aimed : AreAimed (with_one view.world.sent effect.message) (with_one view.targets
      effect.target)
  pub ring : Kept (ring_of view) (ring_with (set view.world.nodes place after) view.fates)

-- a node that sends nothing
plain : (place : ℕ) (node after : Node) (taken : Option Message) (effect : Effect)
    (view : WorldState)
    → IsWorld view
    → after.number ≡ node.number → WasSent view.world.sent taken
    → Kept (ring_of view) (ring_with (set view.world.nodes place after) view.fates)
    → effect ≡ says None
    → Seen place node after taken effect view
plain place node after taken effect view kept number was ring e =
    subst (λ m. Seen place node after taken m view) (sym e)
    (record { number = number; was = was; call = tt; aimed = kept.targets; ring = ring })

quiet : (place : ℕ) (node after : Node) (taken : Option Message) (effect : Effect)
    (view : WorldState)
    → IsWorld view
    → slice_get view.world.nodes place ≡ Some node → WasSent view.world.sent taken
    → IsStill node after
    → effect ≡ says None → Seen place node after taken effect view
quiet place node after taken effect view kept here was still e =
    plain place node after taken effect view kept still.number was
    (ring_stays place node after view kept here still.gone still.links) e

-- the node became this one
became : (place : ℕ) (node next after : Node) (effect : Effect) (view : WorldState)
    → IsWorld view
    → after ≡ next → next.number ≡ node.number
    → Kept (ring_of view) (ring_with (set view.world.nodes place next) view.fates)
    → effect ≡ says None
    → Seen place node after None effect view
became place node next after effect view kept is number ring e =
    subst (λ n. Seen place node n None effect view) (sym is)
    (plain place node next None effect view kept number tt ring e)

gone : (place : ℕ) (node after : Node) (effect : Effect) (view : WorldState) → IsWorld view
    → slice_get view.world.nodes place ≡ Some node → NeededIs place view false
    → RetireIs node (Ok tt) after
    → effect ≡ says None → Seen place node after None effect view
gone place node after effect view kept here needed is e =
    let can : is_dead (fate_of place view) ≡ false → CanDepart (ring_of view).members place =
    λ alive. can_of place view needed
    (leaving_member place node view view refl kept here alive is.0) in
    became place node (retired node) after effect view kept is.4 refl
    (retired_ring place node view kept here can) e

sends : (place to : ℕ) (part : Part) (node after : Node) (effect : Effect)
    (view : WorldState)
    → IsWorld view → slice_get view.world.nodes place ≡ Some node → HasNode to view
    → IsStill node after
    → (part.from ≡ node.number) × (part.to ≡ to) → effect ≡ says (Some (PartMessage part))
    → Seen place node after None effect view
sends place to part node after effect view kept here there still ends e =
    subst (λ m. Seen place node after None m view) (sym e)
    (record {
      number = still.number;
      was = tt;
      call = part_known place to node part view kept here
          (acts_within to view view refl kept there) ends;
      aimed = aimed_pushed view.world.sent view.targets (PartMessage part) None kept.targets tt;
      ring = ring_stays place node after view kept here still.gone still.links;
    })

takes : (place number : ℕ) (node after : Node) (outcome : Outcome) (effect : Effect)
    (view : WorldState)
    → IsWorld view → slice_get view.world.nodes place ≡ Some node
    → TakesPart number node view.world.sent outcome after effect
    → Seen place node after (slice_get view.world.sent number) effect view
takes place number node after outcome effect view kept here does =
    let ends = part_ends view number does.part kept does.came in
    let still = still_part does.part does.given node after does.is in
    subst (λ m. Seen place node after (slice_get view.world.sent number) m view) (sym does.sends)
    (record {
      number = still.number;
      was = subst (WasSent view.world.sent) (sym does.came)
          (was_sent view.world.sent number _ does.came);
      call = known_reply (length view.world.nodes)
          (length view.world.callers) does.part does.given ends.0 ends.1;
      aimed = reply_aimed view.world.sent view.targets does.part does.given kept.targets;
      ring = ring_stays place node after view kept here still.gone still.links;
    })

answers : (place number : ℕ) (node after : Node) (outcome : Outcome) (effect : Effect)
    (view : WorldState)
    → IsWorld view → slice_get view.world.nodes place ≡ Some node
    → AnswersCall number node view.world.sent outcome after effect
    → Seen place node after (slice_get view.world.sent number) effect view
answers place number node after outcome effect view kept here does =
    let ask : Ask = does.ask in
    let within = call_at (length view.world.nodes)
    (length view.world.callers) view.world.sent number (AskMessage ask)
    kept.calls does.came in
    let next = ap (λ (n : Node). n.phase) does.is.1 ∙ done_phase (ask_done ask node) ask node in
    subst (λ e. Seen place node after (slice_get view.world.sent number) e view)
    (sym does.effect_is)
    (record {
      number = answered_number ask node after does.answered does.is;
      was = subst (WasSent view.world.sent) (sym does.came)
          (was_sent view.world.sent number _ does.came);
      call = answer_call (length view.world.nodes)
          (length view.world.callers) ask node does.answered
          (segment_with (id_of ask.request) node.held) does.is.0 within;
      aimed = answer_aimed view.world.sent view.targets ask does.answered kept.targets;
      ring = ring_stays place node after view kept here (ap is_gone next)
          (ap (λ (n : Node). n.links) does.is.1 ∙ done_links (ask_done ask node) ask node);
    })

seen : (deed : NodeDeed) (place : ℕ) (node after : Node) (outcome : Outcome)
    (effect : Effect)
    (view : WorldState) → IsWorld view → slice_get view.world.nodes place ≡ Some node
    → Fits deed place view
    → NodeDoes deed node view.world.sent outcome after effect
    → Seen place node after (taken_by deed view.world.sent) effect view
seen (deed.Cut slot at) place node after outcome effect view kept here fits does =
    quiet place node after None effect view kept here tt
    (still_cut slot at node after does.is) does.quiet
seen (deed.Merge slot behind) place node after outcome effect view kept here fits does =
    quiet place node after None effect view kept here tt
    (still_merge slot behind node after does.is) does.quiet
seen deed.Leave place node after outcome effect view kept here fits does =
    quiet place node after None effect view kept here tt
    (still_leave node after does.is) does.quiet
seen deed.Retire place node after outcome effect view kept here fits does =
    gone place node after effect view kept here fits does.is does.quiet
seen (deed.Give slot to) place node after outcome effect view kept here fits does =
    sends place to does.part node after effect view kept here fits
    (still_give slot to does.part node after does.is)
    (give_ends slot to does.part node after does.is) does.sends
seen (deed.SendPart to item part) place node after outcome effect view kept here fits does =
    sends place to does.part node after effect view kept here fits
    (still_same node after does.is.1)
    (resent_ends node.number to item part (payload_of
    (item_at to item node.outbox)) does.part does.is.0) does.sends
seen (deed.TakePart number) place node after outcome effect view kept here fits does =
    takes place number node after outcome effect view kept here does
seen (deed.TakeGot got) place node after outcome effect view kept here fits does =
    quiet place node after (Some (GotMessage got)) effect view kept here
    (was_sent view.world.sent fits.1.0 (GotMessage got) fits.1.1)
    (still_got got does.found node after does.is) does.quiet
seen (deed.TakeBack declined) place node after outcome effect view kept here fits does =
    quiet place node after (Some (DeclinedMessage declined)) effect view kept here
    (was_sent view.world.sent fits.1.0 (DeclinedMessage declined) fits.1.1)
    (still_back declined does.back node after does.is) does.quiet
seen (deed.SetFinger finger peer) place node after outcome effect view kept here fits does =
    became place node (with_finger_at finger peer node) after effect view kept does.1 refl
    (pointed_ring place finger peer node view kept here) does.2
seen (deed.Answer number) place node after outcome effect view kept here fits does =
    answers place number node after outcome effect view kept here does

-- what the node is asked for holds of it, since no delivery clashes in a reachable world
pub fits_at : (deed : NodeDeed) (place : ℕ) (node : Node) (view : WorldState) → IsWorld view
    → slice_get view.world.nodes place ≡ Some node
    → ((world : World) (part : Part) (node new : Node) → ∥ Reached world ∥₁
    → Contains world.sent (PartMessage part)
    → node_at part.to world.nodes ≡ Some node → ¬ PartIs part node (Ok given.Clash) new)
    → ((world : World) (ticket : Ticket) (node new : Node) → ∥ Reached world ∥₁
    → Contains world.sent (DeclinedMessage ticket) → node_at ticket.from world.nodes ≡ Some node
    → ¬ BackIs ticket node (Ok back.Clash) new)
    → Fits deed place view → NodeFits deed node view.world.sent
fits_at (deed.Cut slot at) place node view kept here taken taken_back fits = tt
fits_at (deed.Merge slot behind) place node view kept here taken taken_back fits = tt
fits_at deed.Leave place node view kept here taken taken_back fits = tt
fits_at deed.Retire place node view kept here taken taken_back fits = tt
fits_at (deed.Give slot to) place node view kept here taken taken_back fits = tt
fits_at (deed.SendPart to item part) place node view kept here taken taken_back fits = tt
fits_at (deed.TakePart number) place node view kept here taken taken_back (part, came, own) =
    let there = node_stands place view view node refl kept here in record {
      part = part;
      came = came;
      to = own ∙ sym (numbered place view node kept here);
      fits = λ after. taken view.world part node after kept.reached
          (was_sent view.world.sent number _ came)
          (ap (λ n. node_at n view.world.nodes) own ∙ there);
    }
fits_at (deed.TakeGot got) place node view kept here taken taken_back (own, _) =
    own ∙ sym (numbered place view node kept here)
fits_at (deed.TakeBack declined) place node view kept here taken taken_back (own, (number, came)) =
    let there = node_stands place view view node refl kept here in (
      own ∙ sym (numbered place view node kept here),
      λ after. taken_back view.world declined node after kept.reached
          (was_sent view.world.sent number _ came)
          (ap (λ n. node_at n view.world.nodes) own ∙ there),
    )
fits_at (deed.SetFinger finger peer) place node view kept here taken taken_back fits = fits
fits_at (deed.Answer number) place node view kept here taken taken_back fits = fits

-- ---- the world

-- what the deed did to the world
pub record Acted (deed : NodeDeed) (place : ℕ) (old : WorldState)
    (result : Result Outcome Refusal) (new : WorldState) : Type 0 where
  pub world : IsWorld new
  pub answer : DeedIs deed place old result new
  pub step : Advances old result new
  pub ring : KeepsRing old new

-- the world with these nodes and this log
abbrev pub with_log : List Node → Log → WorldState → WorldState
with_log nodes log view =
    record view {
      world = record view.world { nodes = nodes; sent = log.sent; history = log.history };
      targets = log.targets;
    }

pub acted_by : (deed : NodeDeed) (place : ℕ) (view old : WorldState) (nodes : List Node) (log : Log)
    (result : Result Outcome Refusal) → view ≡ old → IsWorld view → CanAct place old
    → Fits deed place old
    → DoesItAt deed place view.world.nodes (log_in view) result nodes log
    → Acted deed place old result (with_log nodes log view)
acted_by deed place view old nodes log (Ok outcome) same kept can fits it =
    let node : Node = it.node in
    let after : Node = it.after in
    let by : DidBy deed node (log_in view) outcome after log = it.is in
    let sees = seen deed place node after outcome by.effect view kept it.here
    (subst (Fits deed place) (sym same) fits) by.does in
    let put = put_is place node after nodes view kept it.here sees.number it.new_is in
    let is : with_log nodes log view ≡ with_effect after by.effect view =
    λ i. with_log (put i) (by.log_is i) view in
    let running = ap (is_crashed place) same ∙ can.1 in
    let next = acts_at place node after
    (taken_by deed view.world.sent) by.effect.message by.effect.target
    by.effect.done view old _ same kept
    (record {
      here = it.here;
      running = running;
      number = sees.number;
      was = sees.was;
      does = by.steps;
      call = sees.call;
      aimed = sees.aimed;
      ring = sees.ring;
    }) is in
    record {
      world = next.world;
      answer =
          subst (λ w. DoesDeed deed place w outcome (with_log nodes log view)) same
          (record {
            node = node;
            after = after;
            effect = by.effect;
            here = node_stands place view view node refl kept it.here;
            running = running;
            does = by.does;
            new_is = is;
          });
      step = next.step;
      ring = next.ring;
    }
acted_by deed place view old nodes log (Err refusal) same kept can fits it =
    let stay = it.new_is ∙ ap (set view.world.nodes place) it.is.1
    ∙ set_same view.world.nodes place it.node it.here in
    let is : with_log nodes log view ≡ view = λ i. with_log (stay i) (it.is.2 i) view in
    let here = node_stands place view old it.node same kept it.here in
    let refuses : RefusesIt deed place old refusal =
    record { node = it.node; here = here; running = can.1; refuses = it.is.0 } in
    record {
      world = subst IsWorld (sym is) kept;
      answer = (inr refuses, is ∙ same);
      step = is ∙ same;
      ring = keeps_same view old _ same stay refl;
    }

-- a refused step that changed nothing
pub refused_so : (Does : WorldState → Outcome → WorldState → Type 0) (Refuses : WorldState
    → Refusal → Type 0)
    (old : WorldState) (refusal : Refusal) (result : Result Outcome Refusal) → Refuses old refusal
    → IsErrAnd result (λ e. e ≡ refusal) → DoneOrRefused Does Refuses old result old
refused_so Does Refuses old refusal (Ok outcome) why is = absurd is
refused_so Does Refuses old refusal (Err e) why is = (subst (Refuses old) (sym is) why, refl)

-- the node of this number does nothing
pub cannot_act : (deed : NodeDeed) (place : ℕ) (old : WorldState) (refusal : Refusal)
    (result : Result Outcome Refusal)
    → CannotAct place old refusal → IsErrAnd result (λ e. e ≡ refusal)
    → DeedIs deed place old result old
cannot_act deed place old refusal result cannot is =
    refused_so (DoesDeed deed place) (RefusesDeed deed place) old refusal result (inl cannot) is

-- ---- a deed that asks for more of the world

pub allowed : (Holds : WorldState → Type 0) (Otherwise : WorldState → Refusal
    → Type 0) (deed : NodeDeed)
    (number : ℕ) (old new : WorldState) (result : Result Outcome Refusal) → Holds old
    → DeedIs deed number old result new
    → DoneOrRefused (λ o outcome n. Holds o × DoesDeed deed number o outcome n)
    (λ o refusal. Otherwise o refusal
    ⊎ (Holds o × RefusesDeed deed number o refusal)) old result new
allowed Holds Otherwise deed number old new (Ok outcome) holds does = (holds, does)
allowed Holds Otherwise deed number old new (Err refusal) holds does = (inr (holds, does.0), does.1)

pub fingered : (number finger to : ℕ) (peer : Node) (old new : WorldState)
    (result : Result Outcome Refusal)
    → node_at to old.world.nodes ≡ Some peer → IsFinger finger
    → DeedIs (deed.SetFinger finger peer.links.me) number old result new
    → FingerIs number finger to old result new
fingered number finger to peer old new (Ok outcome) there fits does =
    record { peer = peer; there = there; is_finger = fits; does = does }
fingered number finger to peer old new (Err refusal) there fits (inl cannot, same) =
    (inr (record { node = peer; here = there }, inl cannot), same)
fingered number finger to peer old new (Err refusal) there fits (inr it, same) = absurd it.refuses

-- ---- a message that is delivered to its node

missing_not : (place : ℕ) (old : WorldState) (refusal : Refusal) → IsMissing place old refusal
    → ¬ HasNode place old
unfolding node_at
missing_not place old refusal (Uncreated none) has =
    absurd (none-some has.node (sym (ap (node_at place) none) ∙ has.here))
missing_not place old refusal (Missing some none) has =
    absurd (none-some has.node (sym none ∙ has.here))

-- the deed delivers the message, or is refused as its delivery is
pub received : (message place : ℕ) (deed : NodeDeed) (old new : WorldState)
    (result : Result Outcome Refusal)
    → HasNode place old → IsFor message old place → ((outcome : Outcome)
    → DoesDeed deed place old outcome new → Delivers message old outcome new)
    → ((refusal : Refusal) → RefusesIt deed place old refusal → RefusesDeliver message old refusal)
    → DeedIs deed place old result new → DeliverIs message old result new
received message place deed old new (Ok outcome) has is_for done refuses does = done outcome does
received message place deed old new (Err refusal) has is_for done refuses (why, same) =
    (because refusal why, same)
  where
    because : (why : Refusal) → RefusesDeed deed place old why → RefusesDeliver message old why
    because why (inl (Is_missing _ missing)) = absurd (missing_not place old why missing has)
    because why (inl (Is_crashed there out)) = record {
      to = place;
      node = there.node;
      is_for = is_for;
      here = there.here;
      crashed = out;
    }
    because why (inr it) = refuses why it

pub ask_received : (message place : ℕ) (ask : Ask) (view old new : WorldState)
    (result : Result Outcome Refusal)
    → view ≡ old → IsWorld view → slice_get old.world.sent message ≡ Some (AskMessage ask)
    → IsReceiver message place old
    → DeedIs (deed.Answer message) place old result new → DeliverIs message old result new
ask_received message place ask view old new result same kept came receiver does =
    received message place (deed.Answer message) old new result
    (has_node place view old same kept (receiver_there message place view old same receiver))
    (Ask_for ask place came receiver.target)
    (λ outcome done. To_node ask place outcome new came receiver.target done)
    (λ refusal it. subst (RefusesDeliver message old) (sym it.refuses)
    (Ask_takes ask place came receiver.target
    (record { node = it.node; here = it.here; running = it.running; refuses = refl })))
    does

pub part_received : (message place : ℕ) (part : Part) (view old new : WorldState)
    (result : Result Outcome Refusal)
    → view ≡ old → IsWorld view → slice_get old.world.sent message ≡ Some (PartMessage part)
    → part.to ≡ place
    → DeedIs (deed.TakePart message) place old result new → DeliverIs message old result new
part_received message place part view old new result same kept came own does =
    let ends = part_ends view message part kept (sent_here view old message _ same came) in
    received message place (deed.TakePart message) old new result
    (has_node place view old same kept (subst (λ n. n < length view.world.nodes) own ends.1))
    (subst (IsFor message old) own (Part_for part came))
    (λ outcome done. Part_to_node part outcome new came (subst (λ n. DoesDeed
    (deed.TakePart message) n old outcome new) (sym own) done))
    (λ refusal it. subst (RefusesDeliver message old) (sym it.refuses)
    (Part_takes part came (subst (λ n. RefusesIt (deed.TakePart message) n old NoMemory) (sym own)
    (record { node = it.node; here = it.here; running = it.running; refuses = refl }))))
    does

pub got_received : (message : ℕ) (got : Ticket) (view old new : WorldState)
    (result : Result Outcome Refusal)
    → view ≡ old → IsWorld view → slice_get old.world.sent message ≡ Some (GotMessage got)
    → DeedIs (deed.TakeGot got) got.from old result new → DeliverIs message old result new
got_received message got view old new result same kept came does =
    let ends : (got.from < length view.world.nodes) × (got.to < length view.world.nodes) =
    call_at (length view.world.nodes) (length view.world.callers) view.world.sent message
    (GotMessage got) kept.calls
    (sent_here view old message _ same came) in
    received message got.from (deed.TakeGot got) old new result
    (has_node got.from view old same kept ends.0)
    (Got_for got came) (λ outcome done. Got_to_node got outcome new came done)
    (λ refusal it. absurd it.refuses) does

pub back_received : (message : ℕ) (declined : Ticket) (view old new : WorldState)
    (result : Result Outcome Refusal)
    → view ≡ old → IsWorld view → slice_get old.world.sent message ≡ Some (DeclinedMessage declined)
    → DeedIs (deed.TakeBack declined) declined.from old result new
    → DeliverIs message old result new
back_received message declined view old new result same kept came does =
    let ends : (declined.from < length view.world.nodes) × (declined.to < length view.world.nodes) =
    call_at (length view.world.nodes) (length view.world.callers) view.world.sent message
    (DeclinedMessage declined) kept.calls
    (sent_here view old message _ same came) in
    received message declined.from (deed.TakeBack declined) old new result
    (has_node declined.from view old same kept ends.0) (Declined_for declined came)
    (λ outcome done. Declined_to_node declined outcome new came done)
    (λ refusal it. subst (RefusesDeliver message old) (sym it.refuses.told)
    (Declined_takes declined came
    (record {
      node = it.node;
      here = it.here;
      running = it.running;
      refuses = record { fault = it.refuses.fault; is = it.refuses.is; told = refl };
    })))
    does
