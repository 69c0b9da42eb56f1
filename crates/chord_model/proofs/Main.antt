-- Every reachable world has the invariant.
use Rattle.std.proofs.lemmas.Bool.{cond-true, cond-false}
use Rattle.std.proofs.Common.{◌≡◌, ℕ, zero, suc, ◌≤◌, ⊎_elim, refl, sym, subst, List, [], ◌∷◌, ◌++◌, Option, Some, lt_of_le_of_lt, cond, eqb, None, ◌∙◌}
use Rattle.std.proofs.lemmas.Option.{none-some, same_Some}
use Rattle.chord_model.proofs.NodeSteps as steps
use Rattle.chord_caller.specs.Caller.{Caller, Submission, submission_at}
use Rattle.chord_handover.specs.Handover.{Handover, part_at, ticket_of_part, outbox_without, handover_of}
use Rattle.chord_ident.specs.declared.span.Span.{Span}
use Rattle.chord_map.proofs.Lists.{Has, has_contained, has_pushed, by_test}
use Rattle.chord_model.proofs.CallerLemmas.{AllGrown, all_grown_itself, all_grown_pushed}
use Rattle.chord_model.proofs.CallerSteps.{calls_keep}
use Rattle.chord_model.proofs.Execution.{executes}
use Rattle.chord_model.proofs.Growth.{message_grown, ordered_grown, good_of_grown}
use Rattle.chord_model.proofs.Invariant.{CallerGood, SegmentGood, NodeGood, Current, Good, HolderFacts, MessageGood}
use Rattle.chord_model.proofs.NodeLemmas.{without_has, item_found, node_pushed, last_pushed, not_empty}
use Rattle.chord_model.specs.declared.message.Message.{Message}
use Rattle.chord_model.specs.declared.message.Message.TheVariants.{Ask as AskMessage, Full as FullMessage, Part as PartMessage, Got as GotMessage, Declined as DeclinedMessage}
use Rattle.chord_model.specs.declared.phase.Phase.{Phase}
use Rattle.chord_links.specs.NodeLinks.{NodeLinks}
use Rattle.chord_model.specs.Node.{Node, newborn, founder, NodeStep}
use Rattle.chord_model.specs.World.{World, WorldStep, Reached, empty_world, node_at, put_node, with_one, WasSent}
use Rattle.chord_model.specs.World.Run.{Stays, Goes_on}
use Rattle.chord_map.specs.declared.done.Done.{Done}
use Rattle.chord_map.specs.History.{done_at}
use Rattle.chord_segment.specs.Segment.{empty_segment, Segment}
use Rattle.chord_model.proofs.Numbered.{nodes_by}

-- the segment of a part, if it has one
named : (place : ℕ) (segment other : Segment) → cond (eqb place 1) (Some segment) None ≡ Some other → segment ≡ other
named place segment other e =
    by_test (eqb place 1)
    (λ t. same_Some segment other (sym (cond-true (eqb place 1) (Some segment) None t) ∙ e))
    (λ f. absurd (none-some other (sym (cond-false (eqb place 1) (Some segment) None f) ∙ e)))

part_good : (callers : List Caller) (history : List Done) (handover : Handover) (place : ℕ) → SegmentGood callers history handover.segment
    → MessageGood callers history (PartMessage (part_at handover place))
part_good callers history handover place good segment e = subst (SegmentGood callers history) (named place handover.segment segment e) good

-- a node's step
pub acts_keep : (old : World) (good : Good old) (facts : HolderFacts old) (number : ℕ) (node after : Node) (taken sent : Option Message) (call : Option Done)
    → node_at number old.nodes ≡ Some node → WasSent old.sent taken → NodeStep node taken after sent call
    → Good (record old { nodes = put_node after old.nodes; sent = with_one old.sent sent; history = with_one old.history call })
acts_keep old good facts number node after taken sent call here was (NodeStep.Tells_again ask segment kept found past) =
    steps.tells_again old good facts number node here ask segment kept found past
acts_keep old good facts number node after taken sent call here was (NodeStep.Drops_seen ask segment found past) = steps.nothing_sent old good facts number node here
acts_keep old good facts number node after taken sent call here was (NodeStep.Executes ask segment found past) = executes old good facts number node here ask segment (has_contained old.sent (AskMessage ask) was) found past
acts_keep old good facts number node after taken sent call here was (NodeStep.Answers_full ask segment found past adds full) =
    steps.stays_and_sends old good facts number node here (FullMessage ask.caller ask.number) tt
acts_keep old good facts number node after taken sent call here was (NodeStep.Forwards ask hops none fewer) =
    let ask_good = good.messages (AskMessage ask) (has_contained old.sent (AskMessage ask) was) in
    steps.stays_and_sends old good facts number node here (AskMessage (record ask { hops = hops })) (record { submitted = ask_good.submitted; floor = ask_good.floor })
acts_keep old good facts number node after taken sent call here was (NodeStep.Drops ask none) = steps.nothing_sent old good facts number node here
acts_keep old good facts number node after taken sent call here was (NodeStep.Got_again handover to low) = steps.stays_and_sends old good facts number node here (GotMessage (ticket_of_part handover)) tt
acts_keep old good facts number node after taken sent call here was (NodeStep.Declines handover to high phase) = steps.stays_and_sends old good facts number node here (DeclinedMessage (ticket_of_part handover)) tt
acts_keep old good facts number node after taken sent call here was (NodeStep.Buffers part to next phase) =
    steps.same_store old good facts number node here (record node { buffered = node.buffered ++ part ∷ [] }) refl refl refl refl (λ item h. h)
acts_keep old good facts number node after taken sent call here was (NodeStep.Takes part handover to next phase whole) =
    steps.takes old good facts number node here part handover (has_contained old.sent (PartMessage part) was) whole to next phase
acts_keep old good facts number node after taken sent call here was (NodeStep.Waits handover to high phase) = steps.nothing_sent old good facts number node here
acts_keep old good facts number node after taken sent call here was (NodeStep.Frees ticket from) =
    steps.same_store old good facts number node here (record node { outbox = outbox_without ticket.to ticket.number node.outbox }) refl refl refl refl
    (λ item h. without_has ticket.to ticket.number node.outbox item h)
acts_keep old good facts number node after taken sent call here was (NodeStep.Takes_back ticket item from found) =
    steps.takes_back old good facts number node here ticket item (has_contained old.sent (DeclinedMessage ticket) was) from found
acts_keep old good facts number node after taken sent call here was (NodeStep.Keeps ticket from) = steps.nothing_sent old good facts number node here
acts_keep old good facts number node after taken sent call here was (NodeStep.Cuts place segment at got at_in cut) =
    steps.cuts_one old good facts number node here place segment at got at_in cut
acts_keep old good facts number node after taken sent call here was (NodeStep.Joins place first place_behind second got_first got_second apart meet cut) =
    steps.joins_two old good facts number node here place first place_behind second got_first got_second meet cut
acts_keep old good facts number node after taken sent call here was (NodeStep.Gives place segment to got) =
    steps.gives old good facts number node here place segment to got
acts_keep old good facts number node after taken sent call here was (NodeStep.Gives_again to k place item found from below) =
    let there : Has node.outbox item = (item_found to k node.outbox item found).2 in
    steps.stays_and_sends old good facts number node here (PartMessage (part_at (handover_of node.number item) place))
    (part_good old.callers old.history (handover_of node.number item) place ((good.nodes node (nodes_by.has number old.nodes node here)).outbox item there))
acts_keep old good facts number node after taken sent call here was (NodeStep.Links_change links same) =
    steps.same_store old good facts number node here (record node { links = links }) refl refl refl refl (λ item h. h)
acts_keep old good facts number node after taken sent call here was (NodeStep.Leaves phase) =
    steps.same_store old good facts number node here (record node { phase = Phase.Leaving }) refl refl refl refl (λ item h. h)
acts_keep old good facts number node after taken sent call here was (NodeStep.Retires phase nothing empty) =
    steps.same_store old good facts number node here (record node { phase = Phase.Gone; limit = 0; buffered = [] }) refl refl refl refl (λ item h. h)

-- no step of an actor

none_submitted : (place : ℕ) (submission : Submission) → submission_at place [] ≡ Some submission → ⊥
none_submitted zero submission e = none-some submission e
none_submitted (suc place) submission e = none-some submission e

nothing_split : (before : List Done) (done : Done) (behind : List Done) → [] ≡ before ++ done ∷ behind → ⊥
nothing_split [] done behind e = cc
nothing_split (first ∷ before) done behind e = cc

empty_good : (callers : List Caller) (history : List Done) (span : Span) → SegmentGood callers history (empty_segment span)
empty_good callers history span = record { floors = λ mark h. absurd h; kept = λ done h. absurd h; near = λ done h. absurd h }

newborn_good : (callers : List Caller) (history : List Done) (links : NodeLinks) (limit : ℕ) → NodeGood callers history (newborn links limit)
newborn_good callers history links limit =
    record { rising = tt; held = λ segment h. absurd h; outbox = λ item h. absurd h; outbox_rising = λ item h. absurd h }

founder_good : (callers : List Caller) (history : List Done) (links : NodeLinks) (limit : ℕ) → NodeGood callers history (founder links limit)
founder_good callers history links limit = record {
  rising = tt;
  held = λ segment h. ⊎_elim (λ e. subst (SegmentGood callers history) e (empty_good callers history (record { after = links.me.id; upto = links.me.id }))) (λ n. absurd n) h;
  outbox = λ item h. absurd h;
  outbox_rising = λ item h. absurd h;
}

-- while no call is executed, an empty segment without pairs is current
nothing_current : (span : Span) → Current [] (empty_segment span) []
unfolding done_at
nothing_current span = record { content = λ pair inside. refl; covered = λ done stands inside. absurd (none-some done stands) }

creates : (old : World) (good : Good old) (links : NodeLinks) (limit : ℕ) → old.nodes ≡ [] → Good (record old { nodes = founder links limit ∷ [] })
creates old good links limit none =
    let founded : Node = founder links limit in
    let only : (place : ℕ) (node : Node) → node_at place (founded ∷ []) ≡ Some node → founded ≡ node =
    λ place node e. ⊎_elim (λ is. is) (λ n. absurd n) (nodes_by.has place (founded ∷ []) node e) in
    record {
      callers = good.callers;
      messages = good.messages;
      executed = good.executed;
      legal = good.legal;
      in_order = ordered_grown old (record old { nodes = founded ∷ [] }) good refl (all_grown_itself old.callers);
      nodes = λ node h. ⊎_elim (λ e. subst (NodeGood old.callers old.history) e (founder_good old.callers old.history links limit)) (λ n. absurd n) h;
      held = λ place node segment e h.
          subst (λ (n : Node). Has n.held segment → Current old.history segment n.entries) (only place node e)
          (λ k. ⊎_elim (λ is. subst (λ s. Current old.history s []) is
          (subst (λ ds. Current ds (empty_segment (record { after = links.me.id; upto = links.me.id })) []) (sym (good.unbegun none)) (nothing_current (record { after = links.me.id; upto = links.me.id }))))
          (λ n. absurd n) k) h;
      under_way = λ place node item e h late.
          absurd (subst (λ (n : Node). Has n.outbox item) (sym (only place node e)) h);
      unbegun = λ e. absurd (cc);
    }

joins : (old : World) (good : Good old) (links : NodeLinks) (limit : ℕ) → Good (record old { nodes = old.nodes ++ newborn links limit ∷ [] })
joins old good links limit =
    let new_one : Node = newborn links limit in
    record {
      callers = good.callers;
      messages = good.messages;
      executed = good.executed;
      legal = good.legal;
      in_order = ordered_grown old (record old { nodes = old.nodes ++ new_one ∷ [] }) good refl (all_grown_itself old.callers);
      nodes = λ node h. ⊎_elim (λ there. good.nodes node there) (λ e. subst (NodeGood old.callers old.history) e (newborn_good old.callers old.history links limit))
          (has_pushed old.nodes new_one node h);
      held = λ place node segment e h. ⊎_elim (λ there. good.held place node segment there h)
          (λ is. absurd (subst (λ (n : Node). Has n.held segment) (sym is) h))
          (node_pushed place old.nodes new_one node e);
      under_way = λ place node item e h late. ⊎_elim
          (λ there. good.under_way place node item there h (lt_of_le_of_lt (last_pushed old.nodes new_one item.to place) late))
          (λ is. absurd (subst (λ (n : Node). Has n.outbox item) (sym is) h))
          (node_pushed place old.nodes new_one node e);
      unbegun = λ e. absurd (not_empty old.nodes new_one e);
    }

blank_good : (history : List Done) (number window : ℕ) → window ≤ 16 → CallerGood history (record { number = number; window = window; submitted = []; mine = []; told = []; given_up = [] })
blank_good history number window high = record {
  own = λ done h. absurd h;
  once = tt;
  mine_stand = λ done h. absurd h;
  told_stand = λ done h. absurd h;
  seen = λ place submission e. absurd (none_submitted place submission e);
  apart = λ place e. absurd (cc);
  window = high;
  near = λ place submission e. absurd (none_submitted place submission e);
}

opens : (old : World) (good : Good old) (number window : ℕ) → window ≤ 16
    → Good (record old { callers = old.callers ++ record { number = number; window = window; submitted = []; mine = []; told = []; given_up = [] } ∷ [] })
opens old good number window high =
    let blank : Caller = record { number = number; window = window; submitted = []; mine = []; told = []; given_up = [] } in
    let all = all_grown_pushed old.callers blank in
    good_of_grown old good (old.callers ++ blank ∷ []) old.sent all
    (λ caller h. ⊎_elim (λ there. good.callers caller there) (λ e. subst (CallerGood old.history) e (blank_good old.history number window high)) (has_pushed old.callers blank caller h))
    (λ message h. message_grown old.callers (old.callers ++ blank ∷ []) old.history old.history all (λ done stands. stands) message (good.messages message h))

-- each step keeps the invariant
pub keeps : (old new : World) → Good old → HolderFacts old → WorldStep old new → Good new
keeps old new good facts (WorldStep.Creates links limit id_in none) = creates old good links limit none
keeps old new good facts (WorldStep.Joins links limit id_in some is_new) = joins old good links limit
keeps old new good facts (WorldStep.Opens number window low high is_new) = opens old good number window high
keeps old new good facts (WorldStep.Calls number caller after taken sent here was step) = calls_keep old good number caller after taken sent here was step
keeps old new good facts (WorldStep.Acts number node after taken sent call here was step) = acts_keep old good facts number node after taken sent call here was step

pub empty_is_good : Good empty_world
unfolding done_at node_at
empty_is_good = record {
  callers = λ caller h. absurd h;
  messages = λ message h. absurd h;
  executed = λ done stands. absurd (none-some done stands);
  legal = record { replies = tt; once = tt };
  in_order = λ caller number submission before behind done here is split c n. absurd (nothing_split before done behind split);
  nodes = λ node h. absurd h;
  held = λ number node segment e h. absurd (none-some node e);
  under_way = λ number node item e h late. absurd (none-some node e);
  unbegun = λ e. refl;
}

-- every reachable world has the invariant, if none holds an identifier twice
pub reached_good : ((world : World) → Reached world → HolderFacts world) → (world : World) → Reached world → Good world
reached_good facts world Stays = empty_is_good
reached_good facts world (Goes_on {middle = middle} run step) = keeps middle world (reached_good facts middle run) (facts middle run) step
