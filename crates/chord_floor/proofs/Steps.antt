-- Every step keeps what was sent of handovers beside the outboxes.
use Rattle.std.proofs.Common.{◌≡◌, ℕ, zero, suc, ◌+◌, ◌<◌, ◌≤◌, false, cond, eqb, inl, inr, ⊎_elim, refl, sym, ◌∙◌, ap, subst, arith, List, [], ◌∷◌, ◌++◌, Option, Some, None, le_trans, slice_set}
use Rattle.std.proofs.lemmas.Bool.{cond-true, cond-false, cases_eq, cases_lt, true≢false}
use Rattle.std.proofs.lemmas.Option.{same_Some, none-some}
use Rattle.chord_caller.specs.Caller.{Caller, CallerStep, Letter, Submission, submission_at, floor_of, is_settled}
use Rattle.chord_floor.proofs.Carried.{IsGone, MessageOk, NodeOk, Carried, Change, has_one, ok_longer, item_left, carried_put, carried_pushed, TakenFrom, taken_from}
use Rattle.chord_handover.proofs.OutboxLemmas.{is_item_from, item_at_push_same, item_at-without_other}
use Rattle.chord_handover.specs.Handover.{Part, part_at, ticket_of, ticket_of_part, Item, item_at, outbox_without, handover_of}
use Rattle.chord_map.proofs.Lists.{Has, by_test, by_option, has_contained, has_filter, has_got, has_inserted, has_pushed, has_removed, has_set}
use Rattle.chord_map.specs.declared.done.Done.{Done}
use Rattle.chord_model.proofs.CallerLemmas.{floor_settled, floor_within}
use Rattle.chord_model.proofs.NodeLemmas.{append_cases, item_found, last_at, segment_found, without_has}
use Rattle.chord_model.proofs.Numbered.{nodes_by}
use Rattle.chord_model.specs.declared.message.Message.{Message}
use Rattle.chord_model.specs.declared.message.Message.TheVariants.{Ask as AskMessage, Part as PartMessage, Got as GotMessage, Declined as DeclinedMessage}
use Rattle.chord_model.specs.declared.phase.Phase.TheVariants.{Staying, Gone}
use Rattle.chord_model.specs.Letters.{letter_sent}
use Rattle.chord_model.specs.Node.{Node, NodeStep, founder, newborn, with_taken, item_of, without_segment}
use Rattle.chord_model.specs.Node.NodeStep.{Tells_again, Drops_seen, Executes, Answers_full, Forwards, Drops, Got_again, Declines, Buffers, Takes, Waits, Frees, Takes_back, Keeps, Cuts, Joins, Gives, Gives_again, Links_change, Leaves, Retires}
use Rattle.chord_model.specs.Stock.{IsOnCircle}
use Rattle.chord_model.specs.World.{World, WorldStep, Reached, node_at, put_node, with_one, last_taken, WasSent}
use Rattle.chord_model.specs.World.Run.{Stays, Goes_on}
use Rattle.chord_segment.proofs.SegmentLemmas.{mark_grows, mark_raised}
use Rattle.chord_segment.specs.Marks.{mark_of, raise}
use Rattle.chord_segment.specs.Segment.{Segment, id_of, append, part_before, part_behind, joined_segment}

-- what a step of a node does not undo

module _ (nodes : List Node) (sent : List Message) (carried : Carried nodes sent) (node : Node) (here : node_at node.number nodes ≡ Some node) where
  -- an item that leaves the outbox is not that of a part which may still be taken
  freed_kept : (gone_to gone_number to number : ℕ) (item : Item) → item_at to number node.outbox ≡ Some item → (to ≡ gone_to → number ≡ gone_number → ⊥)
      → item_at to number (outbox_without gone_to gone_number node.outbox) ≡ Some item
  freed_kept gone_to gone_number to number item found apart =
      item_at-without_other to number gone_to gone_number node.outbox
      (⊎_elim (λ same. inr (λ e. apart same e)) (λ other. inl other) (cases_eq to gone_to))
      ∙ found

  pub change_of : (taken : Option Message) (after : Node) (out : Option Message) (did : Option Done) → WasSent sent taken → NodeStep node taken after out did → Change nodes node after
  change_of taken after out did was (Takes part handover to next stays whole) = record {
    number = refl;
    grows = λ from. mark_grows from handover.from handover.number node.taken;
    gone = λ e. absurd (stays e);
    kept = λ to number item found late goes. found;
  }
  change_of taken after out did was (Frees ticket from) = record {
    number = refl;
    grows = λ from. omega arith;
    gone = λ e. (e, refl);
    kept = λ to number item found late goes. freed_kept ticket.to ticket.number to number item found
        (λ same same_number.
        let got : ticket.number ≤ last_taken nodes ticket.to ticket.from = carried.messages (GotMessage ticket) (has_contained sent (GotMessage ticket) was) in
        let e : last_taken nodes ticket.to ticket.from ≡ last_taken nodes to node.number = ap (last_taken nodes ticket.to) from ∙ ap (λ n. last_taken nodes n node.number) (sym same) in
        omega arith);
  }
  change_of taken after out did was (Takes_back ticket item from found_back) = record {
    number = refl;
    grows = λ from. omega arith;
    gone = λ e. (e, refl);
    kept = λ to number other found late goes.
        let is = item_found ticket.to ticket.number node.outbox item found_back in
        freed_kept item.to item.number to number other found
        (λ same same_number.
        let declined = carried.messages (DeclinedMessage ticket) (has_contained sent (DeclinedMessage ticket) was) in
        goes (subst (IsGone nodes) (sym (same ∙ is.0)) declined.0));
  }
  change_of taken after out did was (Gives place segment to got) = record {
    number = refl;
    grows = λ from. omega arith;
    gone = λ e. (e, refl);
    kept = λ other number item found late goes. item_left other number node.outbox (item_of segment to node ∷ []) item found;
  }
  change_of taken after out did was (Leaves phase) = record {
    number = refl;
    grows = λ from. omega arith;
    gone = λ e. let no : Staying ≡ Gone = sym phase ∙ e in absurd (cc);
    kept = λ to number item found late goes. found;
  }
  change_of taken after out did was (Retires phase held outbox) = record {
    number = refl;
    grows = λ from. omega arith;
    gone = λ e. (refl, refl);
    kept = λ to number item found late goes. found;
  }
  change_of taken after out did was step = record {
    number = refl;
    grows = λ from. omega arith;
    gone = λ e. (e, refl);
    kept = λ to number item found late goes. found;
  }

-- the node after a step

abbrev On : Segment → Type 0
On segment = IsOnCircle segment.span

appended_on : (done : Done) (floor : ℕ) (segment : Segment) → On segment → On (append done floor segment)
unfolding append
appended_on done floor segment on = on

joined_on : (first second : Segment) → On first → On second → On (joined_segment first second)
unfolding joined_segment
joined_on first second one other = (one.0, other.1)

module _ (nodes : List Node) (sent : List Message) (carried : Carried nodes sent) (node : Node) (here : node_at node.number nodes ≡ Some node) (ok : NodeOk sent node) where
  ok_after : (taken : Option Message) (after : Node) (out : Option Message) (did : Option Done) → WasSent sent taken → NodeStep node taken after out did → NodeOk sent after
  ok_after taken after out did was (Executes ask segment found past) = record {
    held_on = λ other h. ⊎_elim
        (λ e. subst On e (appended_on _ ask.floor segment (ok.held_on segment (segment_found (id_of ask.request) node.held segment found).1)))
        (λ r. ok.held_on other (has_got node.held r.1 other r.3))
        (append_cases (id_of ask.request) _ ask.floor node.held segment other found h);
    items_on = ok.items_on;
    given = ok.given;
    buffered = ok.buffered;
  }
  ok_after taken after out did was (Buffers part to next stays) = record {
    held_on = ok.held_on;
    items_on = ok.items_on;
    given = ok.given;
    buffered = λ other h. ⊎_elim (λ there. ok.buffered other there) (λ e. subst (λ (p : Part). Has sent (PartMessage p)) e (has_contained sent (PartMessage part) was))
        (has_pushed node.buffered part other h);
  }
  ok_after taken after out did was (Takes part handover to next stays whole) =
      let at : node_at handover.to nodes ≡ Some node = ap (λ n. node_at n nodes) to ∙ here in
      let from : TakenFrom nodes handover = taken_from nodes sent carried node part handover at (has_contained sent (PartMessage part) was) whole next stays in
      let on : On handover.segment = subst On from.same ((carried.all handover.from from.sender from.is_sender).items_on from.item from.has_item) in
      record {
        held_on = λ other h. ⊎_elim (λ there. ok.held_on other there) (λ e. subst On e on) (has_pushed node.held handover.segment other h);
        items_on = ok.items_on;
        given = ok.given;
        buffered = λ other h. ok.buffered other (has_filter _ node.buffered other h).0;
      }
  ok_after taken after out did was (Frees ticket from) = record {
    held_on = ok.held_on;
    items_on = λ item h. ok.items_on item (without_has ticket.to ticket.number node.outbox item h);
    given = λ item h. ok.given item (without_has ticket.to ticket.number node.outbox item h);
    buffered = ok.buffered;
  }
  ok_after taken after out did was (Takes_back ticket item from found) =
      let is = item_found ticket.to ticket.number node.outbox item found in
      record {
        held_on = λ other h. ⊎_elim (λ there. ok.held_on other there) (λ e. subst On e (ok.items_on item is.2)) (has_pushed node.held item.segment other h);
        items_on = λ other h. ok.items_on other (without_has item.to item.number node.outbox other h);
        given = λ other h. ok.given other (without_has item.to item.number node.outbox other h);
        buffered = ok.buffered;
      }
  ok_after taken after out did was (Cuts place segment at got at_in cut) =
      let on : On segment = ok.held_on segment (has_got node.held place segment got) in
      record {
        held_on = λ other h. ⊎_elim
            (λ a. ⊎_elim (λ there. ok.held_on other there) (λ e. subst On e (on.0, at_in)) (has_set node.held place (part_before at segment) other a))
            (λ e. subst On e (at_in, on.1))
            (has_inserted (slice_set node.held place (part_before at segment)) (place + 1) (part_behind at segment) other h);
        items_on = ok.items_on;
        given = ok.given;
        buffered = ok.buffered;
      }
  ok_after taken after out did was (Joins place first place_behind second got_first got_second apart meet cut) =
      let on : On (joined_segment first second) =
      joined_on first second (ok.held_on first (has_got node.held place first got_first)) (ok.held_on second (has_got node.held place_behind second got_second)) in
      record {
        held_on = λ other h. ⊎_elim (λ there. ok.held_on other there) (λ e. subst On e on)
            (has_set node.held place (joined_segment first second) other (has_removed (slice_set node.held place (joined_segment first second)) place_behind other h));
        items_on = ok.items_on;
        given = ok.given;
        buffered = ok.buffered;
      }
  ok_after taken after out did was (Gives place segment to got) =
      let on : On segment = ok.held_on segment (has_got node.held place segment got) in
      record {
        held_on = λ other h. ok.held_on other (has_removed node.held place other h);
        items_on = λ item h. ⊎_elim (λ there. ok.items_on item there) (λ e. subst (λ (i : Item). On i.segment) e on) (has_pushed node.outbox (item_of segment to node) item h);
        given = λ item h. ⊎_elim
            (λ there. le_trans (ok.given item there) (mark_grows item.to to (mark_of to node.given + 1) node.given))
            (λ e. subst (λ (i : Item). i.number ≤ mark_of i.to (raise to (mark_of to node.given + 1) node.given)) e (omega (arith, mark_raised to (mark_of to node.given + 1) node.given)))
            (has_pushed node.outbox (item_of segment to node) item h);
        buffered = ok.buffered;
      }
  ok_after taken after out did was (Retires phase held outbox) = record {
    held_on = ok.held_on;
    items_on = ok.items_on;
    given = ok.given;
    buffered = λ part h. absurd h;
  }
  ok_after taken after out did was step = record { held_on = ok.held_on; items_on = ok.items_on; given = ok.given; buffered = ok.buffered }

-- what a step sends

saying : (nodes : List Node) (new : Message) → MessageOk nodes new → (message : Message) → Some new ≡ Some message → MessageOk nodes message
saying nodes new ok message e = subst (MessageOk nodes) (same_Some new message e) ok

silent : (nodes : List Node) (message : Message) → None ≡ Some message → MessageOk nodes message
silent nodes message e = absurd (none-some message e)

-- the segment of a part of an item is the item's
named : (place : ℕ) (segment other : Segment) → cond (eqb place 1) (Some segment) None ≡ Some other → segment ≡ other
named place segment other e =
    by_test (eqb place 1)
    (λ t. same_Some segment other (sym (cond-true (eqb place 1) (Some segment) None t) ∙ e))
    (λ f. absurd (none-some other (sym (cond-false (eqb place 1) (Some segment) None f) ∙ e)))

module _ (nodes : List Node) (sent : List Message) (carried : Carried nodes sent) (node : Node) (here : node_at node.number nodes ≡ Some node) (ok : NodeOk sent node) where
  -- the node is looked up behind its step
  now : (after : Node) → after.number ≡ node.number → (number : ℕ) → number ≡ node.number → node_at number (put_node after nodes) ≡ Some after
  now after same number own =
      ap (λ n. node_at n (put_node after nodes)) (own ∙ sym same)
      ∙ nodes_by.put_same after nodes node (ap (λ n. node_at n nodes) same ∙ here)

  -- the outbox has no item of the number that is given next
  next_is_new : (to : ℕ) → item_at to (mark_of to node.given + 1) node.outbox ≡ None
  next_is_new to =
      by_option (item_at to (mark_of to node.given + 1) node.outbox) (λ none. none)
      (λ item some.
      let is = item_found to (mark_of to node.given + 1) node.outbox item some in
      let low : item.number ≤ mark_of to node.given = subst (λ n. item.number ≤ mark_of n node.given) is.0 (ok.given item is.2) in
      absurd (omega (arith, is.1)))

  says_of : (taken : Option Message) (after : Node) (out : Option Message) (did : Option Done) → WasSent sent taken → NodeStep node taken after out did
      → (message : Message) → out ≡ Some message → MessageOk (put_node after nodes) message
  says_of taken after out did was (Tells_again ask segment done found past) = saying (put_node node nodes) _ tt
  says_of taken after out did was (Drops_seen ask segment found past) = silent (put_node node nodes)
  says_of taken after out did was (Executes ask segment found past) = saying (put_node _ nodes) _ tt
  says_of taken after out did was (Answers_full ask segment found past adds full) = saying (put_node node nodes) _ tt
  says_of taken after out did was (Forwards ask hops none fewer) =
      saying (put_node node nodes) (AskMessage (record ask { hops = hops })) (carried.messages (AskMessage ask) (has_contained sent (AskMessage ask) was))
  says_of taken after out did was (Drops ask none) = silent (put_node node nodes)
  says_of taken after out did was (Got_again part to low) =
      saying (put_node node nodes) (GotMessage (ticket_of_part part)) (omega (arith, last_at (put_node node nodes) part.to part.from node (now node refl part.to to)))
  says_of taken after out did was (Declines part to high phase) =
      saying (put_node node nodes) (DeclinedMessage (ticket_of_part part))
      ((node, now node refl part.to to, phase), omega (arith, last_at (put_node node nodes) part.to part.from node (now node refl part.to to)))
  says_of taken after out did was (Buffers part to next stays) = silent (put_node _ nodes)
  says_of taken after out did was (Takes part handover to next stays whole) =
      saying (put_node _ nodes) (GotMessage (ticket_of handover))
      (omega (
        arith,
        last_at (put_node (with_taken handover node) nodes) handover.to handover.from (with_taken handover node) (now (with_taken handover node) refl handover.to to),
        mark_raised handover.from handover.number node.taken,
      ))
  says_of taken after out did was (Waits part to high stays) = silent (put_node node nodes)
  says_of taken after out did was (Frees ticket from) = silent (put_node _ nodes)
  says_of taken after out did was (Takes_back ticket item from found) = silent (put_node _ nodes)
  says_of taken after out did was (Keeps ticket from) = silent (put_node node nodes)
  says_of taken after out did was (Cuts place segment at got at_in cut) = silent (put_node _ nodes)
  says_of taken after out did was (Joins place first place_behind second got_first got_second apart meet cut) = silent (put_node _ nodes)
  says_of taken after out did was (Gives place segment to got) =
      let item : Item = item_of segment to node in
      saying (put_node (without_segment place segment to node) nodes) (PartMessage (part_at (handover_of node.number item) 1))
      (λ late stays. record {
        sender = without_segment place segment to node;
        item = item;
        is_sender = now (without_segment place segment to node) refl node.number refl;
        is_item = item_at_push_same to (mark_of to node.given + 1) node.outbox item (is_item_from to (mark_of to node.given + 1) item refl refl) (next_is_new to);
        same = λ other e. same_Some segment other e;
      })
  says_of taken after out did was (Gives_again to number place item found from below) =
      let is = item_found to number node.outbox item found in
      saying (put_node node nodes) (PartMessage (part_at (handover_of node.number item) place))
      (λ late stays. record {
        sender = node;
        item = item;
        is_sender = now node refl node.number refl;
        is_item = ap (λ n. item_at item.to n node.outbox) is.1 ∙ (ap (λ a. item_at a number node.outbox) is.0 ∙ found);
        same = named place item.segment;
      })
  says_of taken after out did was (Links_change links same) = silent (put_node _ nodes)
  says_of taken after out did was (Leaves phase) = silent (put_node _ nodes)
  says_of taken after out did was (Retires phase held outbox) = silent (put_node _ nodes)

-- a step of a node
acts : (nodes : List Node) (sent : List Message) → Carried nodes sent → (number : ℕ) (node after : Node) (taken out : Option Message) (did : Option Done) → node_at number nodes ≡ Some node
    → WasSent sent taken → NodeStep node taken after out did → Carried (put_node after nodes) (with_one sent out)
acts nodes sent carried number node after taken out did at was step =
    let here : node_at node.number nodes ≡ Some node = ap (λ n. node_at n nodes) (nodes_by.number number nodes node at) ∙ at in
    let ok : NodeOk sent node = carried.all number node at in
    carried_put nodes node after here (change_of nodes sent carried node here taken after out did was step) sent out carried
    (ok_after nodes sent carried node here ok taken after out did was step)
    (says_of nodes sent carried node here ok taken after out did was step)

-- a step of a caller

none_at_zero : (caller : Caller) (submission : Submission) (number : ℕ) → submission_at number caller.submitted ≡ Some submission → 1 ≤ number
none_at_zero caller submission zero e = absurd (none-some submission e)
none_at_zero caller submission (suc number) e = omega arith

-- a pending number is above the floor
floor_below : (caller : Caller) (submission : Submission) (number : ℕ) → submission_at number caller.submitted ≡ Some submission → is_settled caller number ≡ false → floor_of caller < number
floor_below caller submission number is pending =
    ⊎_elim (λ high. high)
    (λ low. absurd (true≢false (sym (floor_settled caller number (none_at_zero caller submission number is) low) ∙ pending)))
    (cases_lt (floor_of caller) number)

asks : (nodes : List Node) (caller after : Caller) (taken out : Option Letter) → CallerStep caller taken after out
    → (message : Message) → letter_sent out ≡ Some message → MessageOk nodes message
asks nodes caller after taken out (CallerStep.Submits request ask bound sends) =
    saying nodes (AskMessage ask) (omega (arith, sends.floor, sends.number, floor_within caller))
asks nodes caller after taken out (CallerStep.Repeats number submission ask is pending sends) =
    saying nodes (AskMessage ask) (omega (arith, sends.floor, sends.number, floor_below caller submission number is pending))
asks nodes caller after taken out (CallerStep.Takes told request fresh) = silent nodes
asks nodes caller after taken out (CallerStep.Gives_up number submission is pending) = silent nodes
asks nodes caller after taken out (CallerStep.Ignores told none) = silent nodes
asks nodes caller after taken out (CallerStep.Hears_full other number) = silent nodes
asks nodes caller after taken out CallerStep.Shows = saying nodes _ tt
asks nodes caller after taken out (CallerStep.Meets note) = silent nodes

-- each step
carried_step : (old new : World) → Carried old.nodes old.sent → WorldStep old new → Carried new.nodes new.sent
carried_step old new carried (WorldStep.Creates links limit id_in none) =
    subst (λ nodes. Carried (nodes ++ founder links limit ∷ []) old.sent) none
    (carried_pushed old.nodes (founder links limit) old.sent carried (record {
      held_on = λ segment h. ⊎_elim (λ e. subst On e (id_in, id_in)) (λ n. absurd n) h;
      items_on = λ item h. absurd h;
      given = λ item h. absurd h;
      buffered = λ part h. absurd h;
    }))
carried_step old new carried (WorldStep.Joins links limit id_in some is_new) =
    carried_pushed old.nodes (newborn links limit) old.sent carried
    (record { held_on = λ segment h. absurd h; items_on = λ item h. absurd h; given = λ item h. absurd h; buffered = λ part h. absurd h })
carried_step old new carried (WorldStep.Opens number window low high is_new) = carried
carried_step old new carried (WorldStep.Calls number caller after taken sent here was step) = record {
  all = λ number node e. ok_longer old.sent (letter_sent sent) node (carried.all number node e);
  messages = λ message h. ⊎_elim (λ there. carried.messages message there) (asks old.nodes caller after taken sent step message) (has_one old.sent (letter_sent sent) message h);
}
carried_step old new carried (WorldStep.Acts number node after taken sent call here was step) =
    acts old.nodes old.sent carried number node after taken sent call here was step

carried_empty : Carried [] []
unfolding node_at
carried_empty = record { all = λ number node e. absurd (none-some node e); messages = λ message h. absurd h }

-- in every reachable world
pub carried_reached : (world : World) → Reached world → Carried world.nodes world.sent
carried_reached world Stays = carried_empty
carried_reached world (Goes_on {middle = middle} run step) = carried_step middle world (carried_reached middle run) step
