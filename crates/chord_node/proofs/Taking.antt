-- Messages of handovers: a node's answers as its steps.
use Rattle.std.proofs.Common.{◌≡◌, ◌≢◌, ℕ, ◌+◌, ◌≤◌, inr, ⊎_elim, Bool, true, false, cond, Option, None, Some, Result, Ok, Err, List, [], ◌∷◌, ◌++◌, length, take, refl, sym, ◌∙◌, ap, subst, arith}
use Rattle.std.proofs.lemmas.List.{take_all}
use Rattle.std.proofs.lemmas.Option.{same_Some}
use Rattle.std.specs.declared.alloc.AllocError.{AllocError}
use Rattle.chord_handover.proofs.OutboxLemmas.{item_at_is}
use Rattle.chord_handover.specs.declared.ticket.Ticket.{Ticket}
use Rattle.chord_handover.specs.declared.gather.Gather.TheVariants.{Whole}
use Rattle.chord_handover.specs.Gather.{GatherIs}
use Rattle.chord_handover.specs.Handover.{Item, Part, item_at, outbox_without, ticket_of_part}
use Rattle.chord_handover.specs.Outbox.{payload_of}
use Rattle.chord_handover.specs.Payload.{Payload, IsPayload, handover_of_payload}
use Rattle.chord_handover.specs.Taken.{Taken, with_mark, is_buffered}
use Rattle.chord_map.specs.declared.pair.Pair.{Pair}
use Rattle.chord_map.specs.Map.{put_all}
use Rattle.chord_model.proofs.Stocking.{vacant, payload_inside, all_inside}
use Rattle.chord_node.specs.declared.handovers.part_answer.PartAnswer.{PartAnswer}
use Rattle.chord_node.specs.declared.handovers.part_answer.PartAnswer.TheVariants as given
use Rattle.chord_node.specs.declared.handovers.part_answer.Back.{Back}
use Rattle.chord_node.specs.declared.handovers.part_answer.Back.TheVariants as back
use Rattle.chord_model.specs.declared.message.Message.TheVariants.{Part as PartMessage, Declined as DeclinedMessage}
use Rattle.chord_model.specs.Node.{Node, NodeStep}
use Rattle.chord_model.specs.Node.NodeStep.{Got_again, Declines, Buffers, Takes, Waits, Takes_back, Keeps}
use Rattle.chord_model.specs.Stock.{IsClear, IsStocked}
use Rattle.chord_node.specs.Received.{BackIs, BackSteps, NextIs, WholeIs, PartIs, PartSteps, sent_for}
use Rattle.chord_model.specs.declared.phase.Phase.TheVariants.{Gone}
use Rattle.chord_segment.specs.declared.mark.Mark.{Mark}
use Rattle.chord_segment.specs.Marks.{mark_of, raise}
use Rattle.chord_segment.specs.Segment.{Segment}
use Rattle.chord_store.proofs.Puts.{undo}
use Rattle.chord_store.specs.Inside.{pairs_outside}

-- the pairs put in are taken out again
pub undone : (held : List Segment) (payload : Payload) (pairs pairs' : List Pair) → IsPayload payload → IsClear payload.segment.span held → IsStocked held pairs
    → pairs' ≡ put_all payload.pairs pairs → pairs_outside payload.segment.span pairs' ≡ pairs
undone held payload pairs pairs' rules clear stock put =
    let span = payload.segment.span in
    let all : put_all payload.pairs pairs ≡ put_all (take (length payload.pairs) payload.pairs) pairs =
    ap (λ (ps : List Pair). put_all ps pairs) (sym (take_all (length payload.pairs) payload.pairs (omega arith))) in
    ap (pairs_outside span) (put ∙ all)
    ∙ undo span payload.pairs pairs (length payload.pairs) (vacant span held pairs clear stock) (all_inside span payload.pairs (payload_inside payload rules))

-- ---- what was declined

pub back_steps : (ticket : Ticket) (old : Node) (result : Result Back AllocError) (new : Node) → ticket.from ≡ old.number → BackIs ticket old result new → BackSteps ticket old result new
back_steps ticket old (Ok back.Unknown) new from h = subst (λ (node : Node). NodeStep old (Some (DeclinedMessage ticket)) node None None) (sym h.1) (Keeps ticket from)
back_steps ticket old (Ok back.Held) new from h = subst (λ (node : Node). NodeStep old (Some (DeclinedMessage ticket)) node None None) (sym h.4) (Takes_back ticket h.0 from h.1)
back_steps ticket old (Ok back.Clash) new from h = subst (λ (node : Node). NodeStep old (Some (DeclinedMessage ticket)) node None None) (sym h.3) (Keeps ticket from)
back_steps ticket old (Ok back.Full) new from h = subst (λ (node : Node). NodeStep old (Some (DeclinedMessage ticket)) node None None) (sym h.4) (Keeps ticket from)
back_steps ticket old (Err fault) new from h = tt

-- ---- a part

-- nothing changes and nothing is sent
waits : (part : Part) (old new : Node) → part.to ≡ old.number → part.number ≡ mark_of part.from old.taken + 1 → old.phase ≢ Gone → new ≡ old
    → NodeStep old (Some (PartMessage part)) new None None
waits part old new to next there same =
    subst (λ (node : Node). NodeStep old (Some (PartMessage part)) node None None) (sym same) (Waits part to (omega arith) there)

notes : (part : Part) (old : Node) → part.to ≡ old.number → part.number ≡ mark_of part.from old.taken + 1 → old.phase ≢ Gone
    → (b : Bool) → NodeStep old (Some (PartMessage part)) (record old { buffered = (cond {A = Taken} b (record { last = old.taken; buffered = old.buffered }) (record { last = old.taken; buffered = old.buffered ++ part ∷ [] })).buffered }) None None
notes part old to next there true = Waits part to (omega arith) there
notes part old to next there false = Buffers part to next there

pub part_steps : (part : Part) (old : Node) (result : Result PartAnswer AllocError) (new : Node) → part.to ≡ old.number → PartIs part old result new → PartSteps part old result new
part_steps part old (Ok given.Got) new to h =
    ⊎_elim
    (λ again. subst (λ (node : Node). NodeStep old (Some (PartMessage part)) node (sent_for part given.Got) None) (sym again.1) (Got_again part to again.0))
    (λ (payload, whole, clear, room, is). subst (λ (node : Node). NodeStep old (Some (PartMessage part)) node (sent_for part given.Got) None) (sym is)
    (Takes part (handover_of_payload (ticket_of_part part) payload) to whole.0.0 whole.0.1 whole.1))
    h
part_steps part old (Ok given.Declined) new to h =
    subst (λ (node : Node). NodeStep old (Some (PartMessage part)) node (sent_for part given.Declined) None) (sym h.2) (Declines part to h.0 h.1)
part_steps part old (Ok given.Early) new to h =
    subst (λ (node : Node). NodeStep old (Some (PartMessage part)) node None None) (sym h.2) (Waits part to (let early = h.0 in omega arith) h.1)
part_steps part old (Ok given.Clash) new to h = waits part old new to h.0.0 h.0.1 h.2
part_steps part old (Ok given.Full) new to h = waits part old new to h.1.0.0 h.1.0.1 h.4
part_steps part old (Ok given.Part) new to h =
    subst (λ (node : Node). NodeStep old (Some (PartMessage part)) node None None) (sym h.2) (notes part old to h.0.0 h.0.1 (is_buffered part old.buffered))
part_steps part old (Err fault) new to h = tt

-- ---- over the view of the fields, which is the old value

buffered_last : (part : Part) (taken : Taken) (b : Bool)
    → cond b taken (record taken { buffered = taken.buffered ++ part ∷ [] }) ≡ record { last = taken.last; buffered = (cond b taken (record taken { buffered = taken.buffered ++ part ∷ [] })).buffered }
buffered_last part taken true = refl
buffered_last part taken false = refl

same_fields : (view : Node) (held held' : List Segment) (pairs pairs' : List Pair) (limit : ℕ) (taken taken' : Taken) → held ≡ held' → pairs ≡ pairs' → limit ≡ view.limit → taken ≡ taken'
    → ◌≡◌ {A = Node} (record view { held = held; entries = pairs; limit = limit; taken = taken.last; buffered = taken.buffered })
    (record view { held = held'; entries = pairs'; taken = taken'.last; buffered = taken'.buffered })
same_fields view held held' pairs pairs' limit taken taken' e f g h = rw (e, f, g, h) refl

-- what the node took and buffered
abbrev pub taken_of : Node → Taken
taken_of node = record { last = node.taken; buffered = node.buffered }

abbrev pub next_node : Node → List Segment → List Pair → ℕ → Taken → Node
next_node view held pairs limit taken = record view { held = held; entries = pairs; limit = limit; taken = taken.last; buffered = taken.buffered }

next_is : (part : Part) (view : Node) (result : Result PartAnswer AllocError) (held : List Segment) (pairs : List Pair) (limit : ℕ) (taken : Taken)
    → part.number ≡ mark_of part.from view.taken + 1 → view.phase ≢ Gone → limit ≡ view.limit
    → NextIs part view.held view.entries view.limit (taken_of view) result held pairs taken → PartIs part view result (next_node view held pairs limit taken)
next_is part view (Ok given.Got) held pairs limit taken next there same (payload, gather, whole) =
    let number : with_mark part.from (taken_of view) ≡ record { last = raise part.from part.number view.taken; buffered = (with_mark part.from (taken_of view)).buffered } =
    ap (λ (n : ℕ). record { last = raise part.from n view.taken; buffered = (with_mark part.from (taken_of view)).buffered }) (sym next) in
    inr (payload, ((next, there), gather), whole.0, whole.1, same_fields view held _ pairs _ limit taken _ whole.2 whole.3 same (whole.4 ∙ number))
next_is part view (Ok given.Declined) held pairs limit taken next there same h = absurd h.2
next_is part view (Ok given.Early) held pairs limit taken next there same h = absurd h.2
next_is part view (Ok given.Clash) held pairs limit taken next there same (clash, held_is, pairs_is, taken_is) =
    ((next, there), clash, same_fields view held _ pairs _ limit taken (taken_of view) held_is pairs_is same taken_is)
next_is part view (Ok given.Full) held pairs limit taken next there same (payload, gather, whole) =
    (payload, ((next, there), gather), whole.0, whole.1, same_fields view held _ pairs _ limit taken (taken_of view) whole.2 whole.3 same whole.4)
next_is part view (Ok given.Part) held pairs limit taken next there same (gather, held_is, pairs_is, taken_is) =
    ((next, there), gather, same_fields view held _ pairs _ limit taken _ held_is pairs_is same (taken_is ∙ buffered_last part (taken_of view) (is_buffered part view.buffered)))
next_is part view (Err fault) held pairs limit taken next there same (takes, held_is, pairs_is, taken_is) =
    ((next, there), takes, same_fields view held _ pairs _ limit taken (taken_of view) held_is pairs_is same taken_is)

pub part_is : (part : Part) (view old : Node) → view ≡ old → (result : Result PartAnswer AllocError) (held : List Segment) (pairs : List Pair) (limit : ℕ) (taken : Taken)
    → part.number ≡ mark_of part.from view.taken + 1 → view.phase ≢ Gone → limit ≡ view.limit
    → NextIs part view.held view.entries view.limit (taken_of view) result held pairs taken → PartIs part old result (next_node view held pairs limit taken)
part_is part view old e result held pairs limit taken next there same h =
    subst (λ (node : Node). PartIs part node result (next_node view held pairs limit taken)) e (next_is part view result held pairs limit taken next there same h)

-- a payload that was taken, or was not
pub taken_next : (part : Part) (payload : Payload) (held : List Segment) (pairs : List Pair) (limit : ℕ) (taken : Taken) (result : Result PartAnswer AllocError)
    (held' : List Segment) (pairs' : List Pair) (taken' : Taken) → IsPayload payload → GatherIs part taken.buffered (Whole payload)
    → WholeIs part payload held pairs limit taken result held' pairs' taken' → NextIs part held pairs limit taken result held' pairs' taken'
taken_next part payload held pairs limit taken (Ok given.Got) held' pairs' taken' rules whole h = (payload, whole, h)
taken_next part payload held pairs limit taken (Ok given.Full) held' pairs' taken' rules whole h = (payload, whole, h)
taken_next part payload held pairs limit taken (Ok given.Clash) held' pairs' taken' rules whole h = (inr (payload, whole, h.0), h.1, h.2, h.3)
taken_next part payload held pairs limit taken (Ok given.Declined) held' pairs' taken' rules whole h = absurd h
taken_next part payload held pairs limit taken (Ok given.Early) held' pairs' taken' rules whole h = absurd h
taken_next part payload held pairs limit taken (Ok given.Part) held' pairs' taken' rules whole h = absurd h
taken_next part payload held pairs limit taken (Err fault) held' pairs' taken' rules whole h = (inr (payload, rules, whole), h.0, h.1, h.2)

-- ---- the item that is taken back

-- the item whose payload was found
pub payload_from : (o : Option Item) (payload : Payload) → Some payload ≡ payload_of o
    → (item : Item) × (o ≡ Some item) × (item.segment ≡ payload.segment) × (item.pairs ≡ payload.pairs)
payload_from None payload e = cc
payload_from (Some item) payload e =
    let same : payload ≡ record { segment = item.segment; pairs = item.pairs } = cc in
    (item, refl, ap (λ (p : Payload). p.segment) (sym same), ap (λ (p : Payload). p.pairs) (sym same))

pub none_from : (o : Option Item) → None ≡ payload_of o → o ≡ None
none_from None e = refl
none_from (Some item) e = cc

pub same_payload : (o : Option Item) (a b : Payload) → Some a ≡ payload_of o → Some b ≡ payload_of o → a ≡ b
same_payload o a b e f = same_Some a b (e ∙ sym f)

-- an empty outbox has no item
pub none_under_way : {G : Type 0} → (to number : ℕ) (items : List Item) (payload : Payload) → Some payload ≡ payload_of (item_at to number items) → items ≡ [] → G
unfolding item_at
none_under_way to number [] payload e none = cc
none_under_way to number (item ∷ items) payload e none = cc

same_back : (view : Node) (h h' : List Segment) (e e' : List Pair) (l : ℕ) (g : List Mark) (o o' : List Item) → h ≡ h' → e ≡ e' → l ≡ view.limit → g ≡ view.given → o ≡ o'
    → ◌≡◌ {A = Node} (record view { held = h; entries = e; limit = l; given = g; outbox = o }) (record view { held = h'; entries = e'; outbox = o' })
same_back view h h' e e' l g o o' p q r s t = rw (p, q, r, s, t) refl

-- the item is held again
back_view : (ticket : Ticket) (view : Node) (item : Item) (segment : Segment) (pairs : List Pair) → item_at ticket.to ticket.number view.outbox ≡ Some item → item.segment ≡ segment → item.pairs ≡ pairs
    → IsClear segment.span view.held → length view.entries + length pairs ≤ view.limit
    → (held : List Segment) (entries : List Pair) (limit : ℕ) (given : List Mark) (outbox : List Item)
    → held ≡ view.held ++ segment ∷ [] → entries ≡ put_all pairs view.entries → limit ≡ view.limit → given ≡ view.given → outbox ≡ outbox_without ticket.to ticket.number view.outbox
    → BackIs ticket view (Ok back.Held) (record view { held = held; entries = entries; limit = limit; given = given; outbox = outbox })
back_view ticket view item segment pairs found e f clear room held entries limit given outbox p q r s t =
    let name = item_at_is ticket.to ticket.number view.outbox item found in
    let left = t ∙ ap (λ n. outbox_without n ticket.number view.outbox) (sym name.0) ∙ ap (λ n. outbox_without item.to n view.outbox) (sym name.1) in (
      item,
      found,
      subst (λ (k : Segment). IsClear k.span view.held) (sym e) clear,
      subst (λ (ps : List Pair). length view.entries + length ps ≤ view.limit) (sym f) room,
      same_back view held _ entries _ limit given outbox _ (p ∙ ap (λ (k : Segment). view.held ++ k ∷ []) (sym e)) (q ∙ ap (λ (ps : List Pair). put_all ps view.entries) (sym f)) r s left,
    )

pub back_at : (ticket : Ticket) (view old : Node) → view ≡ old → (item : Item) (segment : Segment) (pairs : List Pair) → item_at ticket.to ticket.number view.outbox ≡ Some item → item.segment ≡ segment → item.pairs ≡ pairs
    → IsClear segment.span view.held → length view.entries + length pairs ≤ view.limit
    → (held : List Segment) (entries : List Pair) (limit : ℕ) (given : List Mark) (outbox : List Item)
    → held ≡ view.held ++ segment ∷ [] → entries ≡ put_all pairs view.entries → limit ≡ view.limit → given ≡ view.given → outbox ≡ outbox_without ticket.to ticket.number view.outbox
    → BackIs ticket old (Ok back.Held) (record view { held = held; entries = entries; limit = limit; given = given; outbox = outbox })
back_at ticket view old same item segment pairs found e f clear room held entries limit given outbox p q r s t =
    subst (λ (node : Node). BackIs ticket node (Ok back.Held) (record view { held = held; entries = entries; limit = limit; given = given; outbox = outbox })) same
    (back_view ticket view item segment pairs found e f clear room held entries limit given outbox p q r s t)
