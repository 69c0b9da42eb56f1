-- A floor only rises where an identifier is held, and nothing at or below it is executed there.
use Rattle.std.proofs.Common.{◌≡◌, ◌≢◌, ℕ, ◌+◌, ◌^◌, ◌<◌, ◌≤◌, Bool, true, false, ◌⊎◌, inl, inr, ⊎_elim, refl, sym, ◌∙◌, ap, subst, arith, List, [], ◌∷◌, ◌++◌, Option, Some, None, le_trans, lt_of_le_of_lt, slice_set}
use Rattle.std.proofs.lemmas.Option.{same_Some, none-some}
use Rattle.chord_floor.proofs.Carried.{NodeOk, Carried, Change, TakenFrom, taken_from}
use Rattle.chord_floor.proofs.Steps.{change_of}
use Rattle.chord_floor.specs.Floors.{HasFloor}
use Rattle.chord_handover.specs.Handover.{Item}
use Rattle.chord_ident.proofs.Spans.{one_if, in_parts}
use Rattle.chord_ident.specs.declared.id.Id.{Id}
use Rattle.chord_ident.specs.declared.span.Span.{Span}
use Rattle.chord_ident.specs.Circle.{in_span, cuts}
use Rattle.chord_map.proofs.Lists.{Has, Each, contains_has, has_contained, has_got, has_inserted, has_pushed, has_removed, has_set}
use Rattle.chord_map.specs.declared.done.Done.{Done}
use Rattle.chord_model.proofs.NodeLemmas.{append_cases, item_found, last_grows, last_pushed, node_pushed, not_empty, put_node_cases, put_not_empty, segment_found, without_has}
use Rattle.chord_model.proofs.Numbered.{nodes_by}
use Rattle.chord_model.specs.declared.message.Message.{Message}
use Rattle.chord_model.specs.declared.message.Message.TheVariants.{Part as PartMessage, Declined as DeclinedMessage}
use Rattle.chord_model.specs.Headline.Holds.{ByNode, ByHandover}
use Rattle.chord_model.specs.Node.{Node, NodeStep, newborn, item_of}
use Rattle.chord_model.specs.Node.NodeStep.{Executes, Takes, Frees, Takes_back, Cuts, Joins, Gives}
use Rattle.chord_model.specs.Stock.{IsOnCircle}
use Rattle.chord_model.specs.World.{World, WorldStep, node_at, put_node, with_one, last_taken, WasSent}
use Rattle.chord_segment.proofs.Lifting.{lift_all_grows, lift_all_reaches, lift_grows}
use Rattle.chord_segment.proofs.SegmentLemmas.{past_new}
use Rattle.chord_segment.specs.Marks.{mark_of}
use Rattle.chord_segment.specs.Segment.{Segment, id_of, append, span_before, span_behind, span_joined, part_before, part_behind, joined_segment}

-- spans and their parts

whole_of_first : (w a b : Bool) → one_if w ≡ one_if a + one_if b → a ≡ true → w ≡ true
whole_of_first true a b e t = refl
whole_of_first false a b e t = let one : one_if a ≡ 1 = ap one_if t in absurd (omega arith)

whole_of_second : (w a b : Bool) → one_if w ≡ one_if a + one_if b → b ≡ true → w ≡ true
whole_of_second true a b e t = refl
whole_of_second false a b e t = let one : one_if b ≡ 1 = ap one_if t in absurd (omega arith)

one_of_parts : (w a b : Bool) → one_if w ≡ one_if a + one_if b → w ≡ true → (a ≡ true) ⊎ (b ≡ true)
one_of_parts w true b e t = inl refl
one_of_parts w false true e t = inr refl
one_of_parts w false false e t = let one : one_if w ≡ 1 = ap one_if t in absurd (omega arith)

module _ (x : ℕ) (x_in : x < 2 ^ 128) where
  before_within : (span : Span) (at : Id) → IsOnCircle span → at.number < 2 ^ 128 → cuts span at ≡ true → in_span (span_before at span) x ≡ true → in_span span x ≡ true
  before_within span at on at_in cut h =
      whole_of_first (in_span span x) (in_span (span_before at span) x) (in_span (span_behind at span) x)
      (in_parts span.after at span.upto x on.0 at_in on.1 x_in cut) h

  behind_within : (span : Span) (at : Id) → IsOnCircle span → at.number < 2 ^ 128 → cuts span at ≡ true → in_span (span_behind at span) x ≡ true → in_span span x ≡ true
  behind_within span at on at_in cut h =
      whole_of_second (in_span span x) (in_span (span_before at span) x) (in_span (span_behind at span) x)
      (in_parts span.after at span.upto x on.0 at_in on.1 x_in cut) h

  in_joined : (first second : Span) → IsOnCircle first → IsOnCircle second → first.upto ≡ second.after → cuts (span_joined first second) first.upto ≡ true
      → in_span (span_joined first second) x ≡ true → (in_span first x ≡ true) ⊎ (in_span second x ≡ true)
  in_joined first second one other meet cut h =
      one_of_parts (in_span (span_joined first second) x) (in_span first x) (in_span second x)
      (subst (λ a. one_if (in_span (span_joined first second) x) ≡ one_if (in_span first x) + one_if (in_span (record { after = a; upto = second.upto }) x)) meet
      (in_parts first.after first.upto second.upto x one.0 one.1 other.1 x_in cut))
      h

module _ (x : ℕ) (x_in : x < 2 ^ 128) (caller floor : ℕ) where
  -- if the segment contains the identifier, it has at least the floor
  abbrev pub Reaches : Segment → Type 0
  Reaches segment = in_span segment.span x ≡ true → floor ≤ mark_of caller segment.floors

  -- what the holders have
  pub record Floored (nodes : List Node) : Type 0 where
    pub held : (number : ℕ) (node : Node) (segment : Segment) → node_at number nodes ≡ Some node → Has node.held segment → Reaches segment
    pub under_way : (number : ℕ) (node : Node) (item : Item) → node_at number nodes ≡ Some node → Has node.outbox item
        → last_taken nodes item.to number < item.number → Reaches item.segment

  pub floored : (world : World) → HasFloor world x caller floor → Floored world.nodes
  floored world has = record {
    held = λ number node segment at h inside. has segment node.entries (ByNode number node segment at (contains_has node.held segment h)) inside;
    under_way = λ number node item at h late inside. has item.segment item.pairs (ByHandover number node item at (contains_has node.outbox item h) late) inside;
  }

  pub has_floor : (world : World) → Floored world.nodes → HasFloor world x caller floor
  has_floor world low segment pairs (ByNode number node part at h) inside = low.held number node segment at (has_contained node.held segment h) inside
  has_floor world low segment pairs (ByHandover number node item at h late) inside = low.under_way number node item at (has_contained node.outbox item h) late inside

  appended : (done : Done) (raised : ℕ) (segment : Segment) → Reaches segment → Reaches (append done raised segment)
  unfolding append
  appended done raised segment reaches inside = le_trans (reaches inside) (lift_grows caller done.caller raised segment.floors)

  joined : (first second : Segment) → IsOnCircle first.span → IsOnCircle second.span → first.span.upto ≡ second.span.after
      → cuts (span_joined first.span second.span) first.span.upto ≡ true → Reaches first → Reaches second → Reaches (joined_segment first second)
  unfolding joined_segment
  joined first second on on_too meet cut one other inside =
      ⊎_elim
      (λ a. le_trans (one a) (lift_all_grows caller second.floors first.floors))
      (λ b. le_trans (other b) (lift_all_reaches caller second.floors first.floors))
      (in_joined x x_in first.span second.span on on_too meet cut inside)

  module _ (nodes : List Node) (sent : List Message) (carried : Carried nodes sent) (low : Floored nodes) (node : Node) (here : node_at node.number nodes ≡ Some node) where
    ok : NodeOk sent node
    ok = carried.all node.number node here

    before : Each Reaches node.held
    before segment h = low.held node.number node segment here h

    -- what the node holds after its step
    held_after : (taken : Option Message) (after : Node) (out : Option Message) (did : Option Done) → WasSent sent taken → NodeStep node taken after out did → Each Reaches after.held
    held_after taken after out did was (Executes ask segment found past) other h =
        ⊎_elim
        (λ e. subst Reaches e (appended _ ask.floor segment (before segment (segment_found (id_of ask.request) node.held segment found).1)))
        (λ r. before other (has_got node.held r.1 other r.3))
        (append_cases (id_of ask.request) _ ask.floor node.held segment other found h)
    held_after taken after out did was (Takes part handover to next stays whole) other h =
        let at : node_at handover.to nodes ≡ Some node = ap (λ n. node_at n nodes) to ∙ here in
        let from : TakenFrom nodes handover = taken_from nodes sent carried node part handover at (has_contained sent (PartMessage part) was) whole next stays in
        ⊎_elim
        (λ there. before other there)
        (λ e. subst Reaches (from.same ∙ e) (low.under_way handover.from from.sender from.item from.is_sender from.has_item from.late))
        (has_pushed node.held handover.segment other h)
    held_after taken after out did was (Takes_back ticket item from found) other h =
        let is = item_found ticket.to ticket.number node.outbox item found in
        let declined = carried.messages (DeclinedMessage ticket) (has_contained sent (DeclinedMessage ticket) was) in
        let late : last_taken nodes item.to node.number < item.number =
        subst (λ n. last_taken nodes n node.number < item.number) (sym is.0) (subst (λ n. last_taken nodes ticket.to n < item.number) from (omega (arith, declined.1, is.1))) in
        ⊎_elim (λ there. before other there) (λ e. subst Reaches e (low.under_way node.number node item here is.2 late)) (has_pushed node.held item.segment other h)
    held_after taken after out did was (Cuts place segment at got at_in cut) other h =
        let there : Has node.held segment = has_got node.held place segment got in
        let on : IsOnCircle segment.span = ok.held_on segment there in
        ⊎_elim
        (λ a. ⊎_elim (λ old. before other old)
        (λ e. subst Reaches e (λ inside. before segment there (before_within x x_in segment.span at on at_in cut inside)))
        (has_set node.held place (part_before at segment) other a))
        (λ e. subst Reaches e (λ inside. before segment there (behind_within x x_in segment.span at on at_in cut inside)))
        (has_inserted (slice_set node.held place (part_before at segment)) (place + 1) (part_behind at segment) other h)
    held_after taken after out did was (Joins place first place_behind second got_first got_second apart meet cut) other h =
        let one : Has node.held first = has_got node.held place first got_first in
        let two : Has node.held second = has_got node.held place_behind second got_second in
        ⊎_elim (λ there. before other there)
        (λ e. subst Reaches e (joined first second (ok.held_on first one) (ok.held_on second two) meet cut (before first one) (before second two)))
        (has_set node.held place (joined_segment first second) other (has_removed (slice_set node.held place (joined_segment first second)) place_behind other h))
    held_after taken after out did was (Gives place segment to got) other h = before other (has_removed node.held place other h)
    held_after taken after out did was step other h = before other h

    -- and its handovers
    outbox_after : (taken : Option Message) (after : Node) (out : Option Message) (did : Option Done) → NodeStep node taken after out did
        → (item : Item) → Has after.outbox item → last_taken nodes item.to node.number < item.number → Reaches item.segment
    outbox_after taken after out did (Frees ticket from) item h late = low.under_way node.number node item here (without_has ticket.to ticket.number node.outbox item h) late
    outbox_after taken after out did (Takes_back ticket back from found) item h late = low.under_way node.number node item here (without_has back.to back.number node.outbox item h) late
    outbox_after taken after out did (Gives place segment to got) item h late =
        ⊎_elim (λ there. low.under_way node.number node item here there late)
        (λ e. subst (λ (i : Item). Reaches i.segment) e (before segment (has_got node.held place segment got)))
        (has_pushed node.outbox (item_of segment to node) item h)
    outbox_after taken after out did step item h late = low.under_way node.number node item here h late

    -- a call that it executes is above the floor
    above : (taken : Option Message) (after : Node) (out : Option Message) (did : Option Done) → NodeStep node taken after out did
        → (done : Done) → did ≡ Some done → done.caller ≡ caller → id_of done.request ≡ x → floor < done.number
    above taken after out did (Executes ask segment found past) done e of_caller of_x =
        let is = same_Some _ done e in
        let same : ask.caller ≡ caller = ap (λ (d : Done). d.caller) is ∙ of_caller in
        let id : id_of ask.request ≡ x = ap (λ (d : Done). id_of d.request) is ∙ of_x in
        let number : ask.number ≡ done.number = ap (λ (d : Done). d.number) is in
        let place = segment_found (id_of ask.request) node.held segment found in
        let inside : in_span segment.span x ≡ true = subst (λ n. in_span segment.span n ≡ true) id place.0 in
        let new : mark_of caller segment.floors < ask.number = subst (λ n. mark_of n segment.floors < ask.number) same (past_new ask.caller ask.number segment past).0 in
        omega (arith, before segment place.1 inside)
    above taken after out did step done e of_caller of_x = absurd (none-some done e)

    acts : (taken : Option Message) (after : Node) (out : Option Message) (did : Option Done) → WasSent sent taken → NodeStep node taken after out did → Floored (put_node after nodes)
    acts taken after out did was step =
        let change : Change nodes node after = change_of nodes sent carried node here taken after out did was step in
        let at : node_at after.number nodes ≡ Some node = ap (λ n. node_at n nodes) change.number ∙ here in
        record {
          held = λ number other segment e h. ⊎_elim
              (λ r. held_after taken after out did was step segment (subst (λ (n : Node). Has n.held segment) (sym r.1) h))
              (λ r. low.held number other segment r.1 h)
              (put_node_cases after nodes node number other at e);
          under_way = λ number other item e h late.
              let still : last_taken nodes item.to number < item.number = lt_of_le_of_lt (last_grows after nodes node at change.grows item.to number) late in
              ⊎_elim
              (λ r. outbox_after taken after out did step item (subst (λ (n : Node). Has n.outbox item) (sym r.1) h) (subst (λ n. last_taken nodes item.to n < item.number) (r.0 ∙ change.number) still))
              (λ r. low.under_way number other item r.1 h still)
              (put_node_cases after nodes node number other at e);
        }

  pushed : (nodes : List Node) (last : Node) → Floored nodes → last.held ≡ [] → last.outbox ≡ [] → Floored (nodes ++ last ∷ [])
  pushed nodes last low nothing empty = record {
    held = λ number node segment e h. ⊎_elim (λ there. low.held number node segment there h)
        (λ is. absurd (subst (λ ss. Has ss segment) nothing (subst (λ (n : Node). Has n.held segment) (sym is) h)))
        (node_pushed number nodes last node e);
    under_way = λ number node item e h late. ⊎_elim
        (λ there. low.under_way number node item there h (lt_of_le_of_lt (last_pushed nodes last item.to number) late))
        (λ is. absurd (subst (λ is. Has is item) empty (subst (λ (n : Node). Has n.outbox item) (sym is) h)))
        (node_pushed number nodes last node e);
  }

  -- what one step leaves
  pub record Step (old new : World) : Type 0 where
    pub low : Floored new.nodes
    pub some : new.nodes ≢ []
    pub call : Option Done
    pub history : new.history ≡ with_one old.history call
    pub above : (done : Done) → call ≡ Some done → done.caller ≡ caller → id_of done.request ≡ x → floor < done.number

  pub step : (old new : World) → Carried old.nodes old.sent → Floored old.nodes → old.nodes ≢ [] → WorldStep old new → Step old new
  step old new carried low some (WorldStep.Creates links limit id_in none) = absurd (some none)
  step old new carried low some (WorldStep.Joins links limit id_in others is_new) = record {
    low = pushed old.nodes (newborn links limit) low refl refl;
    some = not_empty old.nodes (newborn links limit);
    call = None;
    history = refl;
    above = λ done e of_caller of_x. absurd (none-some done e);
  }
  step old new carried low some (WorldStep.Opens number window least most is_new) =
      record { low = low; some = some; call = None; history = refl; above = λ done e of_caller of_x. absurd (none-some done e) }
  step old new carried low some (WorldStep.Calls number from after taken sent here was did) =
      record { low = low; some = some; call = None; history = refl; above = λ done e of_caller of_x. absurd (none-some done e) }
  step old new carried low some (WorldStep.Acts number node after taken sent call here was did) =
      let own : node_at node.number old.nodes ≡ Some node = ap (λ n. node_at n old.nodes) (nodes_by.number number old.nodes node here) ∙ here in
      let change : Change old.nodes node after = change_of old.nodes old.sent carried node own taken after sent call was did in
      record {
        low = acts old.nodes old.sent carried low node own taken after sent call was did;
        some = put_not_empty after old.nodes node (ap (λ n. node_at n old.nodes) change.number ∙ own);
        call = call;
        history = refl;
        above = above old.nodes old.sent carried low node own taken after sent call did;
      }
