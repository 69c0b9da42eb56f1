-- What holds of the nodes after each step of a node, one lemma a kind of step.
use Rattle.std.proofs.Common.{◌≡◌, ◌≢◌, ℕ, suc, zero, ◌+◌, ◌^◌, ◌<◌, ◌≤◌, Bool, true, false, cond, not, Option, Some, None, List, [], ◌∷◌, ◌++◌, set, ◌⊎◌, inl, inr, ⊎_elim, refl, sym, ◌∙◌, ap, subst, arith}
use Rattle.std.specs.Prelude.{slice_get}
use Rattle.chord_handover.proofs.Counting.{count, count_push, count-set, count-insert, count-remove}
use Rattle.chord_handover.proofs.OutboxLemmas.{DistinctItems, DistinctItems_push, DistinctItems-without, item_at_is, is_item_from, is_item_parts, item_at_push_other, item_at_push_same, item_at-without_same, item_at-without_other, without_none, count-without}
use Rattle.chord_handover.specs.declared.ticket.Ticket.{Ticket}
use Rattle.chord_handover.specs.Handover.{Handover, part_at, ticket_of, Item, item_at, is_item, outbox_without, handover_of}
use Rattle.chord_ident.proofs.Spans.{one_if, in_parts}
use Rattle.chord_ident.specs.declared.id.Id.{Id}
use Rattle.chord_ident.specs.declared.span.Span.{Span}
use Rattle.chord_ident.specs.Circle.{in_span, cuts}
use Rattle.chord_map.proofs.Each.{Each, Each_push, Each-remove, Each-slice_get, Each-filter, Each-find}
use Rattle.chord_map.proofs.Finding.{not_true}
use Rattle.chord_map.specs.declared.pair.Pair.{Pair}
use Rattle.chord_map.specs.Map.{put_all}
use Rattle.chord_model.proofs.Channels.{is_gone, given_by, item_by, taken_in, given_in, item_in, gone_in, item_from, GiveOk, part_ok, DeclinedOk, MessageOk, Channels, Change, MessageOk-later, later_from}
use Rattle.chord_model.proofs.Nodes.{DistinctNodes, at_put}
use Rattle.chord_model.proofs.Totals.{has, awaits, weight, total, total-put, total_same, total-take, weight-take, awaits_yes, awaits_no}
use Rattle.chord_model.specs.declared.message.Message.{Message}
use Rattle.chord_model.specs.declared.message.Message.TheVariants.{Part as PartMessage, Got as GotMessage}
use Rattle.chord_model.specs.Node.{Node, append_at, with_taken, with_back, item_of, without_segment, cut_held, joined_held}
use Rattle.chord_model.specs.World.{node_at, put_node, taken_by}
use Rattle.chord_map.proofs.Equal.{same_or_not}
use Rattle.chord_segment.proofs.MarkLemmas.{mark_of-raise_same, mark_of-raise_other}
use Rattle.chord_segment.specs.Marks.{mark_of, raise}
use Rattle.chord_segment.specs.Segment.{Segment, append, part_before, part_behind, joined_segment, span_joined}
use Rattle.chord_map.specs.declared.done.Done.{Done}
use Rattle.chord_model.proofs.Numbered.{nodes_by}

-- the ends of a span are identifiers
abbrev pub OnCircle : Span → Type 0
OnCircle span = (span.after.number < 2 ^ 128) × (span.upto.number < 2 ^ 128)

abbrev pub SegmentOn : Segment → Type 0
SegmentOn segment = OnCircle segment.span

abbrev pub ItemOn : Item → Type 0
ItemOn item = OnCircle item.segment.span

-- what holds of each node by itself
pub record Local (node : Node) : Type 0 where
  pub items : DistinctItems node.outbox
  pub held_on : Each SegmentOn node.held
  pub outbox_on : Each ItemOn node.outbox

-- what holds of a step of a node
pub record Event (nodes : List Node) (node after : Node) (out : Option Message) : Type 0 where
  pub change : Change nodes node after
  pub local : Local after
  pub totals : (x : ℕ) → x < 2 ^ 128 → total x (taken_in (put_node after nodes)) (put_node after nodes) ≡ total x (taken_in nodes) nodes
  pub says : (message : Message) → out ≡ Some message → MessageOk (put_node after nodes) message

-- a step that takes no handover and leaves its node's weight leaves the total
untaken : (nodes : List Node) (node after : Node) → node_at node.number nodes ≡ Some node → after.number ≡ node.number → after.taken ≡ node.taken
    → (x : ℕ) → weight x (taken_in nodes) after ≡ weight x (taken_in nodes) node
    → total x (taken_in (put_node after nodes)) (put_node after nodes) ≡ total x (taken_in nodes) nodes
untaken nodes node after at number taken x weights =
    let at' : node_at after.number nodes ≡ Some node = rw number at in
    let same : (to from : ℕ) → taken_in (put_node after nodes) to from ≡ taken_in nodes to from =
    at_put (λ to old new. (from : ℕ) → taken_by new from ≡ taken_by old from) after node nodes at' (λ from. ap (mark_of from) taken) (λ to other from. refl) in
    let first = total_same x (taken_in (put_node after nodes)) (taken_in nodes) same (put_node after nodes) in
    let put = total-put x (taken_in nodes) after node nodes at' in
    omega arith

-- a step that leaves the numbers and the items unchanged
quiet : (nodes : List Node) (sent : List Message) (node after : Node) → Channels nodes sent → node_at node.number nodes ≡ Some node
    → after.number ≡ node.number → after.taken ≡ node.taken → after.given ≡ node.given → after.outbox ≡ node.outbox
    → (is_gone node.phase ≡ true → is_gone after.phase ≡ true) → Change nodes node after
quiet nodes sent node after channels at number taken given outbox gone = record {
  same_number = number;
  taken_grows = λ from. let e = ap (mark_of from) taken in omega arith;
  gone_takes_none = λ from h. ap (mark_of from) taken;
  given_grows = λ to. let e = ap (mark_of to) given in omega arith;
  gone_stays = gone;
  items_stay = λ to number here above given. ap (item_at to number) outbox;
  behind = λ from.
      let e = ap (mark_of from) taken in
      let b : mark_of from node.taken ≤ given_in nodes from node.number = rw (ap (λ o. taken_by o from) at) at (channels.behind node.number from) in
      omega arith;
  numbered = λ to number item e.
      let e' : item_in nodes node.number to number ≡ Some item = ap (λ o. item_by o to number) at ∙ (ap (item_at to number) (sym outbox) ∙ e) in
      let n : number ≤ mark_of to node.given = rw (ap (λ o. given_by o to) at) at (channels.numbered node.number to number item e') in
      let g = ap (mark_of to) given in
      omega arith;
}

pub quiet_event : (nodes : List Node) (sent : List Message) (node after : Node) (out : Option Message) → Channels nodes sent → node_at node.number nodes ≡ Some node
    → after.number ≡ node.number → after.taken ≡ node.taken → after.given ≡ node.given → after.outbox ≡ node.outbox
    → (is_gone node.phase ≡ true → is_gone after.phase ≡ true)
    → Local after → ((x : ℕ) → x < 2 ^ 128 → count (has x) after.held ≡ count (has x) node.held)
    → ((message : Message) → out ≡ Some message → MessageOk nodes message)
    → Event nodes node after out
quiet_event nodes sent node after out channels at number taken given outbox gone local counts says =
    let change = quiet nodes sent node after channels at number taken given outbox gone in
    record {
      change = change;
      local = local;
      totals = λ x x_in. untaken nodes node after at number taken x
          (let held = counts x x_in in
          let way : count (awaits x (λ to. taken_in nodes to after.number)) after.outbox ≡ count (awaits x (λ to. taken_in nodes to node.number)) node.outbox =
          rw (number, outbox) refl in
          omega arith);
      says = λ message e. MessageOk-later nodes (put_node after nodes) (later_from nodes node after at change) message (says message e);
    }

-- a step that leaves the node unchanged
pub same_event : (nodes : List Node) (sent : List Message) (node : Node) (out : Option Message) → Channels nodes sent → node_at node.number nodes ≡ Some node
    → Local node → ((message : Message) → out ≡ Some message → MessageOk nodes message) → Event nodes node node out
same_event nodes sent node out channels at local says =
    quiet_event nodes sent node node out channels at refl refl refl refl (λ h. h) local (λ x x_in. refl) says

-- ---- a call is executed

append_step : (x : ℕ) (b : Bool) (segment new : Segment) (rest more : List Segment) → new.span ≡ segment.span → count (has x) more ≡ count (has x) rest
    → count (has x) (cond b (new ∷ rest) (segment ∷ more)) ≡ one_if (has x segment) + count (has x) rest
append_step x true segment new rest more same counts = ap (λ s. one_if (in_span s x) + count (has x) rest) same
append_step x false segment new rest more same counts = ap (λ n. one_if (has x segment) + n) counts

pub count-append_at : (x id : ℕ) (done : Done) (floor : ℕ) (held : List Segment) → count (has x) (append_at id done floor held) ≡ count (has x) held
unfolding append_at append
count-append_at x id done floor [] = refl
count-append_at x id done floor (segment ∷ held) =
    append_step x (in_span segment.span id) segment (append done floor segment) held (append_at id done floor held) refl (count-append_at x id done floor held)

on_step : (b : Bool) (segment new : Segment) (rest more : List Segment) → SegmentOn segment → SegmentOn new → Each SegmentOn rest → Each SegmentOn more
    → Each SegmentOn (cond b (new ∷ rest) (segment ∷ more))
on_step true segment new rest more on new_on rest_on more_on = (new_on, rest_on)
on_step false segment new rest more on new_on rest_on more_on = (on, more_on)

pub append_at_on : (id : ℕ) (done : Done) (floor : ℕ) (held : List Segment) → Each SegmentOn held → Each SegmentOn (append_at id done floor held)
unfolding append_at append
append_at_on id done floor [] on = tt
append_at_on id done floor (segment ∷ held) on =
    on_step (in_span segment.span id) segment (append done floor segment) held (append_at id done floor held) on.0 on.0 on.1 (append_at_on id done floor held on.1)

-- ---- a segment is cut, or two are joined

pub count-cut : (x place : ℕ) (segment : Segment) (at : Id) (held : List Segment) → x < 2 ^ 128 → SegmentOn segment → at.number < 2 ^ 128
    → slice_get held place ≡ Some segment → cuts segment.span at ≡ true → count (has x) (cut_held place segment at held) ≡ count (has x) held
count-cut x place segment at held x_in on at_in found cut =
    let both = count-insert (has x) (set held place (part_before at segment)) (place + 1) (part_behind at segment) in
    let first = count-set (has x) held place segment (part_before at segment) found in
    let parts = in_parts segment.span.after at segment.span.upto x on.0 at_in on.1 x_in cut in
    omega arith

pub slice_get-set_other : {A : Type 0} (xs : List A) (i j : ℕ) (y : A) → i ≢ j → slice_get (set xs i y) j ≡ slice_get xs j
slice_get-set_other [] zero j y apart = refl
slice_get-set_other [] (suc i) j y apart = refl
slice_get-set_other (x ∷ xs) zero zero y apart = absurd (apart refl)
slice_get-set_other (x ∷ xs) zero (suc j) y apart = refl
slice_get-set_other (x ∷ xs) (suc i) zero y apart = refl
slice_get-set_other (x ∷ xs) (suc i) (suc j) y apart = slice_get-set_other xs i j y (λ e. apart (ap suc e))

pub count-join : (x place : ℕ) (first : Segment) (place_behind : ℕ) (second : Segment) (held : List Segment) → x < 2 ^ 128 → SegmentOn first → SegmentOn second
    → slice_get held place ≡ Some first → slice_get held place_behind ≡ Some second → place ≢ place_behind
    → first.span.upto ≡ second.span.after → cuts (span_joined first.span second.span) first.span.upto ≡ true
    → count (has x) (joined_held place first place_behind second held) ≡ count (has x) held
unfolding joined_segment
count-join x place first place_behind second held x_in on on' found found' apart meet cut =
    let found'' : slice_get (set held place (joined_segment first second)) place_behind ≡ Some second = slice_get-set_other held place place_behind (joined_segment first second) apart ∙ found' in
    let less = count-remove (has x) (set held place (joined_segment first second)) place_behind second found'' in
    let more = count-set (has x) held place first (joined_segment first second) found in
    let parts = in_parts first.span.after first.span.upto second.span.upto x on.0 on.1 on'.1 x_in cut in
    let second_part : one_if (in_span (record { after = first.span.upto; upto = second.span.upto }) x) ≡ one_if (has x second) =
    ap (λ a. one_if (in_span (record { after = a; upto = second.span.upto }) x)) meet in
    omega arith

pub joined_on : (first second : Segment) → SegmentOn first → SegmentOn second → SegmentOn (joined_segment first second)
unfolding joined_segment
joined_on first second on on' = (on.0, on'.1)

-- ---- a segment is put into the outbox

pub none_or_some : {A : Type 0} (o : Option A) → ((x : A) → o ≡ Some x → ⊥) → o ≡ None
none_or_some None h = refl
none_or_some (Some x) h = absurd (h x refl)

-- an item is found only under its own receiver and number
not_item : (to number : ℕ) (item : Item) → (item.to ≡ to → item.number ≢ number) → is_item to number item ≡ false
not_item to number item apart = not_true (is_item to number item) (λ yes. let parts = is_item_parts to number item yes in apart parts.0 parts.1)

give_change : (nodes : List Node) (sent : List Message) (node : Node) (place : ℕ) (segment : Segment) (to : ℕ) → Channels nodes sent → node_at node.number nodes ≡ Some node
    → Change nodes node (without_segment place segment to node)
give_change nodes sent node place segment to channels at =
    let item = item_of segment to node in
    let up : mark_of to (raise to (mark_of to node.given + 1) node.given) ≡ mark_of to node.given + 1 =
    mark_of-raise_same to (mark_of to node.given + 1) node.given ∙ omega arith in
    let grows : (other : ℕ) → mark_of other node.given ≤ mark_of other (raise to (mark_of to node.given + 1) node.given) =
    λ other. ⊎_elim
    (λ (same : other ≡ to). rw same (omega arith))
    (λ (apart : other ≢ to). let e = mark_of-raise_other other to (mark_of to node.given + 1) node.given apart in omega arith)
    (same_or_not other to) in
    record {
      same_number = refl;
      taken_grows = λ from. omega arith;
      gone_takes_none = λ from gone. refl;
      given_grows = grows;
      gone_stays = λ h. h;
      items_stay = λ other number here above given. item_at_push_other other number node.outbox item
          (not_item other number item (λ (same : to ≡ other) (e : mark_of to node.given + 1 ≡ number). let g = ap (λ o. mark_of o node.given) same in omega arith));
      behind = λ from. rw (ap (λ o. taken_by o from) at) at (channels.behind node.number from);
      numbered = λ other number found e.
          let old : item_at other number node.outbox ≡ Some found → number ≤ mark_of other node.given =
          λ e'. rw (ap (λ o. given_by o other) at) at (channels.numbered node.number other number found (ap (λ o. item_by o other number) at ∙ e')) in
          ⊎_elim
          (λ (same : other ≡ to).
          ⊎_elim
          (λ (n : number ≡ mark_of to node.given + 1). rw (same, n) (omega arith))
          (λ (n : number ≢ mark_of to node.given + 1).
          let miss = item_at_push_other other number node.outbox item (not_item other number item (λ t e'. n (sym e'))) in
          let o = old (sym miss ∙ e) in
          let g = grows other in
          omega arith)
          (same_or_not number (mark_of to node.given + 1)))
          (λ (apart : other ≢ to).
          let miss = item_at_push_other other number node.outbox item (not_item other number item (λ t e'. apart (sym t))) in
          let o = old (sym miss ∙ e) in
          let g = grows other in
          omega arith)
          (same_or_not other to);
    }

-- the number of an item in the outbox was given
pub kept_was_given : (nodes : List Node) (sent : List Message) (node : Node) → Channels nodes sent → node_at node.number nodes ≡ Some node
    → (to number : ℕ) (item : Item) → item_at to number node.outbox ≡ Some item → number ≤ mark_of to node.given
kept_was_given nodes sent node channels at to number item e =
    rw (ap (λ o. given_by o to) at) at (channels.numbered node.number to number item (ap (λ o. item_by o to number) at ∙ e))

pub give_event : (nodes : List Node) (sent : List Message) (node : Node) (place : ℕ) (segment : Segment) (to : ℕ) → Channels nodes sent → node_at node.number nodes ≡ Some node
    → Local node → slice_get node.held place ≡ Some segment
    → Event nodes node (without_segment place segment to node) (Some (PartMessage (part_at (handover_of node.number (item_of segment to node)) 1)))
give_event nodes sent node place segment to channels at local found =
    let item = item_of segment to node in
    let after = without_segment place segment to node in
    let change = give_change nodes sent node place segment to channels at in
    let none : item_at to item.number node.outbox ≡ None =
    none_or_some (item_at to item.number node.outbox) (λ old e. let g = kept_was_given nodes sent node channels at to item.number old e in omega arith) in
    let at_after = nodes_by.put_same after nodes node at in
    record {
      change = change;
      local = record {
        items = DistinctItems_push node.outbox item none local.items;
        held_on = Each-remove SegmentOn node.held place local.held_on;
        outbox_on = Each_push ItemOn node.outbox item local.outbox_on (Each-slice_get SegmentOn node.held place segment found local.held_on);
      };
      totals = λ x x_in. untaken nodes node after at refl refl x
          (let t : ℕ → ℕ = λ to. taken_in nodes to node.number in
          let held = count-remove (has x) node.held place segment found in
          let way = count_push (awaits x t) node.outbox item in
          let part_behind : t to ≤ mark_of to node.given = rw (ap (λ o. given_by o to) at) at (channels.behind to node.number) in
          let here = ap one_if (awaits_yes x t item (omega arith)) in
          omega arith);
      says = λ message e.
          let same : PartMessage (part_at (handover_of node.number item) 1) ≡ message = cc in
          subst (MessageOk (put_node after nodes)) same (part_ok (put_node after nodes) (handover_of node.number item) 1 (record {
            given = rw (ap (λ o. given_by o to) at_after) (rw (mark_of-raise_same to (mark_of to node.given + 1) node.given) (omega arith));
            kept = λ here above. ap (λ o. item_by o to item.number) at_after ∙ item_at_push_same to item.number node.outbox item (is_item_from to item.number item refl refl) none;
          }));
    }

-- ---- an item leaves the outbox

without_on : (to number : ℕ) (outbox : List Item) → Each ItemOn outbox → Each ItemOn (outbox_without to number outbox)
unfolding outbox_without
without_on to number outbox on = Each-filter ItemOn (λ (item : Item). not (is_item to number item)) outbox on

found_on : (to number : ℕ) (outbox : List Item) (item : Item) → item_at to number outbox ≡ Some item → Each ItemOn outbox → ItemOn item
unfolding item_at
found_on to number outbox item e on = Each-find ItemOn (is_item to number) outbox item e on

pub apart_or_same : (a b to number : ℕ) → ((a ≢ to) ⊎ (b ≢ number)) ⊎ ((a ≡ to) × (b ≡ number))
apart_or_same a b to number =
    ⊎_elim (λ (x : a ≡ to). ⊎_elim (λ (y : b ≡ number). inr (x, y)) (λ (y : b ≢ number). inl (inr y)) (same_or_not b number))
    (λ (x : a ≢ to). inl (inl x)) (same_or_not a to)

-- an item that was taken awaits nobody, so the outbox weighs the same without it
freed_by : (x : ℕ) (t : ℕ → ℕ) (to number : ℕ) (outbox : List Item) → DistinctItems outbox → number ≤ t to
    → (found : Option Item) → item_at to number outbox ≡ found → count (awaits x t) (outbox_without to number outbox) ≡ count (awaits x t) outbox
freed_by x t to number outbox d taken None e = ap (count (awaits x t)) (without_none to number outbox e)
freed_by x t to number outbox d taken (Some item) e =
    let is = item_at_is to number outbox item e in
    let below : item.number ≤ t item.to = rw (is.0, is.1) taken in
    let all = count-without (awaits x t) to number outbox item d e in
    let none = ap one_if (awaits_no x t item below) in
    omega arith

drop_change : (nodes : List Node) (sent : List Message) (node : Node) (held : List Segment) (entries : List Pair) (to number : ℕ) → Channels nodes sent → node_at node.number nodes ≡ Some node
    → (gone_in nodes to ≡ false → taken_in nodes to node.number < number → ⊥)
    → Change nodes node (record node { held = held; entries = entries; outbox = outbox_without to number node.outbox })
drop_change nodes sent node held entries to number channels at settled = record {
  same_number = refl;
  taken_grows = λ from. omega arith;
  gone_takes_none = λ from gone. refl;
  given_grows = λ other. omega arith;
  gone_stays = λ h. h;
  items_stay = λ other other_number here above given. item_at-without_other other other_number to number node.outbox
      (⊎_elim
      (λ (same : other ≡ to).
      ⊎_elim
      (λ (n : other_number ≡ number). absurd (settled (rw same at here) (rw (same, n) at above)))
      (λ (n : other_number ≢ number). inr n)
      (same_or_not other_number number))
      (λ (apart : other ≢ to). inl apart)
      (same_or_not other to));
  behind = λ from. rw (ap (λ o. taken_by o from) at) at (channels.behind node.number from);
  numbered = λ other other_number item e.
      ⊎_elim
      (λ (apart : (other ≢ to) ⊎ (other_number ≢ number)).
      kept_was_given nodes sent node channels at other other_number item (sym (item_at-without_other other other_number to number node.outbox apart) ∙ e))
      (λ (same : (other ≡ to) × (other_number ≡ number)).
      let none : item_at other other_number (outbox_without to number node.outbox) ≡ None = rw (same.0, same.1) (item_at-without_same to number node.outbox) in
      cc)
      (apart_or_same other other_number to number);
}

pub frees_event : (nodes : List Node) (sent : List Message) (node : Node) (ticket : Ticket) → Channels nodes sent → node_at node.number nodes ≡ Some node
    → Local node → ticket.from ≡ node.number → MessageOk nodes (GotMessage ticket)
    → Event nodes node (record node { outbox = outbox_without ticket.to ticket.number node.outbox }) None
frees_event nodes sent node ticket channels at local me got =
    let taken : ticket.number ≤ taken_in nodes ticket.to node.number = rw me at got in
    let t : ℕ → ℕ = λ to. taken_in nodes to node.number in
    record {
      change = drop_change nodes sent node node.held node.entries ticket.to ticket.number channels at (λ here above. omega arith);
      local = record {
        items = DistinctItems-without ticket.to ticket.number node.outbox local.items;
        held_on = local.held_on;
        outbox_on = without_on ticket.to ticket.number node.outbox local.outbox_on;
      };
      totals = λ x x_in. untaken nodes node (record node { outbox = outbox_without ticket.to ticket.number node.outbox }) at refl refl x
          (ap (λ n. count (has x) node.held + n) (freed_by x t ticket.to ticket.number node.outbox local.items taken (item_at ticket.to ticket.number node.outbox) refl));
      says = λ message e. cc;
    }

pub takes_back_event : (nodes : List Node) (sent : List Message) (node : Node) (ticket : Ticket) (item : Item) → Channels nodes sent → node_at node.number nodes ≡ Some node
    → Local node → ticket.from ≡ node.number → item_at ticket.to ticket.number node.outbox ≡ Some item → DeclinedOk nodes ticket
    → Event nodes node (with_back item node) None
takes_back_event nodes sent node ticket item channels at local me found declined =
    let is = item_at_is ticket.to ticket.number node.outbox item found in
    let t : ℕ → ℕ = λ to. taken_in nodes to node.number in
    let above : t item.to < item.number = rw (is.0, is.1) (rw me at declined.above) in
    let gone : gone_in nodes item.to ≡ true = rw is.0 declined.gone in
    let found' : item_at item.to item.number node.outbox ≡ Some item =
    ap (λ n. item_at item.to n node.outbox) is.1 ∙ (ap (λ a. item_at a ticket.number node.outbox) is.0 ∙ found) in
    record {
      change = drop_change nodes sent node (node.held ++ item.segment ∷ []) (put_all item.pairs node.entries) item.to item.number channels at (λ here above. cc);
      local = record {
        items = DistinctItems-without item.to item.number node.outbox local.items;
        held_on = Each_push SegmentOn node.held item.segment local.held_on (found_on ticket.to ticket.number node.outbox item found local.outbox_on);
        outbox_on = without_on item.to item.number node.outbox local.outbox_on;
      };
      totals = λ x x_in. untaken nodes node (with_back item node) at refl refl x
          (let held = count_push (has x) node.held item.segment in
          let way = count-without (awaits x t) item.to item.number node.outbox item local.items found' in
          let here = ap one_if (awaits_yes x t item above) in
          omega arith);
      says = λ message e. cc;
    }

-- ---- a handover is taken

-- an item in an outbox has a node that gives it
pub sender_of : (found : Option Node) (to number : ℕ) (item : Item) → item_by found to number ≡ Some item → (sender : Node) × (found ≡ Some sender) × (item_at to number sender.outbox ≡ Some item)
sender_of None to number item e = cc
sender_of (Some sender) to number item e = (sender, refl, e)

take_change : (nodes : List Node) (sent : List Message) (node : Node) (handover : Handover) → Channels nodes sent → node_at node.number nodes ≡ Some node
    → handover.to ≡ node.number → handover.number ≡ mark_of handover.from node.taken + 1 → is_gone node.phase ≡ false → GiveOk nodes handover
    → Change nodes node (with_taken handover node)
take_change nodes sent node handover channels at here next stays ok =
    let up : mark_of handover.from (raise handover.from handover.number node.taken) ≡ handover.number = mark_of-raise_same handover.from handover.number node.taken ∙ omega arith in
    record {
      same_number = refl;
      taken_grows = λ from. ⊎_elim
          (λ (same : from ≡ handover.from). rw same (omega arith))
          (λ (apart : from ≢ handover.from). let e = mark_of-raise_other from handover.from handover.number node.taken apart in omega arith)
          (same_or_not from handover.from);
      gone_takes_none = λ from gone. cc;
      given_grows = λ to. omega arith;
      gone_stays = λ h. h;
      items_stay = λ to number here above given. refl;
      behind = λ from. ⊎_elim
          (λ (same : from ≡ handover.from). rw same (let g : handover.number ≤ given_in nodes handover.from node.number = rw here at ok.given in omega arith))
          (λ (apart : from ≢ handover.from).
          let e = mark_of-raise_other from handover.from handover.number node.taken apart in
          let b : mark_of from node.taken ≤ given_in nodes from node.number = rw (ap (λ o. taken_by o from) at) at (channels.behind node.number from) in
          omega arith)
          (same_or_not from handover.from);
      numbered = kept_was_given nodes sent node channels at;
    }

pub take_event : (nodes : List Node) (sent : List Message) (node : Node) (handover : Handover) → DistinctNodes nodes → Channels nodes sent
    → ((number : ℕ) (node : Node) → node_at number nodes ≡ Some node → Local node) → node_at node.number nodes ≡ Some node
    → handover.to ≡ node.number → handover.number ≡ mark_of handover.from node.taken + 1 → is_gone node.phase ≡ false → GiveOk nodes handover
    → Event nodes node (with_taken handover node) (Some (GotMessage (ticket_of handover)))
take_event nodes sent node handover distinct channels locals at here next stays ok =
    let after = with_taken handover node in
    let nodes' = put_node after nodes in
    let taken_at : (from : ℕ) → taken_in nodes node.number from ≡ mark_of from node.taken = λ from. ap (λ o. taken_by o from) at in
    let at_after = nodes_by.put_same after nodes node at in
    let taken_after : (from : ℕ) → taken_in nodes' node.number from ≡ mark_of from (raise handover.from handover.number node.taken) = λ from. ap (λ o. taken_by o from) at_after in
    let up : mark_of handover.from (raise handover.from handover.number node.taken) ≡ handover.number = mark_of-raise_same handover.from handover.number node.taken ∙ omega arith in
    let now : taken_in nodes' node.number handover.from ≡ handover.number = taken_after handover.from ∙ up in
    let part_before : taken_in nodes node.number handover.from + 1 ≡ handover.number = let t = taken_at handover.from in omega arith in
    let gone : gone_in nodes handover.to ≡ false = rw here (rw at stays) in
    let above : taken_in nodes handover.to handover.from < handover.number = rw here (omega arith) in
    let sender = sender_of (node_at handover.from nodes) handover.to handover.number (item_from handover) (ok.kept gone above) in
    let sent_by : sender.0.number ≡ handover.from = nodes_by.number handover.from nodes sender.0 sender.1 in
    let sender_local = locals handover.from sender.0 sender.1 in
    let on : SegmentOn handover.segment = found_on handover.to handover.number sender.0.outbox (item_from handover) sender.2 sender_local.outbox_on in
    record {
      change = take_change nodes sent node handover channels at here next stays ok;
      local = let local = locals node.number node at in record {
        items = local.items;
        held_on = Each_push SegmentOn node.held handover.segment local.held_on on;
        outbox_on = local.outbox_on;
      };
      totals = λ x x_in.
          let h = one_if (has x handover.segment) in
          let same_others : (to other : ℕ) → other ≢ handover.from → taken_in nodes to other ≡ taken_in nodes' to other =
          at_put (λ to old new. (other : ℕ) → other ≢ handover.from → taken_by old other ≡ taken_by new other) after node nodes at
          (λ other apart. sym (mark_of-raise_other other handover.from handover.number node.taken apart)) (λ to node other apart. refl) in
          let same_sender : (other : ℕ) → other ≢ handover.to → taken_in nodes other sender.0.number ≡ taken_in nodes' other sender.0.number =
          λ other apart. ap (λ o. taken_by o sender.0.number) (sym (nodes_by.put_apart after nodes other (λ e. apart (e ∙ sym here)))) in
          let was : taken_in nodes handover.to sender.0.number ≡ taken_in nodes node.number handover.from =
          ap (λ n. taken_in nodes n sender.0.number) here ∙ ap (taken_in nodes node.number) sent_by in
          let is : taken_in nodes' handover.to sender.0.number ≡ taken_in nodes' node.number handover.from =
          ap (λ n. taken_in nodes' n sender.0.number) here ∙ ap (taken_in nodes' node.number) sent_by in
          let sender_weight : weight x (taken_in nodes) sender.0 ≡ weight x (taken_in nodes') sender.0 + h =
          weight-take x handover.to handover.number (taken_in nodes) (taken_in nodes') sender.0 (item_from handover) (omega arith) (omega arith) same_sender sender_local.items sender.2 in
          let taking = total-take x handover.from (taken_in nodes) (taken_in nodes') h sender.0 same_others sender_weight nodes distinct sender.1 in
          let putting = total-put x (taken_in nodes') after node nodes at in
          let held = count_push (has x) node.held handover.segment in
          omega arith;
      says = λ message e.
          let same : GotMessage (ticket_of handover) ≡ message = cc in
          let got : handover.number ≤ taken_in nodes' handover.to handover.from = let e = ap (λ n. taken_in nodes' n handover.from) here in omega arith in
          subst (MessageOk nodes') same got;
    }
