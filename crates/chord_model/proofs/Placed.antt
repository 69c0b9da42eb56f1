-- Each entry lies in a held span, each item's pairs
-- in its span, and each kept call in its segment's.
use Rattle.std.proofs.Common.{◌≡◌, ℕ, ◌+◌, ◌^◌, ◌<◌, Bool, true, false, cond, not, Option, Some, List, [], ◌∷◌, ◌++◌, refl, ap, arith}
use Rattle.std.specs.Prelude.{slice_get, remove, find}
use Rattle.std.specs.declared.cmp.Ordering.{Ordering}
use Rattle.std.specs.declared.cmp.Ordering.TheVariants.{Less, Equal, Greater}
use Rattle.chord_handover.proofs.Counting.{count, count_push, count-remove}
use Rattle.chord_handover.specs.Handover.{Handover, Item, is_item, item_at, outbox_without}
use Rattle.chord_ident.proofs.Spans.{one_if, in_parts}
use Rattle.chord_ident.specs.declared.span.Span.{Span}
use Rattle.chord_ident.specs.Circle.{in_span, cuts, key_id}
use Rattle.chord_map.proofs.Each.{Each, Each_push, Each-set, Each-insert, Each-remove, Each-slice_get, Each-map, Each-filter, Each-find, Each_filter_with, Each_any}
use Rattle.chord_map.specs.declared.pair.Pair.{Pair}
use Rattle.chord_map.specs.declared.reply.Reply.{Reply}
use Rattle.chord_map.specs.declared.request.Request.{Request}
use Rattle.chord_map.specs.Map.{pair_cmp, by_order, insert_pair, remove_pair, put_all, key_of, reply_to, pairs_by, pairs_after}
use Rattle.chord_map.specs.declared.reply.Reply.TheVariants.{Added, Present, SetFull, Values, Removed, Absent}
use Rattle.chord_map.specs.declared.request.Request.TheVariants.{Insert, Retrieve, Remove}
use Rattle.chord_model.proofs.Channels.{taken_in, item_in, gone_in, item_from}
use Rattle.chord_model.proofs.Events.{SegmentOn, count-append_at, count-cut, count-join, sender_of}
use Rattle.chord_model.proofs.Kept.{Sound, gone_test}
use Rattle.chord_model.proofs.Totals.{has}
use Rattle.chord_model.proofs.Whole.{whole_ok}
use Rattle.chord_ident.proofs.Digest.{key_id-below}
use Rattle.chord_model.specs.declared.message.Message.{Message}
use Rattle.chord_model.specs.Node.{Node, NodeStep, item_of, segment_with, append_at, done_of, cut_held, joined_held}
use Rattle.chord_model.specs.Node.NodeStep.{Tells_again, Drops_seen, Executes, Answers_full, Forwards, Drops, Got_again, Declines, Buffers, Takes, Waits, Frees, Takes_back, Keeps, Cuts, Joins, Gives, Gives_again, Links_change, Leaves, Retires}
use Rattle.chord_model.specs.World.{node_at, WasSent}
use Rattle.chord_segment.specs.Segment.{id_of, Segment, insert_call, insert_calls, append, calls_above, part_before, part_behind, joined_segment, span_joined, dones_inside}
use Rattle.chord_segment.proofs.SegmentRules.{Each_placed}
use Rattle.chord_segment.proofs.Joining.{Each_placed_all}
use Rattle.chord_map.specs.declared.done.Done.{Done}
use Rattle.chord_segment.specs.declared.mark.Mark.{Mark}
use Rattle.chord_store.specs.Inside.{pairs_inside, pairs_outside}

-- ---- what holds of each pair through the edits of a map

by_order_each : (P : Pair → Type 0) (o : Ordering) (a b c : List Pair) → Each P a → Each P b → Each P c → Each P (by_order o a b c)
by_order_each P Less a b c ha hb hc = ha
by_order_each P Equal a b c ha hb hc = hb
by_order_each P Greater a b c ha hb hc = hc

pub Each-insert_pair : (P : Pair → Type 0) (pair : Pair) (pairs : List Pair) → P pair → Each P pairs → Each P (insert_pair pair pairs)
unfolding insert_pair
Each-insert_pair P pair [] here all = (here, tt)
Each-insert_pair P pair (first ∷ rest) here all =
    by_order_each P (pair_cmp pair first) (pair ∷ (first ∷ rest)) (first ∷ rest) (first ∷ insert_pair pair rest)
    (here, all) all (all.0, Each-insert_pair P pair rest here all.1)

pub Each-put_all : (P : Pair → Type 0) (more pairs : List Pair) → Each P more → Each P pairs → Each P (put_all more pairs)
unfolding put_all
Each-put_all P [] pairs hm h = h
Each-put_all P (pair ∷ more) pairs hm h = Each-put_all P more (insert_pair pair pairs) hm.1 (Each-insert_pair P pair pairs hm.0 h)

-- a property of each pair, and of any pair under the request's key, holds after the request
Each-pairs_by : (P : Pair → Type 0) (request : Request) (reply : Reply) (pairs : List Pair) → ((value : List ℕ) → P (record { key = key_of request; value = value }))
    → Each P pairs → Each P (pairs_by request reply pairs)
unfolding remove_pair
Each-pairs_by P (Insert key value) Added pairs here all = Each-insert_pair P _ pairs (here value) all
Each-pairs_by P (Remove key value) Removed pairs here all = Each-filter P _ pairs all
Each-pairs_by P (Insert key value) Present pairs here all = all
Each-pairs_by P (Insert key value) SetFull pairs here all = all
Each-pairs_by P (Insert key value) (Values values) pairs here all = all
Each-pairs_by P (Insert key value) Removed pairs here all = all
Each-pairs_by P (Insert key value) Absent pairs here all = all
Each-pairs_by P (Remove key value) Added pairs here all = all
Each-pairs_by P (Remove key value) Present pairs here all = all
Each-pairs_by P (Remove key value) SetFull pairs here all = all
Each-pairs_by P (Remove key value) (Values values) pairs here all = all
Each-pairs_by P (Remove key value) Absent pairs here all = all
Each-pairs_by P (Retrieve key) reply pairs here all = all

pub Each-pairs_after : (P : Pair → Type 0) (request : Request) (pairs : List Pair) → ((value : List ℕ) → P (record { key = key_of request; value = value }))
    → Each P pairs → Each P (pairs_after request pairs)
unfolding pairs_after
Each-pairs_after P request pairs here all = Each-pairs_by P request (reply_to request pairs) pairs here all

-- ---- the invariant of one node

-- the pair's key lies in a held span
abbrev pub InHeld : List Segment → Pair → Type 0
InHeld held pair = 0 < count (has (key_id pair.key)) held

abbrev pub InSegment : Segment → Pair → Type 0
InSegment segment pair = has (key_id pair.key) segment ≡ true

-- each kept call's key lies in the span
abbrev pub KeptInside : Segment → Type 0
KeptInside segment = Each (λ done. has (id_of done.request) segment ≡ true) segment.kept

pub record ItemPlaced (item : Item) : Type 0 where
  pub pairs : Each (InSegment item.segment) item.pairs
  pub kept : KeptInside item.segment

pub record Placed (node : Node) : Type 0 where
  pub entries : Each (InHeld node.held) node.entries
  pub kept : Each KeptInside node.held
  pub outbox : Each ItemPlaced node.outbox

-- ---- through the steps

found_step : {A : Type 0} (b : Bool) (y x : A) (rest : Option A) (n : ℕ) → cond b (Some y) rest ≡ Some x → (rest ≡ Some x → 0 < n) → 0 < one_if b + n
found_step true y x rest n e next = omega arith
found_step false y x rest n e next = omega (arith, next e)

count_found : {A : Type 0} (p : A → Bool) (xs : List A) (x : A) → find p xs ≡ Some x → 0 < count p xs
count_found p [] x e = cc
count_found p (y ∷ xs) x e = found_step (p y) y x (find p xs) (count p xs) e (count_found p xs x)

segment_with_counts : (x : ℕ) (held : List Segment) (segment : Segment) → segment_with x held ≡ Some segment → 0 < count (has x) held
unfolding segment_with
segment_with_counts x held segment e = count_found (has x) held segment e

kept_append : (done : Done) (floor : ℕ) (segment : Segment) → has (id_of done.request) segment ≡ true → KeptInside segment → KeptInside (append done floor segment)
unfolding append calls_above
kept_append done floor segment here kept =
    Each-filter (λ done. has (id_of done.request) segment ≡ true) _ (insert_call done segment.kept) (Each_placed (λ done. has (id_of done.request) segment ≡ true) segment.kept done kept here)

kept_step : (b : Bool) (segment new : Segment) (rest more : List Segment) → (b ≡ true → KeptInside new) → KeptInside segment → Each KeptInside rest → Each KeptInside more
    → Each KeptInside (cond b (new ∷ rest) (segment ∷ more))
kept_step true segment new rest more here kept rest_kept more_kept = (here refl, rest_kept)
kept_step false segment new rest more here kept rest_kept more_kept = (kept, more_kept)

kept_append_at : (done : Done) (floor : ℕ) (held : List Segment) → Each KeptInside held → Each KeptInside (append_at (id_of done.request) done floor held)
unfolding append_at
kept_append_at done floor [] kept = tt
kept_append_at done floor (segment ∷ held) kept =
    kept_step (in_span segment.span (id_of done.request)) segment (append done floor segment) held (append_at (id_of done.request) done floor held)
    (λ here. kept_append done floor segment here kept.0) kept.0 kept.1 (kept_append_at done floor held kept.1)

kept_inside : (span : Span) (floors : List Mark) (dones : List Done) → KeptInside (record { span = span; floors = floors; kept = dones_inside span dones })
unfolding dones_inside
kept_inside span floors dones = Each_filter_with (λ done. Unit {0}) (λ done. in_span span (id_of done.request) ≡ true) _ (λ done any passes. passes) dones (Each_any dones)

one_is_true : (b : Bool) (n : ℕ) → one_if b ≡ 1 + n → b ≡ true
one_is_true true n e = refl
one_is_true false n e = absurd (omega arith)

true_is_one : (b : Bool) → b ≡ true → one_if b ≡ 1
true_is_one b e = ap one_if e

kept_joined : (first second : Segment) → SegmentOn first → SegmentOn second → first.span.upto ≡ second.span.after → cuts (span_joined first.span second.span) first.span.upto ≡ true
    → KeptInside first → KeptInside second → KeptInside (joined_segment first second)
unfolding joined_segment calls_above
kept_joined first second on on' meet cut kept kept' =
    let whole : Span = span_joined first.span second.span in
    let parts : (x : ℕ) → x < 2 ^ 128 → one_if (in_span whole x) ≡ one_if (has x first) + one_if (has x second) =
    λ x x_in.
    let p = in_parts first.span.after first.span.upto second.span.upto x on.0 on.1 on'.1 x_in cut in
    let second_part : one_if (in_span (record { after = first.span.upto; upto = second.span.upto }) x) ≡ one_if (has x second) =
    ap (λ a. one_if (in_span (record { after = a; upto = second.span.upto }) x)) meet in
    omega arith in
    let P : Done → Type 0 = λ done. in_span whole (id_of done.request) ≡ true in
    Each-filter P _ (insert_calls second.kept first.kept)
    (Each_placed_all P second.kept first.kept
    (Each-map (λ done. has (id_of done.request) first ≡ true) P
    (λ done here. let p = parts (id_of done.request) (key_id-below (key_of done.request)) in let h = true_is_one (has (id_of done.request) first) here in
    one_is_true (in_span whole (id_of done.request)) (one_if (has (id_of done.request) second)) (omega arith)) first.kept kept)
    (Each-map (λ done. has (id_of done.request) second ≡ true) P
    (λ done here. let p = parts (id_of done.request) (key_id-below (key_of done.request)) in let h = true_is_one (has (id_of done.request) second) here in
    one_is_true (in_span whole (id_of done.request)) (one_if (has (id_of done.request) first)) (omega arith)) second.kept kept'))

-- entries stay in held spans if the held spans contain no less
entries_kept : (held held' : List Segment) (entries : List Pair) → ((x : ℕ) → x < 2 ^ 128 → count (has x) held' ≡ count (has x) held) → Each (InHeld held) entries → Each (InHeld held') entries
entries_kept held held' entries same insert_call =
    Each-map (InHeld held) (InHeld held') (λ pair h. let e = same (key_id pair.key) (key_id-below pair.key) in omega arith) entries insert_call

-- a segment that is taken brings its pairs
pub entries_more : (held : List Segment) (segment : Segment) (pairs entries : List Pair) → Each (InSegment segment) pairs → Each (InHeld held) entries
    → Each (InHeld (held ++ segment ∷ [])) (put_all pairs entries)
entries_more held segment pairs entries new old =
    let P = InHeld (held ++ segment ∷ []) in
    Each-put_all P pairs entries
    (Each-map (InSegment segment) P (λ pair here. let c = count_push (has (key_id pair.key)) held segment in let h = true_is_one (has (key_id pair.key) segment) here in omega arith) pairs new)
    (Each-map (InHeld held) P (λ pair h. let c = count_push (has (key_id pair.key)) held segment in omega arith) entries old)

false_is_zero : (b : Bool) → not b ≡ true → one_if b ≡ 0
false_is_zero true e = cc
false_is_zero false e = refl

-- a segment that leaves takes its pairs with it
pub entries_less : (held : List Segment) (place : ℕ) (segment : Segment) (entries : List Pair) → slice_get held place ≡ Some segment → Each (InHeld held) entries
    → Each (InHeld (remove held place)) (pairs_outside segment.span entries)
unfolding pairs_outside
entries_less held place segment entries found insert_call =
    Each_filter_with (InHeld held) (InHeld (remove held place)) _
    (λ pair h out.
    let c = count-remove (has (key_id pair.key)) held place segment found in
    let none = false_is_zero (in_span segment.span (key_id pair.key)) out in
    omega arith)
    entries insert_call

pairs_taken : (segment : Segment) (entries : List Pair) → Each (InSegment segment) (pairs_inside segment.span entries)
unfolding pairs_inside
pairs_taken segment entries = Each_filter_with (λ pair. Unit {0}) (InSegment segment) _ (λ pair any passes. passes) entries (Each_any entries)

-- the item found is placed
placed_at : (to number : ℕ) (outbox : List Item) (item : Item) → item_at to number outbox ≡ Some item → Each ItemPlaced outbox → ItemPlaced item
unfolding item_at
placed_at to number outbox item e insert_call = Each-find ItemPlaced (is_item to number) outbox item e insert_call

placed_without : (to number : ℕ) (outbox : List Item) → Each ItemPlaced outbox → Each ItemPlaced (outbox_without to number outbox)
unfolding outbox_without
placed_without to number outbox insert_call = Each-filter ItemPlaced _ outbox insert_call

-- the item of a handover that can be taken is placed
give_placed : (nodes : List Node) (handover : Handover) → ((number : ℕ) (node : Node) → node_at number nodes ≡ Some node → Placed node)
    → item_in nodes handover.from handover.to handover.number ≡ Some (item_from handover) → ItemPlaced (item_from handover)
give_placed nodes handover insert_call kept =
    let sender = sender_of (node_at handover.from nodes) handover.to handover.number (item_from handover) kept in
    placed_at handover.to handover.number sender.0.outbox (item_from handover) sender.2 (insert_call handover.from sender.0 sender.1).outbox

-- every step of a node keeps it placed
pub placed_step : (nodes : List Node) (sent : List Message) (node : Node) (taken : Option Message) (after : Node) (out : Option Message) (did : Option Done)
    → Sound nodes sent → ((number : ℕ) (node : Node) → node_at number nodes ≡ Some node → Placed node)
    → node_at node.number nodes ≡ Some node → WasSent sent taken → NodeStep node taken after out did → Placed after
placed_step nodes sent node taken after out did sound insert_call at was (Tells_again ask segment done found past) = insert_call node.number node at
placed_step nodes sent node taken after out did sound insert_call at was (Drops_seen ask segment found past) = insert_call node.number node at
placed_step nodes sent node taken after out did sound insert_call at was (Executes ask segment found past) =
    let p = insert_call node.number node at in
    let done : Done = done_of ask (reply_to ask.request node.entries) in
    let held' = append_at (id_of ask.request) done ask.floor node.held in
    let same : (x : ℕ) → x < 2 ^ 128 → count (has x) held' ≡ count (has x) node.held = λ x x_in. count-append_at x (id_of ask.request) done ask.floor node.held in
    record {
      entries = Each-pairs_after (InHeld held') ask.request node.entries
          (λ value. let e = same (id_of ask.request) (key_id-below (key_of ask.request)) in let c = segment_with_counts (id_of ask.request) node.held segment found in omega arith)
          (entries_kept node.held held' node.entries same p.entries);
      kept = kept_append_at done ask.floor node.held p.kept;
      outbox = p.outbox;
    }
placed_step nodes sent node taken after out did sound insert_call at was (Answers_full ask segment found past added full) = insert_call node.number node at
placed_step nodes sent node taken after out did sound insert_call at was (Forwards ask hops found fewer) = insert_call node.number node at
placed_step nodes sent node taken after out did sound insert_call at was (Drops ask found) = insert_call node.number node at
placed_step nodes sent node taken after out did sound insert_call at was (Got_again handover here seen) = insert_call node.number node at
placed_step nodes sent node taken after out did sound insert_call at was (Declines handover here calls_above gone) = insert_call node.number node at
placed_step nodes sent node taken after out did sound insert_call at was (Buffers part here next stays) =
    let p = insert_call node.number node at in record { entries = p.entries; kept = p.kept; outbox = p.outbox }
placed_step nodes sent node taken after out did sound insert_call at was (Takes part handover here next stays whole) =
    let p = insert_call node.number node at in
    let gone : gone_in nodes handover.to ≡ false = rw here (rw at (gone_test node.phase stays)) in
    let calls_above : taken_in nodes handover.to handover.from < handover.number = rw here (rw at (omega arith)) in
    let ok = whole_ok nodes sent sound.channels.messages part node.buffered handover was (sound.buffered node.number node at) whole gone calls_above in
    let item = give_placed nodes handover insert_call (ok.kept gone calls_above) in
    record {
      entries = entries_more node.held handover.segment handover.pairs node.entries item.pairs p.entries;
      kept = Each_push KeptInside node.held handover.segment p.kept item.kept;
      outbox = p.outbox;
    }
placed_step nodes sent node taken after out did sound insert_call at was (Waits handover here calls_above stays) = insert_call node.number node at
placed_step nodes sent node taken after out did sound insert_call at was (Frees ticket here) =
    let p = insert_call node.number node at in
    record { entries = p.entries; kept = p.kept; outbox = placed_without ticket.to ticket.number node.outbox p.outbox }
placed_step nodes sent node taken after out did sound insert_call at was (Takes_back ticket item here found) =
    let p = insert_call node.number node at in
    let back = placed_at ticket.to ticket.number node.outbox item found p.outbox in
    record {
      entries = entries_more node.held item.segment item.pairs node.entries back.pairs p.entries;
      kept = Each_push KeptInside node.held item.segment p.kept back.kept;
      outbox = placed_without item.to item.number node.outbox p.outbox;
    }
placed_step nodes sent node taken after out did sound insert_call at was (Keeps ticket here) = insert_call node.number node at
placed_step nodes sent node taken after out did sound insert_call at was (Cuts place segment cut found circle inside) =
    let p = insert_call node.number node at in
    let on = Each-slice_get SegmentOn node.held place segment found (sound.locals node.number node at).held_on in
    record {
      entries = entries_kept node.held (cut_held place segment cut node.held) node.entries (λ x x_in. count-cut x place segment cut node.held x_in on circle found inside) p.entries;
      kept = Each-insert KeptInside _ (place + 1) (part_behind cut segment)
          (Each-set KeptInside node.held place (part_before cut segment) p.kept (kept_inside _ segment.floors segment.kept)) (kept_inside _ segment.floors segment.kept);
      outbox = p.outbox;
    }
placed_step nodes sent node taken after out did sound insert_call at was (Joins place first place_behind second found found' apart meet cut) =
    let p = insert_call node.number node at in
    let local = sound.locals node.number node at in
    let on = Each-slice_get SegmentOn node.held place first found local.held_on in
    let on' = Each-slice_get SegmentOn node.held place_behind second found' local.held_on in
    let kept = Each-slice_get KeptInside node.held place first found p.kept in
    let kept' = Each-slice_get KeptInside node.held place_behind second found' p.kept in
    record {
      entries = entries_kept node.held (joined_held place first place_behind second node.held) node.entries
          (λ x x_in. count-join x place first place_behind second node.held x_in on on' found found' apart meet cut) p.entries;
      kept = Each-remove KeptInside _ place_behind (Each-set KeptInside node.held place _ p.kept (kept_joined first second on on' meet cut kept kept'));
      outbox = p.outbox;
    }
placed_step nodes sent node taken after out did sound insert_call at was (Gives place segment to found) =
    let p = insert_call node.number node at in
    record {
      entries = entries_less node.held place segment node.entries found p.entries;
      kept = Each-remove KeptInside node.held place p.kept;
      outbox = Each_push ItemPlaced node.outbox (item_of segment to node) p.outbox
          (record { pairs = pairs_taken segment node.entries; kept = Each-slice_get KeptInside node.held place segment found p.kept });
    }
placed_step nodes sent node taken after out did sound insert_call at was (Gives_again to number place item found from below) = insert_call node.number node at
placed_step nodes sent node taken after out did sound insert_call at was (Links_change links same) =
    let p = insert_call node.number node at in record { entries = p.entries; kept = p.kept; outbox = p.outbox }
placed_step nodes sent node taken after out did sound insert_call at was (Leaves stays) =
    let p = insert_call node.number node at in record { entries = p.entries; kept = p.kept; outbox = p.outbox }
placed_step nodes sent node taken after out did sound insert_call at was (Retires leaves held outbox) =
    let p = insert_call node.number node at in record { entries = p.entries; kept = p.kept; outbox = p.outbox }
