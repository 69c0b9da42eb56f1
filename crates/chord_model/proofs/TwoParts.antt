-- A run that takes a handover of two parts. First, enough callers put a value under one key that
-- the pairs of the whole circle do not fit into one part.
use Rattle.std.proofs.Common.{◌≡◌, ℕ, zero, suc, ◌<◌, ◌≤◌, cond, ◌&&◌, eqb, leb, ⊎_elim, Option, Some, None, List, [], ◌∷◌, ◌++◌, refl, sym, ◌∙◌, ap, ap₂, subst, arith, All, Contains}
use Rattle.std.proofs.lemmas.Bool.{ne_eqb, eq-eqb, cond-true, cond-false, cases_eq}
use Rattle.chord_caller.specs.declared.ask.Ask.{Ask}
use Rattle.chord_caller.specs.Caller.{Caller, floor_upto, with_request, CallerStep}
use Rattle.chord_caller.specs.Caller.Letter.{AskLetter}
use Rattle.chord_handover.specs.Handover.{Handover, Part, Item, parts_in, part_at, IsWhole, ticket_of, item_at, outbox_without, handover_of}
use Rattle.chord_ident.specs.Circle.{in_span, key_id}
use Rattle.chord_ident.proofs.Spans.{whole_circle}
use Rattle.chord_ident.proofs.Digest.{key_id-below}
use Rattle.chord_map.proofs.Lists.{all_each, contains_has, has_left, has_last, find_right}
use Rattle.chord_map.specs.declared.done.Done.{Done}
use Rattle.chord_map.specs.declared.pair.Pair.{Pair}
use Rattle.chord_map.specs.declared.request.Request.{Request}
use Rattle.chord_map.specs.declared.request.Request.TheVariants.{Insert}
use Rattle.chord_map.specs.Map.{reply_to, pairs_after, insert_pair}
use Rattle.chord_map.specs.History.{done_at}
use Rattle.chord_model.proofs.EveryRule.{five, whole, first_links, second_links, acted, called, holds_key, appends}
use Rattle.chord_model.specs.declared.message.Message.{Message}
use Rattle.chord_model.specs.declared.message.Message.TheVariants.{Ask as AskMessage, Told as ToldMessage, Part as PartMessage, Got as GotMessage}
use Rattle.chord_model.specs.Node.{Node, NodeStep, founder, newborn, append_at, told_of, done_of, with_executed, item_of, without_segment, with_taken}
use Rattle.chord_model.specs.Uses.{parts_taken_in_run}
use Rattle.chord_model.specs.World.{World, WorldStep, Reached, node_at, put_node, caller_at, put_caller}
use Rattle.chord_model.specs.World.Run.{Stays, Goes_on}
use Rattle.chord_segment.proofs.Lifting.{lifted_other}
use Rattle.chord_segment.proofs.SegmentRules.{find-placed_none, find-filter_none}
use Rattle.chord_segment.specs.declared.mark.Mark.{Mark}
use Rattle.chord_segment.specs.Marks.{mark_of, lift}
use Rattle.chord_segment.specs.Segment.{Segment, append, calls_above, insert_call, past_of, past_at}
use Rattle.chord_segment.specs.Segment.Past.{New, Seen}
use Rattle.chord_store.specs.Inside.{pairs_inside}
use Rattle.chord_model.proofs.Numbered.{callers_by}

-- ---- many callers have a value put under one key

abbrev key : List ℕ
key = 1 ∷ []

abbrev put : ℕ → Request
put n = Insert key (n ∷ [])

abbrev ask : ℕ → Ask
ask n = record { caller = n; number = 1; floor = 0; request = put n; hops = 255; above = omega arith; near = omega arith }

-- the entries after the first n of them
abbrev entries_of : ℕ → List Pair
entries_of zero = []
entries_of (suc n) = pairs_after (put n) (entries_of n)

abbrev done : ℕ → Done
done n = done_of (ask n) (reply_to (put n) (entries_of n))

-- a new caller, and that caller after its request
abbrev caller : ℕ → Caller
caller n = record { number = n; window = 1; submitted = []; mine = []; told = []; given_up = [] }

abbrev asking : ℕ → Caller
asking n = with_request (put n) (caller n)

-- a segment of the whole circle
abbrev wide : List Mark → List Done → Segment
wide floors kept = record { span = whole.span; floors = floors; kept = kept }

abbrev first : Node
first = founder first_links 100

-- the first node, with this segment alone
abbrev holding : Segment → List Pair → Node
holding segment entries = record first { held = segment ∷ []; entries = entries }

-- a reachable world with one node and the entries of the callers below n; no other callers exist,
-- and no call of theirs is kept
record Filled (n : ℕ) : Type 0 where
  pub floors : List Mark
  pub kept : List Done
  pub callers : List Caller
  pub sent : List Message
  pub history : List Done
  pub run : Reached (record { nodes = holding (wide floors kept) (entries_of n) ∷ []; callers = callers; sent = sent; history = history })
  pub no_floor : (number : ℕ) → n ≤ number → mark_of number floors ≡ 0
  pub no_call : (number : ℕ) → n ≤ number → done_at number 1 kept ≡ None
  pub no_caller : (number : ℕ) → n ≤ number → caller_at number callers ≡ None

-- the worlds as the next caller comes and asks
abbrev filled : (n : ℕ) → Filled n → World
filled n f = record { nodes = holding (wide f.floors f.kept) (entries_of n) ∷ []; callers = f.callers; sent = f.sent; history = f.history }

abbrev opened : (n : ℕ) → Filled n → World
opened n f = record (filled n f) { callers = f.callers ++ caller n ∷ [] }

abbrev asked : (n : ℕ) → Filled n → World
asked n f = called (asking n) (Some (AskLetter (ask n))) (opened n f)

opens : (n : ℕ) (f : Filled n) → WorldStep (filled n f) (opened n f)
opens n f = WorldStep.Opens n 1 (omega arith) (omega arith) (f.no_caller n (omega arith))

pushed_caller : (n : ℕ) (callers : List Caller) → caller_at n callers ≡ None → caller_at n (callers ++ caller n ∷ []) ≡ Some (caller n)
unfolding caller_at
pushed_caller n callers none =
    find_right _ callers (caller n ∷ []) none ∙ cond-true (eqb n n) (Some (caller n)) None (eq-eqb n n refl)

submits : (n : ℕ) (f : Filled n) → WorldStep (opened n f) (asked n f)
unfolding floor_upto
submits n f =
    WorldStep.Calls n (caller n) (asking n) None (Some (AskLetter (ask n))) (pushed_caller n f.callers (f.no_caller n (omega arith))) tt
    (CallerStep.Submits (put n) (ask n) (omega arith) (record { caller = refl; number = refl; floor = refl; request = refl; hops = refl }))

is_new : (n : ℕ) (segment : Segment) → mark_of n segment.floors ≡ 0 → done_at n 1 segment.kept ≡ None → past_at n 1 segment ≡ New
unfolding past_at
is_new n segment low none = ap₂ (λ (mark : ℕ) (found : Option Done). cond (leb 1 mark) Seen (past_of found)) low none

abbrev floors_after : (n : ℕ) → Filled n → List Mark
floors_after n f = lift n 0 f.floors

abbrev kept_after : (n : ℕ) → Filled n → List Done
kept_after n f = calls_above (floors_after n f) (insert_call (done n) f.kept)

abbrev did : (n : ℕ) → Filled n → World
did n f = record {
  nodes = holding (wide (floors_after n f) (kept_after n f)) (entries_of (suc n)) ∷ [];
  callers = put_caller (asking n) (f.callers ++ caller n ∷ []);
  sent = (f.sent ++ AskMessage (ask n) ∷ []) ++ ToldMessage (told_of (ask n) (reply_to (put n) (entries_of n))) ∷ [];
  history = f.history ++ done n ∷ [];
}

held_after : (n : ℕ) (f : Filled n) → append_at (key_id key) (done n) 0 (wide f.floors f.kept ∷ []) ≡ wide (floors_after n f) (kept_after n f) ∷ []
unfolding append
held_after n f = appends key (done n) 0 (wide f.floors f.kept) (wide f.floors f.kept ∷ []) refl refl

executes : (n : ℕ) (f : Filled n) → WorldStep (asked n f) (did n f)
unfolding node_at put_node
executes n f =
    let segment : Segment = wide f.floors f.kept in
    let node : Node = holding segment (entries_of n) in
    subst (λ (held : List Segment). WorldStep (asked n f) (record (did n f) { nodes = record first { held = held; entries = entries_of (suc n) } ∷ [] }))
    (held_after n f)
    (WorldStep.Acts 0 node (with_executed (ask n) node) (Some (AskMessage (ask n))) _ _ refl (contains_has _ _ (has_last f.sent (AskMessage (ask n))))
    (NodeStep.Executes (ask n) segment (holds_key key segment node.held refl refl) (is_new n segment (f.no_floor n (omega arith)) (f.no_call n (omega arith)))))

no_call_after : (n : ℕ) (floors : List Mark) (kept : List Done) (number : ℕ) → n < number → done_at number 1 kept ≡ None → done_at number 1 (calls_above floors (insert_call (done n) kept)) ≡ None
unfolding done_at calls_above
no_call_after n floors kept number behind none =
    find-filter_none _ _ (insert_call (done n) kept)
    (find-placed_none _ kept (done n) none (ap (λ b. b && eqb 1 1) (ne_eqb n number (omega arith))))

no_caller_after : (n : ℕ) (callers : List Caller) (number : ℕ) → n < number → caller_at number callers ≡ None
    → caller_at number (put_caller (asking n) (callers ++ caller n ∷ [])) ≡ None
unfolding caller_at
no_caller_after n callers number behind none =
    callers_by.put_apart (asking n) (callers ++ caller n ∷ []) number (omega arith)
    ∙ find_right _ callers (caller n ∷ []) none ∙ cond-false (eqb n number) (Some (caller n)) None (ne_eqb n number (omega arith))

one_more : (n : ℕ) → Filled n → Filled (suc n)
one_more n f = record {
  floors = floors_after n f;
  kept = kept_after n f;
  callers = (did n f).callers;
  sent = (did n f).sent;
  history = (did n f).history;
  run = Goes_on (Goes_on (Goes_on f.run (opens n f)) (submits n f)) (executes n f);
  no_floor = λ number from. lifted_other number n 0 f.floors (omega arith) ∙ f.no_floor number (omega arith);
  no_call = λ number from. no_call_after n (floors_after n f) f.kept number (omega arith) (f.no_call number (omega arith));
  no_caller = λ number from. no_caller_after n f.callers number (omega arith) (f.no_caller number (omega arith));
}

none_yet : Filled 0
unfolding mark_of done_at caller_at
none_yet = record {
  floors = [];
  kept = [];
  callers = [];
  sent = [];
  history = [];
  run = Goes_on Stays (WorldStep.Creates first_links 100 (omega arith) refl);
  no_floor = λ number from. refl;
  no_call = λ number from. refl;
  no_caller = λ number from. refl;
}

fills : (n : ℕ) → Filled n
fills zero = none_yet
fills (suc n) = one_more n (fills n)

-- ---- the pairs are more than one part has

two_of_them : parts_in (entries_of 65) ≡ 2
unfolding pairs_after reply_to insert_pair
two_of_them = refl

-- every pair lies in the whole circle
all_inside : (pairs : List Pair) → pairs_inside whole.span pairs ≡ pairs
unfolding pairs_inside
all_inside [] = refl
all_inside (pair ∷ pairs) =
    cond-true (in_span whole.span (key_id pair.key)) (pair ∷ pairs_inside whole.span pairs) (pairs_inside whole.span pairs)
    (whole_circle five (key_id pair.key) (omega arith) (key_id-below pair.key))
    ∙ ap (λ rest. pair ∷ rest) (all_inside pairs)

-- ---- and then the first node gives the whole circle to the second

-- a world in which the first node is alone: its segment and entries, and what else there is
record Start : Type 0 where
  pub segment : Segment
  pub entries : List Pair
  pub callers : List Caller
  pub sent : List Message
  pub history : List Done

abbrev alone_in : Start → World
alone_in start = record { nodes = holding start.segment start.entries ∷ []; callers = start.callers; sent = start.sent; history = start.history }

abbrev giver : Start → Node
giver start = holding start.segment start.entries

abbrev second : Node
second = newborn second_links 100

abbrev item : Start → Item
item start = item_of start.segment 1 (giver start)

abbrev handover : Start → Handover
handover start = handover_of 0 (item start)

abbrev part : Start → ℕ → Part
part start place = part_at (handover start) place

-- its pairs fill two parts
abbrev InTwo : Start → Type 0
InTwo start = parts_in (item start).pairs ≡ 2

abbrev gave : Start → Node
gave start = without_segment 0 start.segment 1 (giver start)

abbrev freed : Start → Node
freed start = record (gave start) { outbox = outbox_without 1 1 (gave start).outbox }

abbrev recording : Start → Node
recording start = record second { buffered = part start 1 ∷ [] }

abbrev taking : Start → Node
taking start = with_taken (handover start) (recording start)

-- ---- the worlds, one after another

abbrev joined : Start → World
joined start = record (alone_in start) { nodes = (alone_in start).nodes ++ second ∷ [] }

abbrev given : Start → World
given start = acted (gave start) (Some (PartMessage (part start 1))) None (joined start)

abbrev given_more : Start → World
given_more start = acted (gave start) (Some (PartMessage (part start 2))) None (given start)

abbrev buffered : Start → World
buffered start = acted (recording start) None None (given_more start)

abbrev taken : Start → World
taken start = acted (taking start) (Some (GotMessage (ticket_of (handover start)))) None (buffered start)

abbrev last : Start → World
last start = acted (freed start) None None (taken start)

-- ---- the steps

joins : (start : Start) → WorldStep (alone_in start) (joined start)
unfolding node_at
joins start = WorldStep.Joins second_links 100 (omega arith) (λ e. cc) refl

gives : (start : Start) → WorldStep (joined start) (given start)
unfolding node_at put_node mark_of
gives start = WorldStep.Acts 0 (giver start) (gave start) None (Some (PartMessage (part start 1))) None refl tt (NodeStep.Gives 0 start.segment 1 refl)

gives_more : (start : Start) → InTwo start → WorldStep (given start) (given_more start)
unfolding node_at put_node item_at mark_of
gives_more start two =
    WorldStep.Acts 0 (gave start) (gave start) None (Some (PartMessage (part start 2))) None refl tt
    (NodeStep.Gives_again 1 1 2 (item start) refl (omega arith) (subst (λ (most : ℕ). 2 ≤ most) (sym two) (omega arith)))

notes : (start : Start) → WorldStep (given_more start) (buffered start)
unfolding node_at put_node mark_of
notes start =
    WorldStep.Acts 1 second (recording start) (Some (PartMessage (part start 1))) None None refl
    (contains_has _ _ (has_left _ _ _ (has_last start.sent (PartMessage (part start 1)))))
    (NodeStep.Buffers (part start 1) refl refl (λ e. cc))

is_whole : (start : Start) → InTwo start → IsWhole (part start 1 ∷ part start 2 ∷ []) (handover start)
is_whole start two = record {
  each = all_each _ (part start 1 ∷ part start 2 ∷ []) (λ other h.
      ⊎_elim (λ e. subst (λ (p : Part). p ≡ part start p.place) e refl)
      (λ more. ⊎_elim (λ e. subst (λ (p : Part). p ≡ part start p.place) e refl) (λ none. absurd none) more) h);
  all = λ place from upto.
      let within : place ≤ 2 = subst (λ (most : ℕ). place ≤ most) two upto in
      ⊎_elim
      (λ low. (0, omega arith, ap (part start) (sym low)))
      (λ apart. let high : 2 ≡ place = omega arith in (1, omega arith, ap (part start) high))
      (cases_eq place 1);
}

takes : (start : Start) → InTwo start → WorldStep (buffered start) (taken start)
unfolding node_at put_node mark_of
takes start two =
    WorldStep.Acts 1 (recording start) (taking start) (Some (PartMessage (part start 2))) _ None refl
    (contains_has _ _ (has_last _ (PartMessage (part start 2))))
    (NodeStep.Takes (part start 2) (handover start) refl refl (λ e. cc) (is_whole start two))

frees : (start : Start) → WorldStep (taken start) (last start)
unfolding node_at put_node mark_of
frees start =
    WorldStep.Acts 0 (gave start) (freed start) (Some (GotMessage (ticket_of (handover start)))) None None refl
    (contains_has _ _ (has_last _ (GotMessage (ticket_of (handover start)))))
    (NodeStep.Frees (ticket_of (handover start)) refl)

none_left : (start : Start) → All (λ (node : Node). node.outbox ≡ []) (last start).nodes
unfolding put_node mark_of outbox_without
none_left start =
    all_each _ (freed start ∷ taking start ∷ []) (λ node h.
    ⊎_elim (λ e. subst (λ (n : Node). n.outbox ≡ []) e refl)
    (λ more. ⊎_elim (λ e. subst (λ (n : Node). n.outbox ≡ []) e refl) (λ none. absurd none) more) h)

-- ---- the run

from_there : (start : Start) → InTwo start → Reached (alone_in start)
    → (world : World) × (run : Reached world) × Contains (parts_taken_in_run run) 2 × All (λ (node : Node). node.outbox ≡ []) world.nodes
unfolding takes frees
from_there start two run = (
  last start,
  Goes_on (Goes_on (Goes_on (Goes_on (Goes_on (Goes_on run (joins start)) (gives start)) (gives_more start two)) (notes start)) (takes start two)) (frees start),
  (0, omega arith, two),
  none_left start,
)

pub ran : (world : World) × (run : Reached world) × Contains (parts_taken_in_run run) 2 × All (λ (node : Node). node.outbox ≡ []) world.nodes
ran =
    let f : Filled 65 = fills 65 in
    from_there (record { segment = wide f.floors f.kept; entries = entries_of 65; callers = f.callers; sent = f.sent; history = f.history })
    (ap parts_in (all_inside (entries_of 65)) ∙ two_of_them) f.run
