-- A run that uses every rule: one handover is taken, one is declined, calls are executed, and one
-- that a full store refused is given up.
use Rattle.std.proofs.Common.{◌≡◌, ℕ, cond, ⊎_elim, Option, Some, None, List, [], ◌∷◌, ◌++◌, refl, ◌∙◌, ap, subst, arith, Contains}
use Rattle.std.specs.Prelude.{slice_get}
use Rattle.chord_caller.specs.declared.ask.Ask.{Ask}
use Rattle.chord_caller.specs.declared.told.Told.{Told}
use Rattle.chord_caller.specs.Caller.{Caller, Letter, Note, is_taken, is_settled, floor_upto, with_request, with_reply, with_given_up, fresh_for, known_calls, unknown_calls, CallerStep}
use Rattle.chord_caller.specs.Caller.Letter.{AskLetter, ToldLetter, FullLetter, NoteLetter}
use Rattle.chord_handover.specs.Handover.{Handover, Part, Item, part_at, IsWhole, ticket_of, item_at, outbox_without, handover_of}
use Rattle.chord_ident.specs.declared.id.Id.{Id}
use Rattle.chord_ident.specs.Circle.{distance, walk, in_span, cuts, key_id}
use Rattle.chord_ident.proofs.Spans.{whole_circle}
use Rattle.chord_ident.proofs.Digest.{key_id-below}
use Rattle.chord_links.specs.NodeLinks.{NodeLinks, alone}
use Rattle.chord_map.proofs.Lists.{all_each}
use Rattle.chord_map.specs.declared.request.Request.{Request}
use Rattle.chord_map.specs.declared.request.Request.TheVariants.{Insert, Retrieve}
use Rattle.chord_map.specs.Map.{reply_to, pairs_after, insert_pair, put_all}
use Rattle.chord_model.specs.declared.message.Message.{Message}
use Rattle.chord_model.specs.declared.message.Message.TheVariants.{Ask as AskMessage, Told as ToldMessage, Full as FullMessage, Part as PartMessage, Got as GotMessage, Declined as DeclinedMessage}
use Rattle.chord_model.specs.declared.phase.Phase.TheVariants.{Leaving, Gone}
use Rattle.chord_model.specs.Letters.{letter_sent}
use Rattle.chord_model.specs.Node.{Node, NodeStep, founder, newborn, segment_with, append_at, told_of, done_of, with_executed, item_of, without_segment, with_taken, with_back, cut_held, joined_held}
use Rattle.chord_model.specs.Uses.{NodeRule, CallerRule, Rule, rule_of, rules_of}
use Rattle.chord_model.specs.World.{World, WorldStep, Reached, empty_world, node_at, put_node, caller_at, put_caller, with_one}
use Rattle.chord_model.specs.World.Run.{Stays, Goes_on}
use Rattle.chord_map.specs.declared.done.Done.{Done}
use Rattle.chord_map.specs.History.{done_at}
use Rattle.chord_segment.specs.Marks.{mark_of, raise, lift}
use Rattle.chord_segment.specs.Segment.{Segment, append, calls_above, insert_call, part_before, part_behind, past_at, empty_segment}
use Rattle.chord_store.specs.Inside.{pairs_inside, pairs_outside}

-- a step by this rule
abbrev Used : Rule → World → World → Type 0
Used rule old new = (step : WorldStep old new) × (rule_of step ≡ rule)

-- the world after a step of a node, and of a caller
abbrev pub acted : Node → Option Message → Option Done → World → World
acted after sent done old = record old { nodes = put_node after old.nodes; sent = with_one old.sent sent; history = with_one old.history done }

abbrev pub called : Caller → Option Letter → World → World
called after sent old = record old { callers = put_caller after old.callers; sent = with_one old.sent (letter_sent sent) }

-- ---- the first node gives the whole circle to the second, and is gone

abbrev pub five : Id
five = record { number = 5 }

abbrev nine : Id
nine = record { number = 9 }

abbrev pub whole : Segment
whole = empty_segment (record { after = five; upto = five })

abbrev pub first_links : NodeLinks
first_links = alone (record { number = 0; id = five }) 3

abbrev pub second_links : NodeLinks
second_links = alone (record { number = 1; id = nine }) 3

abbrev first : Node
first = founder first_links 10

abbrev second : Node
second = newborn second_links 1

abbrev item : Item
item = item_of whole 1 first

abbrev handover : Handover
handover = handover_of 0 item

abbrev part : Part
part = part_at handover 1

abbrev first_gave : Node
first_gave = without_segment 0 whole 1 first

abbrev first_freed : Node
first_freed = record first_gave { outbox = outbox_without 1 handover.number first_gave.outbox }

abbrev first_leaving : Node
first_leaving = record first_freed { phase = Leaving }

abbrev first_gone : Node
first_gone = record first_leaving { phase = Gone; limit = 0; buffered = [] }

abbrev recording : Node
recording = record second { buffered = second.buffered ++ part ∷ [] }

abbrev taking : Node
taking = with_taken handover recording

-- the second gives its segment back, too late, and takes it back
abbrev late_item : Item
late_item = item_of whole 0 taking

abbrev late : Handover
late = handover_of 1 late_item

abbrev gave_late : Node
gave_late = without_segment 0 whole 0 taking

abbrev holding : Node
holding = with_back late_item gave_late

-- ---- the caller's three calls

abbrev key : List ℕ
key = 1 ∷ []

abbrev put : Request
put = Insert key (2 ∷ [])

abbrev put_more : Request
put_more = Insert (3 ∷ []) (4 ∷ [])

abbrev get : Request
get = Retrieve key

abbrev caller : Caller
caller = record { number = 7; window = 2; submitted = []; mine = []; told = []; given_up = [] }

abbrev ask_put : Ask
ask_put = record { caller = 7; number = 1; floor = 0; request = put; hops = 255; above = omega arith; near = omega arith }

abbrev ask_more : Ask
ask_more = record { caller = 7; number = 2; floor = 1; request = put_more; hops = 255; above = omega arith; near = omega arith }

abbrev ask_get : Ask
ask_get = record { caller = 7; number = 3; floor = 2; request = get; hops = 255; above = omega arith; near = omega arith }

abbrev done_put : Done
done_put = done_of ask_put (reply_to put holding.entries)

abbrev told_put : Told
told_put = told_of ask_put (reply_to put holding.entries)

abbrev after_put : Node
after_put = with_executed ask_put holding

abbrev done_get : Done
done_get = done_of ask_get (reply_to get after_put.entries)

abbrev after_get : Node
after_get = with_executed ask_get after_put

abbrev submitted : Caller
submitted = with_request put caller

abbrev heard : Caller
heard = with_reply told_put put submitted

abbrev submitted_more : Caller
submitted_more = with_request put_more heard

abbrev gave_up : Caller
gave_up = with_given_up 2 submitted_more

abbrev submitted_get : Caller
submitted_get = with_request get gave_up

abbrev note : Note
note = record { caller = 7; done = known_calls submitted_get }

abbrev met : Caller
met = record submitted_get { told = submitted_get.told ++ unknown_calls submitted_get note.done }

-- ---- what the second node holds then

abbrev with_put : Segment
with_put = append done_put 0 whole

abbrev with_get : Segment
with_get = append done_get 2 with_put

-- a segment of the whole circle has each key
pub holds_key : (key : List ℕ) (segment : Segment) (held : List Segment) → held ≡ segment ∷ [] → segment.span ≡ whole.span → segment_with (key_id key) held ≡ Some segment
unfolding segment_with
holds_key key segment held one all =
    ap (segment_with (key_id key)) one ∙ ap (λ b. cond b (Some segment) None) (ap (λ span. in_span span (key_id key)) all ∙ whole_circle five (key_id key) (omega arith) (key_id-below key))

pub appends : (key : List ℕ) (done : Done) (floor : ℕ) (segment : Segment) (held : List Segment) → held ≡ segment ∷ [] → segment.span ≡ whole.span
    → append_at (key_id key) done floor held ≡ append done floor segment ∷ []
unfolding append_at
appends key done floor segment held one all =
    ap (append_at (key_id key) done floor) one
    ∙ ap (λ b. cond b (append done floor segment ∷ []) (segment ∷ [])) (ap (λ span. in_span span (key_id key)) all ∙ whole_circle five (key_id key) (omega arith) (key_id-below key))

span_put : with_put.span ≡ whole.span
unfolding append
span_put = refl

span_get : with_get.span ≡ whole.span
unfolding append
span_get = refl

held_put : after_put.held ≡ with_put ∷ []
held_put = appends key done_put 0 whole holding.held refl refl

held_get : after_get.held ≡ with_get ∷ []
held_get = appends key done_get 2 with_put after_put.held held_put span_put

-- ---- the worlds, one after another

abbrev created : World
created = record empty_world { nodes = first ∷ [] }

abbrev joined : World
joined = record created { nodes = created.nodes ++ second ∷ [] }

abbrev opened : World
opened = record joined { callers = joined.callers ++ caller ∷ [] }

abbrev asked : World
asked = called submitted (Some (AskLetter ask_put)) opened

abbrev forwarded : World
forwarded = acted second (Some (AskMessage (record ask_put { hops = 254 }))) None asked

abbrev dropped : World
dropped = acted second None None forwarded

abbrev linked : World
linked = acted first None None dropped

abbrev given : World
given = acted first_gave (Some (PartMessage part)) None linked

abbrev given_again : World
given_again = acted first_gave (Some (PartMessage part)) None given

abbrev waited : World
waited = acted second None None given_again

abbrev buffered : World
buffered = acted recording None None waited

abbrev taken : World
taken = acted taking (Some (GotMessage (ticket_of handover))) None buffered

abbrev got_again : World
got_again = acted taking (Some (GotMessage (ticket_of handover))) None taken

abbrev freed : World
freed = acted first_freed None None got_again

abbrev leaving : World
leaving = acted first_leaving None None freed

abbrev retired : World
retired = acted first_gone None None leaving

abbrev given_late : World
given_late = acted gave_late (Some (PartMessage (part_at late 1))) None retired

abbrev declined : World
declined = acted first_gone (Some (DeclinedMessage (ticket_of late))) None given_late

abbrev taken_back : World
taken_back = acted holding None None declined

abbrev kept : World
kept = acted holding None None taken_back

abbrev did_put : World
did_put = acted after_put (Some (ToldMessage told_put)) (Some done_put) kept

abbrev told_again : World
told_again = acted after_put (Some (ToldMessage told_put)) None did_put

abbrev heard_put : World
heard_put = called heard None told_again

abbrev ignored : World
ignored = called heard None heard_put

abbrev asked_more : World
asked_more = called submitted_more (Some (AskLetter ask_more)) ignored

abbrev repeated : World
repeated = called submitted_more (Some (AskLetter ask_more)) asked_more

abbrev full : World
full = acted after_put (Some (FullMessage 7 2)) None repeated

abbrev heard_full : World
heard_full = called submitted_more None full

abbrev gave_up_more : World
gave_up_more = called gave_up None heard_full

abbrev asked_get : World
asked_get = called submitted_get (Some (AskLetter ask_get)) gave_up_more

abbrev did_get : World
did_get = acted after_get (Some (ToldMessage (told_of ask_get (reply_to get after_put.entries)))) (Some done_get) asked_get

abbrev seen : World
seen = acted after_get None None did_get

abbrev shown : World
shown = called submitted_get (Some (NoteLetter note)) seen

abbrev met_note : World
met_note = called met None shown

abbrev cut : Node
cut = record after_get { held = cut_held 0 with_get nine after_get.held }

abbrev cut_there : World
cut_there = acted cut None None met_note

abbrev merged : Node
merged = record cut { held = joined_held 0 (part_before nine with_get) 1 (part_behind nine with_get) cut.held }

abbrev last : World
last = acted merged None None cut_there

-- ---- the steps

creates : Used Rule.Creates empty_world created
creates = (WorldStep.Creates first_links 10 (omega arith) refl, refl)

joins : Used Rule.Joins created joined
unfolding node_at
joins = (WorldStep.Joins second_links 1 (omega arith) (λ e. cc) refl, refl)

opens : Used Rule.Opens joined opened
unfolding caller_at
opens = (WorldStep.Opens 7 2 (omega arith) (omega arith) refl, refl)

submits : Used (Rule.ByCaller CallerRule.Submits) opened asked
unfolding caller_at floor_upto
submits = (
  WorldStep.Calls 7 caller submitted None (Some (AskLetter ask_put)) refl tt
      (CallerStep.Submits put ask_put (omega arith) (record { caller = refl; number = refl; floor = refl; request = refl; hops = refl })),
  refl,
)

forwards : Used (Rule.ByNode NodeRule.Forwards) asked forwarded
unfolding node_at segment_with
forwards = (WorldStep.Acts 1 second second (Some (AskMessage ask_put)) _ None refl (0, omega arith, refl) (NodeStep.Forwards ask_put 254 refl (omega arith)), refl)

drops : Used (Rule.ByNode NodeRule.Drops) forwarded dropped
unfolding node_at put_node segment_with
drops = (WorldStep.Acts 1 second second (Some (AskMessage ask_put)) None None refl (0, omega arith, refl) (NodeStep.Drops ask_put refl), refl)

links_change : Used (Rule.ByNode NodeRule.Links_change) dropped linked
unfolding node_at put_node
links_change = (WorldStep.Acts 0 first first None None None refl tt (NodeStep.Links_change first_links refl), refl)

gives : Used (Rule.ByNode NodeRule.Gives) linked given
unfolding node_at put_node
gives = (WorldStep.Acts 0 first first_gave None (Some (PartMessage part)) None refl tt (NodeStep.Gives 0 whole 1 refl), refl)

gives_again : Used (Rule.ByNode NodeRule.Gives_again) given given_again
unfolding node_at put_node item_at mark_of pairs_inside
gives_again = (WorldStep.Acts 0 first_gave first_gave None (Some (PartMessage part)) None refl tt (NodeStep.Gives_again 1 1 1 item refl (omega arith) (omega arith)), refl)

waits : Used (Rule.ByNode NodeRule.Waits) given_again waited
unfolding node_at put_node mark_of
waits = (WorldStep.Acts 1 second second (Some (PartMessage part)) None None refl (2, omega arith, refl) (NodeStep.Waits part refl (omega arith) (λ e. cc)), refl)

notes : Used (Rule.ByNode NodeRule.Buffers) waited buffered
unfolding node_at put_node mark_of
notes = (WorldStep.Acts 1 second recording (Some (PartMessage part)) None None refl (2, omega arith, refl) (NodeStep.Buffers part refl refl (λ e. cc)), refl)

is_whole : IsWhole (part ∷ part ∷ []) handover
unfolding pairs_inside
is_whole = record {
  each = all_each _ (part ∷ part ∷ []) (λ other h.
      ⊎_elim (λ e. subst (λ (p : Part). p ≡ part_at handover p.place) e refl)
      (λ more. ⊎_elim (λ e. subst (λ (p : Part). p ≡ part_at handover p.place) e refl) (λ none. absurd none) more) h);
  all = λ place from below. let one : 1 ≡ place = omega arith in (0, omega arith, ap (part_at handover) one);
}

takes : Used (Rule.ByNode NodeRule.Takes) buffered taken
unfolding node_at put_node mark_of
takes = (WorldStep.Acts 1 recording taking (Some (PartMessage part)) _ None refl (2, omega arith, refl) (NodeStep.Takes part handover refl refl (λ e. cc) is_whole), refl)

takes_again : Used (Rule.ByNode NodeRule.Got_again) taken got_again
unfolding node_at put_node mark_of raise
takes_again = (WorldStep.Acts 1 taking taking (Some (PartMessage part)) _ None refl (2, omega arith, refl) (NodeStep.Got_again part refl (omega arith)), refl)

frees : Used (Rule.ByNode NodeRule.Frees) got_again freed
unfolding node_at put_node
frees = (WorldStep.Acts 0 first_gave first_freed (Some (GotMessage (ticket_of handover))) None None refl (4, omega arith, refl) (NodeStep.Frees (ticket_of handover) refl), refl)

leaves : Used (Rule.ByNode NodeRule.Leaves) freed leaving
unfolding node_at put_node
leaves = (WorldStep.Acts 0 first_freed first_leaving None None None refl tt (NodeStep.Leaves refl), refl)

retires : Used (Rule.ByNode NodeRule.Retires) leaving retired
unfolding node_at put_node outbox_without mark_of
retires = (WorldStep.Acts 0 first_leaving first_gone None None None refl tt (NodeStep.Retires refl refl refl), refl)

gives_late : Used (Rule.ByNode NodeRule.Gives) retired given_late
unfolding node_at put_node
gives_late = (WorldStep.Acts 1 taking gave_late None _ None refl tt (NodeStep.Gives 0 whole 0 refl), refl)

declines : Used (Rule.ByNode NodeRule.Declines) given_late declined
unfolding node_at put_node mark_of
declines = (WorldStep.Acts 0 first_gone first_gone (Some (PartMessage (part_at late 1))) _ None refl (6, omega arith, refl) (NodeStep.Declines (part_at late 1) refl (omega arith) refl), refl)

takes_back : Used (Rule.ByNode NodeRule.Takes_back) declined taken_back
unfolding node_at put_node item_at mark_of
takes_back = (WorldStep.Acts 1 gave_late holding (Some (DeclinedMessage (ticket_of late))) None None refl (7, omega arith, refl) (NodeStep.Takes_back (ticket_of late) late_item refl refl), refl)

keeps : Used (Rule.ByNode NodeRule.Keeps) taken_back kept
unfolding node_at put_node
keeps = (WorldStep.Acts 1 holding holding (Some (DeclinedMessage (ticket_of late))) None None refl (7, omega arith, refl) (NodeStep.Keeps (ticket_of late) refl), refl)

executes : Used (Rule.ByNode NodeRule.Executes) kept did_put
unfolding node_at put_node past_at mark_of done_at
executes = (
  WorldStep.Acts 1 holding after_put (Some (AskMessage ask_put)) _ _ refl (0, omega arith, refl)
      (NodeStep.Executes ask_put whole (holds_key key whole holding.held refl refl) refl),
  refl,
)

tells_again : Used (Rule.ByNode NodeRule.Tells_again) did_put told_again
unfolding node_at put_node past_at mark_of done_at append calls_above raise lift insert_call
tells_again = (
  WorldStep.Acts 1 after_put after_put (Some (AskMessage ask_put)) _ None refl (0, omega arith, refl)
      (NodeStep.Tells_again ask_put with_put done_put (holds_key key with_put after_put.held held_put span_put) refl),
  refl,
)

hears : Used (Rule.ByCaller CallerRule.Takes) told_again heard_put
unfolding caller_at put_caller fresh_for is_settled is_taken done_at reply_to put_all pairs_inside pairs_outside
hears = (WorldStep.Calls 7 submitted heard (Some (ToldLetter told_put)) None refl (8, omega arith, refl) (CallerStep.Takes told_put put refl), refl)

ignores : Used (Rule.ByCaller CallerRule.Ignores) heard_put ignored
unfolding caller_at put_caller fresh_for is_settled is_taken done_at
ignores = (WorldStep.Calls 7 heard heard (Some (ToldLetter told_put)) None refl (8, omega arith, refl) (CallerStep.Ignores told_put refl), refl)

submits_more : Used (Rule.ByCaller CallerRule.Submits) ignored asked_more
unfolding caller_at put_caller floor_upto is_settled is_taken done_at
submits_more = (
  WorldStep.Calls 7 heard submitted_more None (Some (AskLetter ask_more)) refl tt
      (CallerStep.Submits put_more ask_more (omega arith) (record { caller = refl; number = refl; floor = refl; request = refl; hops = refl })),
  refl,
)

repeats : Used (Rule.ByCaller CallerRule.Repeats) asked_more repeated
unfolding caller_at put_caller floor_upto is_settled is_taken done_at
repeats = (
  WorldStep.Calls 7 submitted_more submitted_more None (Some (AskLetter ask_more)) refl tt
      (CallerStep.Repeats 2 (record { request = put_more; mine_seen = 1; told_seen = 0 }) ask_more refl refl
      (record { caller = refl; number = refl; floor = refl; request = refl; hops = refl })),
  refl,
)

answers_full : Used (Rule.ByNode NodeRule.Answers_full) repeated full
unfolding node_at put_node past_at mark_of done_at append calls_above raise lift insert_call reply_to pairs_after insert_pair put_all pairs_inside pairs_outside
answers_full = (
  WorldStep.Acts 1 after_put after_put (Some (AskMessage ask_more)) _ None refl (10, omega arith, refl)
      (NodeStep.Answers_full ask_more with_put (holds_key (3 ∷ []) with_put after_put.held held_put span_put) refl refl (omega arith)),
  refl,
)

hears_full : Used (Rule.ByCaller CallerRule.Hears_full) full heard_full
unfolding caller_at put_caller
hears_full = (WorldStep.Calls 7 submitted_more submitted_more (Some (FullLetter 7 2)) None refl (12, omega arith, refl) (CallerStep.Hears_full 7 2), refl)

gives_up : Used (Rule.ByCaller CallerRule.Gives_up) heard_full gave_up_more
unfolding caller_at put_caller is_settled is_taken done_at
gives_up = (
  WorldStep.Calls 7 submitted_more gave_up None None refl tt (CallerStep.Gives_up 2 (record { request = put_more; mine_seen = 1; told_seen = 0 }) refl refl),
  refl,
)

submits_get : Used (Rule.ByCaller CallerRule.Submits) gave_up_more asked_get
unfolding caller_at put_caller floor_upto is_settled is_taken done_at
submits_get = (
  WorldStep.Calls 7 gave_up submitted_get None (Some (AskLetter ask_get)) refl tt
      (CallerStep.Submits get ask_get (omega arith) (record { caller = refl; number = refl; floor = refl; request = refl; hops = refl })),
  refl,
)

executes_get : Used (Rule.ByNode NodeRule.Executes) asked_get did_get
unfolding node_at put_node past_at mark_of done_at append calls_above raise lift insert_call
executes_get = (
  WorldStep.Acts 1 after_put after_get (Some (AskMessage ask_get)) _ _ refl (13, omega arith, refl)
      (NodeStep.Executes ask_get with_put (holds_key key with_put after_put.held held_put span_put) refl),
  refl,
)

drops_seen : Used (Rule.ByNode NodeRule.Drops_seen) did_get seen
unfolding node_at put_node past_at mark_of done_at append calls_above raise lift insert_call
drops_seen = (
  WorldStep.Acts 1 after_get after_get (Some (AskMessage ask_put)) None None refl (0, omega arith, refl)
      (NodeStep.Drops_seen ask_put with_get (holds_key key with_get after_get.held held_get span_get) refl),
  refl,
)

shows : Used (Rule.ByCaller CallerRule.Shows) seen shown
unfolding caller_at put_caller
shows = (WorldStep.Calls 7 submitted_get submitted_get None (Some (NoteLetter note)) refl tt CallerStep.Shows, refl)

meets : Used (Rule.ByCaller CallerRule.Meets) shown met_note
unfolding caller_at put_caller
meets = (WorldStep.Calls 7 submitted_get met (Some (NoteLetter note)) None refl (15, omega arith, refl) (CallerStep.Meets note), refl)

cuts_one : Used (Rule.ByNode NodeRule.Cuts) met_note cut_there
unfolding node_at put_node cuts in_span walk distance append
cuts_one = (
  WorldStep.Acts 1 after_get cut None None None refl tt
      (NodeStep.Cuts 0 with_get nine (ap (λ held. slice_get held 0) held_get) (omega arith) refl),
  refl,
)

joins_two : Used (Rule.ByNode NodeRule.Joins) cut_there last
unfolding node_at put_node cuts in_span walk distance append
joins_two = (
  WorldStep.Acts 1 cut merged None None None refl tt
      (NodeStep.Joins 0 (part_before nine with_get) 1 (part_behind nine with_get)
      (ap (λ held. slice_get (cut_held 0 with_get nine held) 0) held_get) (ap (λ held. slice_get (cut_held 0 with_get nine held) 1) held_get)
      (omega arith) refl refl),
  refl,
)

-- ---- the run

abbrev run : Reached last
run =
    Goes_on (Goes_on (Goes_on (Goes_on (Goes_on (Goes_on (Goes_on (Goes_on (Goes_on (Goes_on (Goes_on (Goes_on
    (Goes_on (Goes_on (Goes_on (Goes_on (Goes_on (Goes_on (Goes_on (Goes_on (Goes_on (Goes_on (Goes_on (Goes_on
    (Goes_on (Goes_on (Goes_on (Goes_on (Goes_on (Goes_on (Goes_on (Goes_on (Goes_on (Goes_on (Goes_on (Goes_on
    Stays
    creates.0) joins.0) opens.0) submits.0) forwards.0) drops.0) links_change.0) gives.0) gives_again.0) waits.0) notes.0)
    takes.0) takes_again.0) frees.0) leaves.0) retires.0) gives_late.0) declines.0) takes_back.0) keeps.0) executes.0) tells_again.0)
    hears.0) ignores.0) submits_more.0) repeats.0) answers_full.0) hears_full.0) gives_up.0) submits_get.0) executes_get.0) drops_seen.0)
    shows.0) meets.0) cuts_one.0) joins_two.0

by_caller : (rule : CallerRule) → Contains (rules_of run) (Rule.ByCaller rule)
by_caller CallerRule.Submits = (32, omega arith, submits.1)
by_caller CallerRule.Repeats = (10, omega arith, repeats.1)
by_caller CallerRule.Takes = (13, omega arith, hears.1)
by_caller CallerRule.Gives_up = (7, omega arith, gives_up.1)
by_caller CallerRule.Ignores = (12, omega arith, ignores.1)
by_caller CallerRule.Hears_full = (8, omega arith, hears_full.1)
by_caller CallerRule.Shows = (3, omega arith, shows.1)
by_caller CallerRule.Meets = (2, omega arith, meets.1)

by_node : (rule : NodeRule) → Contains (rules_of run) (Rule.ByNode rule)
by_node NodeRule.Tells_again = (14, omega arith, tells_again.1)
by_node NodeRule.Drops_seen = (4, omega arith, drops_seen.1)
by_node NodeRule.Executes = (15, omega arith, executes.1)
by_node NodeRule.Answers_full = (9, omega arith, answers_full.1)
by_node NodeRule.Forwards = (31, omega arith, forwards.1)
by_node NodeRule.Drops = (30, omega arith, drops.1)
by_node NodeRule.Got_again = (23, omega arith, takes_again.1)
by_node NodeRule.Declines = (18, omega arith, declines.1)
by_node NodeRule.Buffers = (25, omega arith, notes.1)
by_node NodeRule.Takes = (24, omega arith, takes.1)
by_node NodeRule.Waits = (26, omega arith, waits.1)
by_node NodeRule.Frees = (22, omega arith, frees.1)
by_node NodeRule.Takes_back = (17, omega arith, takes_back.1)
by_node NodeRule.Keeps = (16, omega arith, keeps.1)
by_node NodeRule.Cuts = (1, omega arith, cuts_one.1)
by_node NodeRule.Joins = (0, omega arith, joins_two.1)
by_node NodeRule.Gives = (28, omega arith, gives.1)
by_node NodeRule.Gives_again = (27, omega arith, gives_again.1)
by_node NodeRule.Links_change = (29, omega arith, links_change.1)
by_node NodeRule.Leaves = (21, omega arith, leaves.1)
by_node NodeRule.Retires = (20, omega arith, retires.1)

every : (rule : Rule) → Contains (rules_of run) rule
every Rule.Creates = (35, omega arith, creates.1)
every Rule.Joins = (34, omega arith, joins.1)
every Rule.Opens = (33, omega arith, opens.1)
every (Rule.ByCaller rule) = by_caller rule
every (Rule.ByNode rule) = by_node rule

pub ran : (world : World) × (run : Reached world) × ((rule : Rule) → Contains (rules_of run) rule)
ran = (last, run, every)
