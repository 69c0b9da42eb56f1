-- A run in which a call is executed, and its caller takes the reply.
use Rattle.std.proofs.Common.{◌≡◌, ◌≢◌, Some, None, [], ◌∷◌, refl, arith, Contains}
use Rattle.chord_caller.specs.declared.ask.Ask.{Ask}
use Rattle.chord_caller.specs.declared.told.Told.{Told}
use Rattle.chord_caller.specs.Caller.{Caller, is_taken, is_settled, floor_upto, with_request, with_reply, fresh_for, CallerStep}
use Rattle.chord_ident.specs.declared.id.Id.{Id}
use Rattle.chord_ident.specs.Circle.{key_id}
use Rattle.chord_ident.proofs.Spans.{whole_circle}
use Rattle.chord_ident.proofs.Digest.{key_id-below}
use Rattle.chord_caller.specs.Caller.Letter.{AskLetter, ToldLetter}
use Rattle.chord_map.specs.Map.{reply_to}
use Rattle.chord_map.specs.declared.request.Request.TheVariants.{Insert}
use Rattle.chord_model.specs.declared.message.Message.TheVariants.{Ask as AskMessage, Told as ToldMessage}
use Rattle.chord_links.specs.NodeLinks.{alone}
use Rattle.chord_model.specs.Node.{Node, founder, with_executed, segment_with, told_of, done_of, NodeStep}
use Rattle.chord_model.specs.World.{World, WorldStep, Reached, empty_world, node_at, put_node, caller_at, put_caller}
use Rattle.chord_model.specs.World.Run.{Stays, Goes_on}
use Rattle.chord_map.specs.History.{done_at}
use Rattle.chord_segment.specs.Marks.{mark_of}
use Rattle.chord_segment.specs.Segment.{past_at, empty_segment}

abbrev five : Id
five = record { number = 5 }

abbrev node : Node
node = founder (alone (record { number = 0; id = five }) 3) 10

held_here : segment_with (key_id (1 ∷ [])) node.held ≡ Some (empty_segment (record { after = five; upto = five }))
unfolding segment_with
held_here = rw (whole_circle five (key_id (1 ∷ [])) (omega arith) (key_id-below (1 ∷ []))) refl

abbrev caller : Caller
caller = record { number = 7; window = 1; submitted = []; mine = []; told = []; given_up = [] }

abbrev asked : Ask
asked = record { caller = 7; number = 1; floor = 0; request = Insert (1 ∷ []) (2 ∷ []); hops = 255; above = omega arith; near = omega arith }

abbrev told : Told
told = told_of asked (reply_to (Insert (1 ∷ []) (2 ∷ [])) [])

abbrev submitted : Caller
submitted = with_request (Insert (1 ∷ []) (2 ∷ [])) caller

first : WorldStep empty_world (record { nodes = node ∷ []; callers = []; sent = []; history = [] })
first = WorldStep.Creates (alone (record { number = 0; id = five }) 3) 10 (omega arith) refl

second : WorldStep (record { nodes = node ∷ []; callers = []; sent = []; history = [] }) (record { nodes = node ∷ []; callers = caller ∷ []; sent = []; history = [] })
unfolding caller_at
second = WorldStep.Opens 7 1 (omega arith) (omega arith) refl

third : WorldStep (record { nodes = node ∷ []; callers = caller ∷ []; sent = []; history = [] })
    (record { nodes = node ∷ []; callers = put_caller submitted (caller ∷ []); sent = AskMessage asked ∷ []; history = [] })
unfolding caller_at floor_upto
third = WorldStep.Calls 7 caller submitted None (Some (AskLetter asked)) refl tt (CallerStep.Submits (Insert (1 ∷ []) (2 ∷ [])) asked (omega arith) (record { caller = refl; number = refl; floor = refl; request = refl; hops = refl }))

fourth : WorldStep (record { nodes = node ∷ []; callers = put_caller submitted (caller ∷ []); sent = AskMessage asked ∷ []; history = [] })
    (record {
      nodes = put_node (with_executed asked node) (node ∷ []);
      callers = put_caller submitted (caller ∷ []);
      sent = AskMessage asked ∷ ToldMessage told ∷ [];
      history = done_of asked (reply_to (Insert (1 ∷ []) (2 ∷ [])) []) ∷ [];
    })
unfolding node_at past_at mark_of done_at
fourth = WorldStep.Acts 0 node (with_executed asked node) (Some (AskMessage asked)) (Some (ToldMessage told)) (Some (done_of asked (reply_to (Insert (1 ∷ []) (2 ∷ [])) [])))
    refl (0, omega arith, refl) (NodeStep.Executes asked (empty_segment (record { after = five; upto = five })) held_here refl)

fifth : WorldStep
    (record {
      nodes = put_node (with_executed asked node) (node ∷ []);
      callers = put_caller submitted (caller ∷ []);
      sent = AskMessage asked ∷ ToldMessage told ∷ [];
      history = done_of asked (reply_to (Insert (1 ∷ []) (2 ∷ [])) []) ∷ [];
    })
    (record {
      nodes = put_node (with_executed asked node) (node ∷ []);
      callers = put_caller (with_reply told (Insert (1 ∷ []) (2 ∷ [])) submitted) (put_caller submitted (caller ∷ []));
      sent = AskMessage asked ∷ ToldMessage told ∷ [];
      history = done_of asked (reply_to (Insert (1 ∷ []) (2 ∷ [])) []) ∷ [];
    })
unfolding caller_at put_caller fresh_for is_settled is_taken done_at reply_to
fifth = WorldStep.Calls 7 submitted (with_reply told (Insert (1 ∷ []) (2 ∷ [])) submitted) (Some (ToldLetter told)) None
    refl (1, omega arith, refl) (CallerStep.Takes told (Insert (1 ∷ []) (2 ∷ [])) refl)

pub ran : (world : World) × Reached world × (world.history ≢ []) × ((caller : Caller) × Contains world.callers caller × (caller.mine ≢ []))
unfolding put_caller
ran = (_, Goes_on (Goes_on (Goes_on (Goes_on (Goes_on Stays first) second) third) fourth) fifth, (λ e. cc), (_, (0, omega arith, refl), (λ e. cc)))
