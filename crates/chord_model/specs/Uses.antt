-- Which rules a run uses, and in how many parts each handover that it takes was sent.
use Rattle.std.specs.Prelude.{ℕ, Option, List, [], ◌∷◌, ◌++◌}
use Rattle.chord_caller.specs.Caller.{Letter, Caller, CallerStep}
use Rattle.chord_handover.specs.Handover.{parts_in}
use Rattle.chord_model.specs.declared.message.Message.{Message}
use Rattle.chord_model.specs.Node.{Node, NodeStep}
use Rattle.chord_model.specs.World.{World, WorldStep, Run}
use Rattle.chord_map.specs.declared.done.Done.{Done}

-- the rules of a node's step
pub data NodeRule : Type 0 where
  Tells_again : NodeRule
  Drops_seen : NodeRule
  Executes : NodeRule
  Answers_full : NodeRule
  Forwards : NodeRule
  Drops : NodeRule
  Got_again : NodeRule
  Declines : NodeRule
  Buffers : NodeRule
  Takes : NodeRule
  Waits : NodeRule
  Frees : NodeRule
  Takes_back : NodeRule
  Keeps : NodeRule
  Cuts : NodeRule
  Joins : NodeRule
  Gives : NodeRule
  Gives_again : NodeRule
  Links_change : NodeRule
  Leaves : NodeRule
  Retires : NodeRule

-- the rules of a caller's step
pub data CallerRule : Type 0 where
  Submits : CallerRule
  Repeats : CallerRule
  Takes : CallerRule
  Gives_up : CallerRule
  Ignores : CallerRule
  Hears_full : CallerRule
  Shows : CallerRule
  Meets : CallerRule

-- the rules of a world's step
pub data Rule : Type 0 where
  Creates : Rule
  Joins : Rule
  Opens : Rule
  ByCaller : (rule : CallerRule) → Rule
  ByNode : (rule : NodeRule) → Rule

abbrev pub node_rule : {old new : Node} {taken sent : Option Message} {done : Option Done} → NodeStep old taken new sent done → NodeRule
node_rule (NodeStep.Tells_again ask segment done found past) = NodeRule.Tells_again
node_rule (NodeStep.Drops_seen ask segment found past) = NodeRule.Drops_seen
node_rule (NodeStep.Executes ask segment found past) = NodeRule.Executes
node_rule (NodeStep.Answers_full ask segment found past adds full) = NodeRule.Answers_full
node_rule (NodeStep.Forwards ask hops found fewer) = NodeRule.Forwards
node_rule (NodeStep.Drops ask found) = NodeRule.Drops
node_rule (NodeStep.Got_again part here seen) = NodeRule.Got_again
node_rule (NodeStep.Declines part here above gone) = NodeRule.Declines
node_rule (NodeStep.Buffers part here next stays) = NodeRule.Buffers
node_rule (NodeStep.Takes part handover here next stays whole) = NodeRule.Takes
node_rule (NodeStep.Waits part here above stays) = NodeRule.Waits
node_rule (NodeStep.Frees ticket here) = NodeRule.Frees
node_rule (NodeStep.Takes_back ticket item here found) = NodeRule.Takes_back
node_rule (NodeStep.Keeps ticket here) = NodeRule.Keeps
node_rule (NodeStep.Cuts place segment at found circle inside) = NodeRule.Cuts
node_rule (NodeStep.Joins place first place_behind second found found' apart meet inside) = NodeRule.Joins
node_rule (NodeStep.Gives place segment to found) = NodeRule.Gives
node_rule (NodeStep.Gives_again to number part item found from below) = NodeRule.Gives_again
node_rule (NodeStep.Links_change links same) = NodeRule.Links_change
node_rule (NodeStep.Leaves stays) = NodeRule.Leaves
node_rule (NodeStep.Retires leaves held outbox) = NodeRule.Retires

abbrev pub caller_rule : {old new : Caller} {taken sent : Option Letter} → CallerStep old taken new sent → CallerRule
caller_rule (CallerStep.Submits request ask room sends) = CallerRule.Submits
caller_rule (CallerStep.Repeats number submission ask found pending sends) = CallerRule.Repeats
caller_rule (CallerStep.Takes told request fresh) = CallerRule.Takes
caller_rule (CallerStep.Gives_up number submission found pending) = CallerRule.Gives_up
caller_rule (CallerStep.Ignores told stale) = CallerRule.Ignores
caller_rule (CallerStep.Hears_full caller number) = CallerRule.Hears_full
caller_rule CallerStep.Shows = CallerRule.Shows
caller_rule (CallerStep.Meets note) = CallerRule.Meets

abbrev pub rule_of : {old new : World} → WorldStep old new → Rule
rule_of (WorldStep.Creates links limit circle none) = Rule.Creates
rule_of (WorldStep.Joins links limit circle some is_new) = Rule.Joins
rule_of (WorldStep.Opens number window low high is_new) = Rule.Opens
rule_of (WorldStep.Calls number caller after taken sent here was step) = Rule.ByCaller (caller_rule step)
rule_of (WorldStep.Acts number node after taken sent call here was step) = Rule.ByNode (node_rule step)

-- the rules of a run's steps, the last step's first
abbrev pub rules_of : {first last : World} → Run first last → List Rule
rules_of Run.Stays = []
rules_of (Run.Goes_on run step) = rule_of step ∷ rules_of run

-- the number of parts of the handover that a node takes in this step, if it takes one
abbrev pub parts_taken_by : {old new : Node} {taken sent : Option Message} {done : Option Done} → NodeStep old taken new sent done → List ℕ
parts_taken_by (NodeStep.Takes part handover here next stays whole) = parts_in handover.pairs ∷ []
parts_taken_by step = []

abbrev pub parts_taken_in : {old new : World} → WorldStep old new → List ℕ
parts_taken_in (WorldStep.Acts number node after taken sent call here was step) = parts_taken_by step
parts_taken_in step = []

-- the number of parts of each handover taken in a run, the last one's first
abbrev pub parts_taken_in_run : {first last : World} → Run first last → List ℕ
parts_taken_in_run Run.Stays = []
parts_taken_in_run (Run.Goes_on run step) = parts_taken_in step ++ parts_taken_in_run run
