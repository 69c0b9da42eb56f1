use Rattle.std.proofs.Common.{◌≡◌, length}
use Rattle.chord_resp.specs.Table.{first_named, all_verbs}
use Rattle.chord_resp.proofs.table.verb.Verb.of_name.Given as goal

abbrev pub invariant-loop-verbs : goal.invariant-loop-verbs
invariant-loop-verbs l = first_named l.bytes l.verbs ≡ first_named l.bytes all_verbs

abbrev pub decreases-loop-verbs : goal.decreases-loop-verbs
decreases-loop-verbs l = length l.verbs
