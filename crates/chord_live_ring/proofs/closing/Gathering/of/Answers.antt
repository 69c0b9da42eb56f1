use Rattle.std.proofs.Common.{length, ap, ◌∙◌}
use Rattle.std.proofs.lemmas.Option.{same_Some}
use Rattle.chord_live_ring.proofs.closing.Gathering.of.Goals as goal

pub invariant_of-result : goal.invariant_of-result
invariant_of-result g c = record {
  nodes_are = λ n is. c.requires.nodes ∙ same_Some c.args.held n is;
  callers_are = λ n is. ap length c.requires.callers ∙ same_Some 0 n is;
}
