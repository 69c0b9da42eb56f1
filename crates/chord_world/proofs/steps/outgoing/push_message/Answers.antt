use Rattle.std.proofs.Common.{ap, ◌∙◌, arith}
use Rattle.std.proofs.lemmas.List.{length-map, map-append}
use Rattle.chord_world.specs.declared.sent.Sent.{Sent}
use Rattle.chord_world.specs.State.{messages_of, targets_of}
use Rattle.chord_world.proofs.steps.outgoing.push_message.Goals as goal

pub returns : goal.returns
returns c = record {
  number = let count = length-map c.args.sent.now.items (λ (one : Sent). one.message) in omega arith;
  sent = ap messages_of c.push_reserved.ensures.items ∙ map-append (λ (one : Sent). one.message) c.args.sent.now.items _;
  targets = ap targets_of c.push_reserved.ensures.items ∙ map-append (λ (one : Sent). one.to) c.args.sent.now.items _;
}
