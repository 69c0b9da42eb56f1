use Rattle.std.proofs.Common.{◌≡◌, map, take}
use Rattle.chord_resp_serve.specs.Answering.{membership}
use Rattle.chord_resp_serve.proofs.answer.memberships.Given as goal

abbrev pub invariant-loop-member : goal.invariant-loop-member
invariant-loop-member l = l.all.items ≡ map (membership l.values) (take l.member-index l.members)
