use Rattle.std.proofs.Common.{◌≡◌, take}
use Rattle.chord_resp_serve.specs.Asking.{removes}
use Rattle.chord_resp_serve.proofs.requests.removes.Given as goal

abbrev pub invariant-loop-member : goal.invariant-loop-member
invariant-loop-member l = l.all.items ≡ removes l.key (take l.member-index l.members)
