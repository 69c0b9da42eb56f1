use Rattle.std.proofs.Common.{◌≡◌, take}
use Rattle.chord_resp_serve.specs.Asking.{inserts}
use Rattle.chord_resp_serve.proofs.requests.inserts.Given as goal

abbrev pub invariant-loop-member : goal.invariant-loop-member
invariant-loop-member l = l.all.items ≡ inserts l.key (take l.member-index l.members)
