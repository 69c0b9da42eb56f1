use Rattle.std.proofs.Common.{◌≡◌, take}
use Rattle.chord_resp_serve.specs.Asking.{retrieves}
use Rattle.chord_resp_serve.proofs.requests.retrieves.Given as goal

abbrev pub invariant-loop-key : goal.invariant-loop-key
invariant-loop-key l = l.all.items ≡ retrieves (take l.key-index l.keys)
