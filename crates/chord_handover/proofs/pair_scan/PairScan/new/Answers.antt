use Rattle.std.proofs.Common.{[], refl}
use Rattle.chord_handover.proofs.Payloads.{no_pairs}
use Rattle.chord_handover.proofs.pair_scan.PairScan.new.Goals as goal

pub returns : goal.returns
returns c = λ segment. record { rules = no_pairs segment [] refl; last = refl; count = refl }
