use Rattle.std.proofs.Common.{◌≡◌, length}
use Rattle.chord_resp.specs.Quotes.{split_from, words_in}
use Rattle.chord_resp.proofs.reading.line.words_in.Given as goal

abbrev pub invariant-loop-rest : goal.invariant-loop-rest
invariant-loop-rest l = split_from l.splitter l.rest ≡ words_in l.line

abbrev pub decreases-loop-rest : goal.decreases-loop-rest
decreases-loop-rest l = length l.rest
