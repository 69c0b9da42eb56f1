use Rattle.std.proofs.Common.{◌≡◌, map}
use Rattle.chord_resp.specs.Machine.{word_of}
use Rattle.chord_resp.proofs.reading.line.as_words.Given as goal

abbrev pub invariant-loop-bytes : goal.invariant-loop-bytes
invariant-loop-bytes l = l.all.items ≡ map word_of l.yielded
