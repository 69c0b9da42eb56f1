use Rattle.std.proofs.Common.{◌≤◌, length, arith}
use Rattle.chord_resp.proofs.SpellingLaws.{skimmed}
use Rattle.chord_resp.proofs.reading.machine.Machine.skim_body.Goals as goal

pub returns-clause-read : goal.returns-clause-read
returns-clause-read c =
    let s = c.args.self.now in
    let n = c.min-count.result in
    let few : n ≤ c.args.left = grind (arith, c.min-count.ensures) in
    let there : n ≤ length c.args.bytes.now = grind (arith, c.min-count.ensures) in
    let read = skimmed s.left s.words s.partial c.args.length c.args.left n c.args.bytes.now few there in
    (there, grind (arith, read, c.requires, c.self.view_is, c.in_ok-keep.ensures.ok))
