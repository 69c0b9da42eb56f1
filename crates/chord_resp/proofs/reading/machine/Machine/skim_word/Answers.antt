use Rattle.chord_resp.proofs.WordEnds.{skims_on}
use Rattle.chord_resp.proofs.reading.machine.Machine.skim_word.Goals as goal

pub returns-clause-read : goal.returns-clause-read
returns-clause-read c =
    skims_on c.args.self.now c.skim_body.new.self c.skim_end.new.self c.args.bytes.now c.in_ok-count.count c.skim_end.result c.in_ok-count.ensures.read c.skim_end.ensures
