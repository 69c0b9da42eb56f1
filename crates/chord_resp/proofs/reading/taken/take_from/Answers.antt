use Rattle.std.proofs.Common.{sym, ◌∙◌, arith}
use Rattle.chord_resp.proofs.ReadingLaws.{goes, gives, stops, still}
use Rattle.chord_resp.proofs.reading.taken.take_from.Goals as goal

pub loop-count-preserved : goal.loop-count-preserved
loop-count-preserved c =
    let rest = still c.loop-count.machine c.args.machine.now c.skim.new.self c.args.bytes.now c.loop-count.count c.in-Ok-eq0.field-0 c.loop-count.invariant.rest c.in-Ok-eq0.ensures.read c.in-Ok-eq0.field-0-test in
    record {
      within = omega (arith, c.loop-count-test.true);
      rest = sym (goes c.skim.new.self c.args.bytes.now c.loop-count.count c.loop-count-test.true c.step.new.self (rw c.in-Ok-None.field-0-is at c.in-Ok-None.ensures)) ∙ rest;
    }

pub returns-in-Ok-Some-clause-found : goal.returns-in-Ok-Some-clause-found
returns-in-Ok-Some-clause-found c =
    let rest = still c.loop-count.machine c.args.machine.now c.skim.new.self c.args.bytes.now c.loop-count.count c.in-Ok-eq0.field-0 c.loop-count.invariant.rest c.in-Ok-eq0.ensures.read c.in-Ok-eq0.field-0-test in
    let step = rw c.in-Ok-Some.field-0-is at c.in-Ok-Some.ensures in
    let found = gives c.skim.new.self c.args.bytes.now c.loop-count.count c.loop-count-test.true c.step.new.self c.in-Ok-Some.words step.0 step.1 in
    (sym rest ∙ found, step.1)

pub returns-in-Err-step-clause-found : goal.returns-in-Err-step-clause-found
returns-in-Err-step-clause-found c =
    let rest = still c.loop-count.machine c.args.machine.now c.skim.new.self c.args.bytes.now c.loop-count.count c.in-Ok-eq0.field-0 c.loop-count.invariant.rest c.in-Ok-eq0.ensures.read c.in-Ok-eq0.field-0-test in
    stops c.skim.new.self c.args.machine.now c.step.new.self c.args.bytes.now c.loop-count.count c.loop-count-test.true c.in-Err-step.error rest c.in-Err-step.ensures
