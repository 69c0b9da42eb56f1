use Rattle.std.proofs.Common.{Ok, refl, subst}
use Rattle.chord_caller.specs.declared.told.Told.{Told}
use Rattle.chord_caller.specs.Answers.{IsForeign, TakeIs}
use Rattle.chord_world.proofs.Posting.{got}
use Rattle.chord_world.proofs.Answering.{told_copy}
use Rattle.chord_world.proofs.steps.deliver.hear_at.Goals as goal

pub unreachable-requires : goal.unreachable-requires
unreachable-requires c =
    c.requires.owed c.index_mut-core.result.now (got c.args.callers.now.items c.args.place c.index_mut-core.result.now c.requires.place c.index_mut-core.ensures.value)
    (subst (λ (t : Told). IsForeign t c.index_mut-core.result.now) (told_copy c.args.told.now c.in_ok-reply.reply c.in_ok-reply.ensures.copy) (rw c.in-Err-Foreign.field-0-is at c.in-Err-Foreign.ensures.answer).0)

pub returns-in-Ok : goal.returns-in-Ok
returns-in-Ok c = record {
  core = c.index_mut-core.result.now;
  after = c.take.new.self;
  here = got c.args.callers.now.items c.args.place c.index_mut-core.result.now c.requires.place c.index_mut-core.ensures.value;
  does = subst (λ (t : Told). TakeIs t c.index_mut-core.result.now (Ok c.in-Ok.heard) c.take.new.self) (told_copy c.args.told.now c.in_ok-reply.reply c.in_ok-reply.ensures.copy) c.in-Ok.ensures.answer;
  new_is = refl;
}
