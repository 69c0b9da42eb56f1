use Rattle.chord_world.specs.View.{state_of}
use Rattle.chord_world.proofs.Deeds.{ask_received}
use Rattle.chord_world.proofs.world.World.deliver_ask.Goals as goal

pub act-requires : goal.act-requires
act-requires g c = c.requires.ask

pub returns-clause-answer : goal.returns-clause-answer
returns-clause-answer g c =
    ask_received c.args.place c.in_ok-to.to c.requires.ask.0
    (state_of c.self.inside) c.args.self.now c.act.new.self
    c.act.result c.self.view_is c.self.invariant c.requires.ask.1 c.in_ok-to.ensures
    c.act.ensures.answer
