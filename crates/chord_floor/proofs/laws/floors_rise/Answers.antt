use Rattle.chord_floor.proofs.Merely.{rises_merely}
use Rattle.chord_floor.proofs.laws.floors_rise.Goals as goal

pub returns : goal.returns
returns c = λ earlier later x caller floor reached run some x_in has. rises_merely earlier later x caller floor reached run some x_in has
