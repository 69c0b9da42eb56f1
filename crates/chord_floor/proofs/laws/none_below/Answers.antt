use Rattle.chord_floor.proofs.Merely.{grows_merely, none_below_merely}
use Rattle.chord_floor.proofs.laws.none_below.Goals as goal

pub returns-clause-grows : goal.returns-clause-grows
returns-clause-grows c = λ earlier later run. grows_merely earlier later run

pub returns-clause-above : goal.returns-clause-above
returns-clause-above c = λ earlier later x caller floor reached run some x_in has. none_below_merely earlier later x caller floor reached run some x_in has
