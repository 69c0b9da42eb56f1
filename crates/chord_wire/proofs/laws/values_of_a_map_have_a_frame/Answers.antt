use Rattle.chord_wire.proofs.MapValues.{map_values}
use Rattle.chord_wire.proofs.laws.values_of_a_map_have_a_frame.Goals as goal

pub returns : goal.returns
returns c key pairs sorted short few = map_values key pairs sorted short few
