use Rattle.std.proofs.Common.{ap₂, sym, ◌∙◌}
use Rattle.chord_session.specs.Session.{first_state}
use Rattle.chord_serve.specs.Output.{bytes_written}
use Rattle.chord_serve.proofs.laws.one_output.Goals as goal

pub returns : goal.returns
returns g c a b after after' input output output' rest rest' v v' s s' one other none none' given =
    let same = c.one_reading.ensures.ended input one.requests other.requests rest rest' one.spelled none other.spelled none' in
    one.output_is ∙ ap₂ (bytes_written first_state) same.0 given ∙ sym other.output_is
