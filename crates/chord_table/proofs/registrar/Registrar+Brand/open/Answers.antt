use Rattle.chord_table.proofs.Keeping.{begins}
use Rattle.chord_table.proofs.registrar.Registrar+Brand.open.Goals as goal

pub of_words-requires : goal.of_words-requires
of_words-requires c = begins c.as_slice.result.now
