-- The words of phases. Source: our own.
use Rattle.std.specs.Prelude.{ℕ, List, codes}
use Rattle.chord_sight.specs.declared.phase.Phase.{Phase}
use Rattle.chord_sight.specs.declared.phase.Phase.TheVariants.{Staying, Leaving, Gone, Crashed, Rescuing}

-- the word of a phase
abbrev pub phase_word : Phase → List ℕ
phase_word Staying = codes "staying"
phase_word Leaving = codes "leaving"
phase_word Gone = codes "gone"
phase_word Crashed = codes "crashed"
phase_word Rescuing = codes "rescuing"
