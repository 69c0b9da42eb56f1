use Rattle.std.proofs.Common.{◌≡◌, []}
use Rattle.std.specs.Prelude.{All}
use Rattle.chord_world_tests.proofs.steps.growths.does_script.Given as goal

abbrev pub invariant-loop-deed : goal.invariant-loop-deed
invariant-loop-deed g l = All (λ s. g.S.EntryStore.content s ≡ []) l.stores.items
