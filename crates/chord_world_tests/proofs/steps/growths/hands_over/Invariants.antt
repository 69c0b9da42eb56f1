use Rattle.std.proofs.Common.{◌≡◌, []}
use Rattle.std.specs.Prelude.{All}
use Rattle.chord_world_tests.proofs.steps.growths.hands_over.Given as goal

abbrev pub invariant-loop-rows : goal.invariant-loop-rows
invariant-loop-rows g l = All (λ s. g.S.EntryStore.content s ≡ []) l.stores.items
