use Rattle.std.proofs.Common.{◌≡◌, []}
use Rattle.std.specs.Prelude.{All}
use Rattle.chord_world_tests.proofs.steps.disturbed.play.Given as goal

abbrev pub invariant-loop-place : goal.invariant-loop-place
invariant-loop-place g l = All (λ s. g.S.EntryStore.content s ≡ []) l.stores.items
