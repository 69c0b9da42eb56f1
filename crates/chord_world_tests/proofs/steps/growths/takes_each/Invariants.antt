use Rattle.std.proofs.Common.{◌≡◌, []}
use Rattle.std.specs.Prelude.{All}
use Rattle.chord_world_tests.proofs.steps.growths.takes_each.Given as goal

abbrev pub invariant-loop-others : goal.invariant-loop-others
invariant-loop-others g l = All (λ s. g.S.EntryStore.content s ≡ []) l.stores.items
