use Rattle.std.proofs.Common.{◌≡◌, ◌==◌, ◌++◌, [], length}
use Rattle.std.specs.List.{filter}
use Rattle.std.specs.Prelude.{All}
use Rattle.chord_app_world.proofs.stores.empty_ones.Given as goal

abbrev pub invariant-loop-store : goal.invariant-loop-store
invariant-loop-store g l = (All (λ s. g.S.EntryStore.content s ≡ []) l.kept.items) × (l.kept.items ++ filter (λ s. length (g.S.EntryStore.content s) == 0) l.store-iterator.rest.items ≡ filter (λ s. length (g.S.EntryStore.content s) == 0) l.fn.stores.items)
