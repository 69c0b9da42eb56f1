use Rattle.std.specs.List.Sorted.{IsStrictlySortedBy}
use Rattle.chord_app_serve_tests.proofs.tests.no_memory.NoMemoryEntryStore.count.Goals as goal

pub returns-clause-rising : goal.returns-clause-rising
unfolding IsStrictlySortedBy
returns-clause-rising c = tt
