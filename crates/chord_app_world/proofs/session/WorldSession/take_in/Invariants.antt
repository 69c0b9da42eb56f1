use Rattle.std.proofs.Common.{◌≡◌, []}
use Rattle.std.specs.Prelude.{All}
use Rattle.chord_app_world.proofs.session.WorldSession.take_in.Given as goal

abbrev pub invariant-loop-byte : goal.invariant-loop-byte
invariant-loop-byte g l = All (λ s. g.S.EntryStore.content s ≡ []) l.stores.items
