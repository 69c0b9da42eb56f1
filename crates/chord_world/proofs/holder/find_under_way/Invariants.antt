use Rattle.std.proofs.Common.{◌≡◌, ℕ, ◌<◌, false, Some}
use Rattle.std.specs.Prelude.{slice_get}
use Rattle.chord_handover.specs.Handover.{Item}
use Rattle.chord_model.specs.World.{last_taken}
use Rattle.chord_world.specs.Holding.{is_open}
use Rattle.chord_world.proofs.holder.find_under_way.Given as goal

abbrev pub invariant-loop-place : goal.invariant-loop-place
invariant-loop-place g l =
    (place : ℕ) (item : Item) → place < l.place → slice_get l.node.outbox place ≡ Some item → is_open l.id.number (last_taken l.nodes) l.node item ≡ false
