-- In every reachable world with nodes each identifier has one holder.
use Rattle.std.proofs.Common.{◌≡◌, ◌≢◌, ℕ, ◌^◌, ◌<◌, List, [], ◌∷◌, length, refl, ◌∙◌, arith}
use Rattle.chord_model.proofs.Channels.{taken_in}
use Rattle.chord_model.proofs.Kept.{sound_reached}
use Rattle.chord_model.proofs.Totals.{total_same, length-holders}
use Rattle.chord_model.specs.Node.{Node}
use Rattle.chord_model.specs.World.{World, Reached, HasOneHolder, holders, last_taken}

pub only_one : {A : Type 0} (xs : List A) → length xs ≡ 1 → (x : A) × (xs ≡ x ∷ [])
only_one [] e = absurd (omega arith)
only_one (x ∷ []) e = (x, refl)
only_one (x ∷ y ∷ xs) e = absurd (omega arith)

same_taken : (nodes : List Node) (to from : ℕ) → last_taken nodes to from ≡ taken_in nodes to from
unfolding last_taken
same_taken nodes to from = refl

pub one_length : (world : World) → Reached world → world.nodes ≢ [] → (x : ℕ) → x < 2 ^ 128 → length (holders x world.nodes) ≡ 1
one_length world reached some x x_in =
    let sound = sound_reached world reached in
    length-holders x world.nodes ∙ total_same x (last_taken world.nodes) (taken_in world.nodes) (same_taken world.nodes) world.nodes ∙ sound.one x x_in some

pub one_holder : (world : World) → Reached world → world.nodes ≢ [] → (x : ℕ) → x < 2 ^ 128 → HasOneHolder x world.nodes
one_holder world reached some x x_in = only_one (holders x world.nodes) (one_length world reached some x x_in)
