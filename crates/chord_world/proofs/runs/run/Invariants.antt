use Rattle.std.proofs.Common.{◌≡◌, [], map, take, length, vec_len}
use Rattle.std.specs.Prelude.{All}
use Rattle.std.specs.Vec.{vec_capacity}
use Rattle.chord_model.specs.World.{Run}
use Rattle.chord_world.specs.Runs.{Ran}
use Rattle.chord_world.proofs.runs.run.Given as goal

abbrev pub invariant-loop-step : goal.invariant-loop-step
invariant-loop-step g l = record {
  ran : Ran (map g.S.EntryStore.limit l.initial.stores.items) l.initial.world (take l.step-index l.steps) l.answers.items (map g.S.EntryStore.limit l.stores.items) l.world;
  run : ∥ Run l.initial.world.world l.world.world ∥₁;
  vacant : All (λ s. g.S.EntryStore.content s ≡ []) l.stores.items;
  counted : vec_len l.answers ≡ l.step-index;
  room : vec_capacity l.answers ≡ length l.steps;
}
