use Rattle.std.proofs.Common.{◌≡◌, ◌+◌, length, deque_capacity}
use Rattle.chord_caller.specs.Slots.{all_states}
use Rattle.chord_caller.proofs.request_state.raise_front.Given as goal

abbrev pub invariant-loop-states : goal.invariant-loop-states
invariant-loop-states l = record {
  same : all_states l.raised l.states.items ≡ all_states l.fn.floor l.fn.states.items;
  capacity : deque_capacity l.states ≡ deque_capacity l.fn.states;
  count : l.raised + length l.states.items ≡ l.fn.floor + length l.fn.states.items;
}

abbrev pub decreases-loop-states : goal.decreases-loop-states
decreases-loop-states l = length l.states.items
