-- Each reachable ring is sound, and a sound ring is safe, keeps its principals and is one ring.
use Rattle.chord_ring.proofs.Stepping.{Kept-step}
use Rattle.chord_ring.proofs.Reached.{IsSound-reached}
use Rattle.chord_ring.proofs.Walking.{IsOneRing-sound}
use Rattle.chord_ring.proofs.invariant.principals_stand_on_one_ring.Goals as goal

pub returns-clause-safe : goal.returns-clause-safe
returns-clause-safe c = λ ring reached. (IsSound-reached ring reached).safe

pub returns-clause-kept_by_steps : goal.returns-clause-kept_by_steps
returns-clause-kept_by_steps c = λ old new step reached stepped. (Kept-step old new step (IsSound-reached old reached) stepped).principals

pub returns-clause-one_ring : goal.returns-clause-one_ring
returns-clause-one_ring c = λ ring reached. IsOneRing-sound ring (IsSound-reached ring reached)
