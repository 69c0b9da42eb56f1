-- Callers as they were at some time, compared with later.
use Rattle.std.specs.Prelude.{◌≡◌, Some, List, ◌++◌}
use Rattle.chord_caller.specs.Caller.{Caller, Submission}
use Rattle.chord_map.specs.declared.done.Done.{Done}
use Rattle.chord_model.specs.World.{World, caller_at}

-- the same caller later: what it submitted, took and learned by notes is a prefix of what it has
-- now
pub record IsLater (old new : Caller) : Type 0 where
  pub number : new.number ≡ old.number
  pub submitted : (more : List Submission) × (new.submitted ≡ old.submitted ++ more)
  pub mine : (more : List Done) × (new.mine ≡ old.mine ++ more)
  pub told : (more : List Done) × (new.told ≡ old.told ++ more)

-- the world has the caller, as it was or later
abbrev pub WasThere : World → Caller → Type 0
WasThere world caller = (now : Caller) × (caller_at caller.number world.callers ≡ Some now) × IsLater caller now
