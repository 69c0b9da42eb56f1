-- The limits of a ring's settings. Source: our own.
use Rattle.std.specs.Prelude.{◌≤◌}
use Rattle.chord_live_types.specs.declared.settings.Settings.{Settings}

-- each setting is within its limits
pub record AreWithin (s : Settings) : Type 0 where
  pub some_slots : 1 ≤ s.slots
  pub slots : s.slots ≤ 4096
  pub callers : s.callers ≤ 16384
  pub some_successors : 2 ≤ s.successors
  pub successors : s.successors ≤ 16
  pub some_tries : 1 ≤ s.tries
  pub tries : s.tries ≤ 1000
  pub some_wait : 1 ≤ s.wait_ms
  pub wait : s.wait_ms ≤ 60000
