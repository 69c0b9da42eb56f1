-- The executed calls as contracts see them. Source: our own.
use Rattle.std.specs.Prelude.{List, Bool}
use Rattle.chord_map.specs.declared.done.Done.{Done}

-- the calls in the order in which they were executed, and whether there is room for one more
pub record Executed : Type 0 where
  pub calls : List Done
  pub has_room : Bool
