-- A ring before it has its name.
use Rattle.chord_live_types.specs.declared.settings.Settings.{Settings}
use Rattle.chord_table.specs.Views.{Name}

-- the name that the ring will get, and its settings
pub record Parts : Type 0 where
  pub name : Name
  pub settings : Settings
