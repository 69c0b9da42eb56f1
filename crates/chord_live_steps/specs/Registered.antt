-- What the registrar's seat shows, by counts.
use Rattle.std.specs.Prelude.{◌≡◌, ℕ, Bool, List, map, length}
use Rattle.chord_ident.specs.declared.id.Id.{Id}
use Rattle.chord_live_steps.specs.Counts.{numbers_below}
use Rattle.chord_table.specs.Views.{Register}

-- the register has the nodes with these identifiers and this many callers, each numbered from 0;
-- whether the ring allowed each crash
pub record IsRegister (callers : ℕ) (ids : List Id) (premise : Bool) (register : Register) : Type 0 where
  pub nodes_are : register.nodes ≡ numbers_below (length ids)
  pub callers_are : register.callers ≡ numbers_below callers
  pub ids_are : register.ids ≡ map (λ (id : Id). id.number) ids
  pub premised : register.premise ≡ premise
