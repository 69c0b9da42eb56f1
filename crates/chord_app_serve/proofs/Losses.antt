-- What was lost with a node that some world has.
use Rattle.std.proofs.Common.{ℕ, Option, None, Some}
use Rattle.std.specs.Prelude.{IfSome}
use Rattle.chord_ident.specs.declared.id.Id.{Id}
use Rattle.chord_ident.specs.declared.span.Span.{Span}
use Rattle.chord_live_ring.specs.Sights.{IsSightOf}
use Rattle.chord_sight.specs.declared.node.NodeSight.{NodeSight}
use Rattle.chord_app_serve.specs.ReadPairs.{IsLost, IsLostBy}

pub lost_in : (number : ℕ) (sight : NodeSight) (first : Id) (found : Option Span) → IsSightOf number sight → IfSome found (IsLostBy sight first) → IfSome found (IsLost first)
lost_in number sight first None seen by = by
lost_in number sight first (Some span) seen by = (number, sight, seen, by)
