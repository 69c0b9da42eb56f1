-- Which nodes of a ring are shown. Source: our own.
use Rattle.std.specs.Prelude.{◌≡◌, ◌-◌, List, [], ℕ, Bool, true, false, codes, bytes_eq, Option, Result, Ok, Err, unwrap_or, if◌then◌else◌}
use Rattle.std.specs.List.{count_by, filter}
use Rattle.std.specs.declared.alloc.AllocError.{AllocError}
use Rattle.chord_sight.specs.declared.phase.Phase.{Phase}
use Rattle.chord_sight.specs.declared.phase.Phase.TheVariants.{Gone}
use Rattle.chord_app_operator.specs.declared.request.fault.Fault.{Fault}
use Rattle.chord_app_operator.specs.declared.request.fault.Fault.TheVariants.{UnknownParameter}
use Rattle.chord_app_operator.specs.declared.request.rows.Rows.{Rows}
use Rattle.chord_app_operator.specs.declared.request.rows.Rows.TheVariants.{Present, All}
use Rattle.chord_app_operator.specs.declared.sight.node.StoredNode.{StoredNode}
use Rattle.chord_app_operator.specs.declared.sight.ring.RingSight.{RingSight}

-- the query of `/ring` is `all` where nodes that are gone are asked for too
abbrev pub rows_named : List ℕ → Result Rows Fault
rows_named query =
    if bytes_eq query (codes "") then Ok Present
    else (if bytes_eq query (codes "all") then Ok All else Err UnknownParameter)

abbrev pub rows_asked : Option (List ℕ) → Result Rows Fault
rows_asked query = rows_named (unwrap_or query [])

-- a node that is gone is shown where all nodes are
abbrev pub is_shown : Rows → Phase → Bool
is_shown Present Gone = false
is_shown rows phase = true

abbrev pub is_present : StoredNode → Bool
is_present n = is_shown Present n.sight.phase

-- how many nodes are gone, of all that ever were
abbrev pub gone_of : RingSight → ℕ
gone_of r = r.ever - count_by is_present r.nodes.items

-- of a ring, the nodes that are shown, and all else
abbrev pub HasRows : Rows → RingSight → RingSight → Type 0
HasRows rows sight kept =
    (kept ≡ record sight { nodes = kept.nodes })
    × (kept.nodes.items ≡ filter (λ (n : StoredNode). is_shown rows n.sight.phase) sight.nodes.items)

abbrev pub ToldRows : Rows → Result RingSight AllocError → Result RingSight AllocError → Type 0
ToldRows rows (Ok sight) (Ok kept) = HasRows rows sight kept
ToldRows rows (Err full) kept = kept ≡ Err full
ToldRows rows (Ok sight) (Err full) = ⊥
