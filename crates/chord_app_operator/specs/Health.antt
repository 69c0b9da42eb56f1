-- Why a server is not healthy, or not ready for further clients. Source: our own.
use Rattle.std.specs.Prelude.{ℕ, List, codes, Option, Some, None, if◌then◌else◌}
use Rattle.std.specs.Option.{option_or}
use Rattle.chord_app_operator.specs.declared.sight.health.HealthSight.{HealthSight}

-- A supervisor starts anew what is not healthy, so a server that is merely busy is healthy.
abbrev pub unhealthy : HealthSight → Option (List ℕ)
unhealthy h =
    if h.is_stopped then Some (codes "the server stops\n")
    else (if h.has_node then None else Some (codes "no node is staying\n"))

abbrev pub unready : HealthSight → Option (List ℕ)
unready h = option_or (unhealthy h) (if h.has_caller then None else Some (codes "no caller is free\n"))
