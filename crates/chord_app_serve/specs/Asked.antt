-- The requests of a session, as its caller submitted them.
use Rattle.std.specs.Prelude.{ℕ, List, length, map, drop}
use Rattle.chord_caller.specs.Caller.{Submission}
use Rattle.chord_map.specs.declared.request.Request.{Request}
use Rattle.chord_table.specs.Views.{CallerSight}

-- the requests that the caller submitted, in order
abbrev pub asked_by : CallerSight → List Request
asked_by sight = map (λ (submission : Submission). submission.request) sight.caller.submitted

-- the requests that the caller submitted after its first `before` ones
abbrev pub asked_since : ℕ → CallerSight → List Request
asked_since before sight = drop before (asked_by sight)

-- a caller as the asker of a session: how many requests it had submitted when the session began,
-- the node at which it asks, and what its seat shows
pub record AskerSight : Type 0 where
  pub before : ℕ
  pub via : ℕ
  pub caller : CallerSight
