-- The links of all nodes, by number.
use Rattle.std.specs.Prelude.{◌≡◌, ℕ, ◌<◌, List, Option, Some, Contains}
use Rattle.chord_links.specs.declared.peer.Peer.{Peer}
use Rattle.chord_links.specs.NodeLinks.{NodeLinks}
use Rattle.chord_route.specs.IdealRing.{IsRing, IsSettled, IsIdeal}

-- the table has each node of the ring under its number, below the limit, with such links
pub record IsNetwork (Are : List Peer → NodeLinks → Type 0) (ring : List Peer) (table : ℕ → Option NodeLinks) (limit : ℕ) : Type 0 where
  pub on_circle : IsRing ring
  pub below : (node : Peer) → Contains ring node → node.number < limit
  pub each : (node : Peer) → Contains ring node → (links : NodeLinks) × (table node.number ≡ Some links) × (links.me ≡ node) × Are ring links

-- every answer that may be given is the table's
abbrev pub AnswersAs : (ℕ → Option NodeLinks → Type 0) → (ℕ → Option NodeLinks) → Type 0
AnswersAs answers table = (no : ℕ) (answer : Option NodeLinks) → answers no answer → answer ≡ table no

-- a reader whose answers do not change, from a member of a ring: it reads the links of that ring's
-- members, and they are such links
pub record ReadsRing (Are : List Peer → NodeLinks → Type 0) (answers : ℕ → Option NodeLinks → Type 0) (slots from : ℕ) (ring : List Peer) : Type 0 where
  pub table : ℕ → Option NodeLinks
  pub network : IsNetwork Are ring table slots
  pub answered : AnswersAs answers table
  pub start : Peer
  pub member : Contains ring start
  pub number : start.number ≡ from

-- from a member of a settled ring: fingers may be missing or stale
abbrev pub ReadsSettledRing : (ℕ → Option NodeLinks → Type 0) → ℕ → ℕ → List Peer → Type 0
ReadsSettledRing answers slots from ring = ReadsRing IsSettled answers slots from ring

-- from a member of an ideal ring
abbrev pub ReadsIdealRing : (ℕ → Option NodeLinks → Type 0) → ℕ → ℕ → List Peer → Type 0
ReadsIdealRing answers slots from ring = ReadsRing IsIdeal answers slots from ring
