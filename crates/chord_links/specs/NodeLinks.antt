-- Statement 5 of 15: what a node knows of other nodes.
use Rattle.std.specs.Prelude.{ℕ, Option, None, List, [], ◌∷◌, slice_index_or}
use Rattle.chord_links.specs.declared.peer.Peer.{Peer}
use Rattle.chord_links.specs.declared.fingers.Fingers.{Fingers}
use Rattle.chord_links.specs.Fingers.{no_fingers}

-- a node's links: itself, how many successors it may
-- list, its predecessor, its list and its fingers
pub record NodeLinks : Type 0 where
  pub me : Peer
  pub r : ℕ
  pub predecessor : Option Peer
  pub entries : List Peer
  pub fingers : Fingers

-- the links of a node that knows no other node
abbrev pub alone : Peer → ℕ → NodeLinks
alone me r = record { me = me; r = r; predecessor = None; entries = me ∷ []; fingers = no_fingers me }

-- the first entry, or the node itself if the list is empty
abbrev pub first_entry : NodeLinks → Peer
first_entry links = slice_index_or links.entries 0 links.me

-- the links with this list
abbrev pub with_entries : NodeLinks → List Peer → NodeLinks
with_entries links entries = record links { entries = entries }
