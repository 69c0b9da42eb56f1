-- The ring formed by the nodes of a world.
use Rattle.std.specs.Prelude.{Bool, true, false, ◌||◌, Option, None, Some, ℕ, List, [], ◌∷◌, map}
use Rattle.chord_links.specs.NodeLinks.{NodeLinks}
use Rattle.chord_ring.specs.Ring.{Members}
use Rattle.chord_ring.specs.Steps.{Ring}
use Rattle.chord_model.specs.declared.phase.Phase.{Phase}
use Rattle.chord_model.specs.declared.phase.Phase.TheVariants as phase
use Rattle.chord_model.specs.Node.{Node}
use Rattle.chord_world.specs.declared.fate.Fate.{Fate}
use Rattle.chord_world.specs.declared.fate.Fate.TheVariants as fate

-- whether a node of this fate takes no step: it crashed and was not rescued
abbrev pub is_out : Fate → Bool
is_out fate.Well = false
is_out fate.Crashed = true
is_out fate.Rescued = false

-- whether a node of this fate is dead for the ring: it crashed
abbrev pub is_dead : Fate → Bool
is_dead fate.Well = false
is_dead fate.Crashed = true
is_dead fate.Rescued = true

-- whether the phase is Gone
abbrev pub is_gone : Phase → Bool
is_gone phase.Staying = false
is_gone phase.Leaving = false
is_gone phase.Gone = true

-- the links, or None if the node departed
abbrev pub links_unless : Bool → NodeLinks → Option NodeLinks
links_unless true links = None
links_unless false links = Some links

-- the links of a node that is a member, that is neither dead nor gone
abbrev pub member_links : Bool → Node → Option NodeLinks
member_links dead node = links_unless (dead || is_gone node.phase) node.links

-- the links of each member, by number
unfoldable pub members_of : List Node → List Fate → Members
members_of [] fates = []
members_of (node ∷ nodes) [] = []
members_of (node ∷ nodes) (one ∷ fates) = member_links (is_dead one) node ∷ members_of nodes fates

-- the identifiers of all nodes that ever joined
abbrev pub id_of_node : Node → ℕ
id_of_node node = node.links.me.id.number

unfoldable pub ids_of : List Node → List ℕ
ids_of nodes = map id_of_node nodes

-- the ring of these nodes, which have these fates
abbrev pub ring_with : List Node → List Fate → Ring
ring_with nodes fates = record { ids = ids_of nodes; members = members_of nodes fates }
