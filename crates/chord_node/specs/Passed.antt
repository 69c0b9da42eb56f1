-- How a node passes on a call for a key that it does not hold.
use Rattle.std.specs.Prelude.{◌≡◌, ◌-◌, ◌==◌, ◌||◌, if◌then◌else◌}
use Rattle.chord_links.specs.declared.peer.Peer.{Peer}
use Rattle.chord_links.specs.NodeLinks.{NodeLinks}
use Rattle.chord_route.specs.declared.hop.Hop.{Hop}
use Rattle.chord_route.specs.declared.hop.Hop.TheVariants.{Last, Near}
use Rattle.chord_route.specs.Hops.{IsNextHop}
use Rattle.chord_segment.specs.Segment.{id_of}
use Rattle.chord_caller.specs.declared.ask.Ask.{Ask}
use Rattle.chord_node.specs.declared.asks.answered.Answered.{Answered}
use Rattle.chord_node.specs.declared.asks.answered.Answered.TheVariants.{Dropped, Forward}

-- the node that a hop goes to
abbrev pub peer_of : Hop → Peer
peer_of (Last peer) = peer
peer_of (Near peer) = peer

-- the call goes to this peer with one hop less; dropped if no hops are left or the peer is the node
abbrev pub passed_to : NodeLinks → Ask → Peer → Answered
passed_to links ask peer =
    if (ask.hops == 0) || (peer.number == links.me.number) then Dropped else Forward peer.number (record ask { hops = ask.hops - 1 })

-- the call is passed on by the next hop
abbrev pub PassesOn : NodeLinks → Ask → Answered → Type 0
PassesOn links ask answered = (hop : Hop) × IsNextHop links (id_of ask.request) hop × (answered ≡ passed_to links ask (peer_of hop))
