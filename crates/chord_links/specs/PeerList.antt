-- A list of at most 16 peers in an array, filled up with a free peer.
use Rattle.std.specs.Prelude.{◌-◌, List, ◌++◌, length, replicate}
use Rattle.chord_links.specs.declared.peer.Peer.{Peer}

-- the peer in each free element of the array
abbrev pub free_peer : Peer
free_peer = record { number = 0; id = record { number = 0 } }

-- these peers as an array of 16
abbrev pub padded_array : List Peer → List Peer
padded_array peers = peers ++ replicate (16 - length peers) free_peer
