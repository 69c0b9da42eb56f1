-- The end of a server's ring. Source: our own.
use Rattle.std.specs.Prelude.{◌≡◌, length}
use Rattle.chord_app_serve.specs.declared.serving.whole_ring.WholeRing.{WholeRing}
use Rattle.chord_table.specs.Shown.{WholeShown}
use Rattle.chord_table.specs.Views.{Assembled, callers_among, nodes_among}

-- all nodes of a ring and all its callers, of these numbers, are a reachable world, of which the
-- theorem holds
abbrev pub StandsWhole : WholeRing → Type 0
StandsWhole ring = (assembled : Assembled) × WholeShown assembled
    × (length (nodes_among assembled.taken) ≡ ring.nodes)
    × (length (callers_among assembled.taken) ≡ ring.callers)
