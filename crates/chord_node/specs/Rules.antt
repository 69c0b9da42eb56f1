-- What holds of every node.
use Rattle.std.specs.Prelude.{◌≡◌, ℕ, Option, None, Some, List, []}
use Rattle.chord_map.specs.declared.pair.Pair.{Pair}
use Rattle.chord_segment.specs.Segment.{Segment}
use Rattle.chord_handover.specs.Handover.{Item}
use Rattle.chord_handover.specs.Outbox.{Outbox}
use Rattle.chord_model.specs.declared.phase.Phase.{Phase}
use Rattle.chord_model.specs.declared.phase.Phase.TheVariants.{Gone}
use Rattle.chord_model.specs.Stock.{IsStocked}
use Rattle.chord_node.specs.View.{entries_in}

module _ {S : Type 0} where
  -- only a node that is gone has no store; it holds nothing and has an empty outbox
  abbrev pub HasStoreFor : Phase → List Segment → List Item → Option S → Type 0
  HasStoreFor phase held items None = (phase ≡ Gone) × (held ≡ []) × (items ≡ [])
  HasStoreFor phase held items (Some store) = Unit {0}

  -- its entries are those of its segments, it has a store unless it is gone, and it owns its outbox
  pub record IsNode (content : S → List Pair) (phase : Phase) (number : ℕ) (held : List Segment) (store : Option S) (outbox : Outbox) : Type 0 where
    pub stocked : IsStocked held (entries_in content store)
    pub stored : HasStoreFor phase held outbox.items store
    pub own : outbox.owner ≡ number
