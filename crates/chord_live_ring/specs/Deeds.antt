-- What a node did, and how it is counted.
use Rattle.std.specs.Prelude.{ℕ, ◌+◌, ◌-◌, ◌^◌, min, nat_lt, if◌then◌else◌, Option, None, Some}
use Rattle.chord_live_ring.specs.declared.deed.Deed.{Deed}
use Rattle.chord_live_ring.specs.declared.deed.Deed.TheVariants as deed
use Rattle.chord_live_ring.specs.declared.deed.MessageKind.{MessageKind}
use Rattle.chord_live_ring.specs.declared.deed.MessageKind.TheVariants as kind
use Rattle.chord_sight.specs.declared.counts.AskCounts.{AskCounts}
use Rattle.chord_sight.specs.declared.counts.HandoverCounts.{HandoverCounts}
use Rattle.chord_sight.specs.declared.counts.NodeCounts.{NodeCounts}
use Rattle.chord_model.specs.declared.message.Message.{Message}
use Rattle.chord_model.specs.declared.message.Message.TheVariants as message

-- the kind of a message
abbrev pub kind_of : Message → MessageKind
kind_of (message.Ask ask) = kind.Ask
kind_of (message.Told told) = kind.Told
kind_of (message.Full caller number) = kind.Full
kind_of (message.Part part) = kind.Part
kind_of (message.Got ticket) = kind.Got
kind_of (message.Declined ticket) = kind.Declined
kind_of (message.Note note) = kind.Note

-- what a node did with a request, by the kind of the message that it sent
abbrev pub deed_at_ask : Option MessageKind → Deed
deed_at_ask (Some kind.Told) = deed.Told
deed_at_ask (Some kind.Ask) = deed.Forwarded
deed_at_ask (Some kind.Full) = deed.Full
deed_at_ask other = deed.Dropped

-- What a node did with a message of this kind, by the kind of the message that it sent, and how
-- many segments it held before and after. It took a segment, or took one back, if it holds more.
abbrev pub deed_of : MessageKind → Option MessageKind → ℕ → ℕ → Option Deed
deed_of kind.Ask sent before after = Some (deed_at_ask sent)
deed_of kind.Part sent before after = if nat_lt before after then Some deed.Took else None
deed_of kind.Declined sent before after = if nat_lt before after then Some deed.TookBack else None
deed_of kind sent before after = None

-- one more, up to 2^64 - 1
abbrev pub one_more : ℕ → ℕ
one_more n = min (n + 1) (2 ^ 64 - 1)

-- the counts of requests after a deed
abbrev pub asked : Deed → AskCounts → AskCounts
asked deed.Told asks = record asks { told = one_more asks.told }
asked deed.Forwarded asks = record asks { forwarded = one_more asks.forwarded }
asked deed.Dropped asks = record asks { dropped = one_more asks.dropped }
asked deed.Full asks = record asks { full = one_more asks.full }
asked other asks = asks

-- the counts of handovers after a deed
abbrev pub handed_over : Deed → HandoverCounts → HandoverCounts
handed_over deed.Gave handovers = record handovers { given = one_more handovers.given }
handed_over deed.Took handovers = record handovers { taken = one_more handovers.taken }
handed_over deed.TookBack handovers = record handovers { declined = one_more handovers.declined }
handed_over other handovers = handovers

-- the count of rounds of upkeep after a deed
abbrev pub ticked : Deed → ℕ → ℕ
ticked deed.Ticked ticks = one_more ticks
ticked other ticks = ticks

-- all counts of a node after a deed
abbrev pub counted : Deed → NodeCounts → NodeCounts
counted did counts = record { asks = asked did counts.asks; handovers = handed_over did counts.handovers; ticks = ticked did counts.ticks }

-- the counts after a deed, if there was one
abbrev pub counted_if : Option Deed → NodeCounts → NodeCounts
counted_if None counts = counts
counted_if (Some did) counts = counted did counts

-- the counts of a node that did nothing
abbrev pub no_counts : NodeCounts
no_counts = record {
  asks = record { told = 0; forwarded = 0; dropped = 0; full = 0 };
  handovers = record { given = 0; taken = 0; declined = 0 };
  ticks = 0;
}
