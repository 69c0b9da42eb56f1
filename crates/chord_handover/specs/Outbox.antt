-- The outbox: handovers until their receivers answer Got or Declined.
use Rattle.std.specs.Prelude.{◌≡◌, ℕ, ◌+◌, ◌^◌, ◌<◌, ◌≤◌, Bool, nat_le, ◌&&◌, if◌then◌else◌, Option, None, Some, List, [], ◌∷◌, ◌++◌, All, Result, Ok, Err}
use Rattle.chord_segment.specs.declared.mark.Mark.{Mark}
use Rattle.chord_segment.specs.Marks.{mark_of, raise}
use Rattle.chord_handover.specs.declared.fault.OutboxGiveFault.{OutboxGiveFault}
use Rattle.chord_handover.specs.declared.fault.OutboxGiveFault.TheVariants.{NumbersSpent, Memory}
use Rattle.chord_handover.specs.declared.fault.Ungiven.{Ungiven}
use Rattle.chord_handover.specs.Handover.{Part, parts_in, part_at, Item, item_at, outbox_without}
use Rattle.chord_handover.specs.Payload.{Payload, handover_of_payload}

-- the items in the order given, and the last number given to each receiver
pub record Outbox : Type 0 where
  pub owner : ℕ
  pub given : List Mark
  pub items : List Item

-- an outbox as the program holds it, and whether its memory has room for one more item
pub record RoomyOutbox : Type 0 where
  pub outbox : Outbox
  pub has_room : Bool

-- no two items have the same receiver and number
abbrev pub AreApart : List Item → Type 0
AreApart [] = Unit {0}
AreApart (item ∷ rest) = (item_at item.to item.number rest ≡ None) × AreApart rest

-- each item's number was given to its receiver, and no other item has that receiver and number
pub record IsOutbox (given : List Mark) (items : List Item) : Type 0 where
  pub numbered : All (λ (item : Item). item.number ≤ mark_of item.to given) items
  pub apart : AreApart items

abbrev pub empty_outbox : ℕ → Outbox
empty_outbox owner = record { owner = owner; given = []; items = [] }

-- the payload of an item
abbrev pub payload_of : Option Item → Option Payload
payload_of None = None
payload_of (Some item) = Some (record { segment = item.segment; pairs = item.pairs })

-- the number of the next handover to this receiver
abbrev pub next_number_to : ℕ → Outbox → ℕ
next_number_to to outbox = mark_of to outbox.given + 1

-- the outbox with one more item
abbrev pub with_item : ℕ → Payload → Outbox → Outbox
with_item to payload outbox = record outbox {
  given = raise to (next_number_to to outbox) outbox.given;
  items = outbox.items ++ record { to = to; number = next_number_to to outbox; segment = payload.segment; pairs = payload.pairs } ∷ [];
}

-- the outbox without the item of this receiver and number
abbrev pub with_none : ℕ → ℕ → Outbox → Outbox
with_none to number outbox = record outbox { items = outbox_without to number outbox.items }

-- the first refusal that fits
abbrev pub GiveRefused : ℕ → Outbox → OutboxGiveFault → Type 0
GiveRefused to old NumbersSpent = 2 ^ 64 ≤ next_number_to to old
GiveRefused to old Memory = next_number_to to old < 2 ^ 64

-- the payload goes into the outbox under the receiver's next number; or it is given back and
-- nothing changes
abbrev pub GiveIs : ℕ → Payload → Outbox → Result ℕ Ungiven → Outbox → Type 0
GiveIs to payload old (Ok number) new = (next_number_to to old < 2 ^ 64) × (number ≡ next_number_to to old) × (new ≡ with_item to payload old)
GiveIs to payload old (Err ungiven) new = GiveRefused to old ungiven.fault × (ungiven.payload ≡ payload) × (new ≡ old)

-- part number `part` of a payload, if there is such a part
abbrev pub part_of_item : ℕ → ℕ → ℕ → ℕ → Option Payload → Option Part
part_of_item from to number part None = None
part_of_item from to number part (Some payload) =
    if nat_le 1 part && nat_le part (parts_in payload.pairs) then Some (part_at (handover_of_payload (record { from = from; to = to; number = number }) payload) part) else None

-- the receiver and the number of an item, if there is one
abbrev pub name_of_item : Option Item → Option (ℕ × ℕ)
name_of_item None = None
name_of_item (Some item) = Some (item.to, item.number)
