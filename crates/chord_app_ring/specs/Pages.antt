-- Pages of pairs, which of them follows which, and what is copied of them. Source: our own.
use Rattle.std.specs.Prelude.{◌≡◌, ℕ, ◌+◌, ◌%◌, ◌^◌, nat_le, List, not, ◌&&◌, ◌==◌, Option, Some, None, Result, Ok, Err, Vec, if◌then◌else◌}
use Rattle.std.specs.declared.alloc.Global.{Global}
use Rattle.std.specs.Int.{from_be_bytes, w128}
use Rattle.hex.specs.Hex.{decode_sized}
use Rattle.hex.specs.declared.error.FromHexError.{FromHexError}
use Rattle.chord_ident.specs.declared.id.Id.{Id}
use Rattle.chord_app_operator.specs.declared.operator.pairs.PageState.{PageState}
use Rattle.chord_app_operator.specs.declared.operator.pairs.PageState.TheVariants as state
use Rattle.chord_app_operator.specs.declared.request.calls.PairsRequest.{PairsRequest}
use Rattle.chord_app_ring.specs.declared.fault.RingFault.{RingFault}
use Rattle.chord_app_ring.specs.declared.fault.RingFault.TheVariants.{NotUnderstood}
use Rattle.chord_app_ring.specs.declared.inbox.Answer.{Answer}
use Rattle.chord_app_ring.specs.declared.page.Page.{Page}
use Rattle.chord_app_ring.specs.declared.page.PageTurn.{PageTurn}
use Rattle.chord_app_ring.specs.declared.page.PageTurn.TheVariants.{End, On, UnderWay}
use Rattle.chord_app_ring.specs.Telling.{text_of}

-- the identifier that 32 hexadecimal digits write
abbrev pub id_decoded : Result (List ℕ) FromHexError → Option Id
id_decoded (Ok bytes) = Some (record { number = from_be_bytes w128 bytes })
id_decoded (Err fault) = None

abbrev pub id_in : List ℕ → Option Id
id_in digits = id_decoded (decode_sized digits 16)

-- what the field `chord-next` names, if it is there
abbrev pub IsNextIn : Option (Vec ℕ Global) → Result (Option Id) RingFault → Type 0
IsNextIn None result = result ≡ Ok None
IsNextIn (Some digits) (Ok next) = (id : Id) × (id_in digits.items ≡ Some id) × (next ≡ Some id)
IsNextIn (Some digits) (Err fault) = (id_in digits.items ≡ None) × (fault ≡ NotUnderstood)

-- the page that an answer in text is: its lines, and what its fields say
abbrev pub IsPageIn : Option PageState → Option (Vec ℕ Global) → Vec ℕ Global → Result Page RingFault → Type 0
IsPageIn None next lines result = result ≡ Err NotUnderstood
IsPageIn (Some state) next lines (Ok page) = (page.lines ≡ lines) × (page.state ≡ state) × IsNextIn next (Ok page.next)
IsPageIn (Some state) next lines (Err fault) = IsNextIn next (Err fault)

abbrev pub IsPageWith : Result (Vec ℕ Global) RingFault → Answer → Result Page RingFault → Type 0
IsPageWith (Err fault) answer result = result ≡ Err fault
IsPageWith (Ok lines) answer result = IsPageIn answer.state answer.next lines result

abbrev pub IsPageOf : Answer → Result Page RingFault → Type 0
IsPageOf answer result = IsPageWith (text_of answer) answer result

-- the request for the page behind an identifier: 1,000 pairs
abbrev pub request_behind : Option Id → PairsRequest
request_behind after = record { after = after; limit = 1000 }

-- the identifier with which the page behind this one begins: behind the greatest one comes 0
abbrev pub first_behind : Option Id → Id
first_behind None = record { number = 0 }
first_behind (Some after) = record { number = (after.number + 1) % 2 ^ 128 }

-- What follows a page that was asked for from the first identifier on: the same page again while it
-- is under way, else the page behind one that is not before the first, nor the greatest.
abbrev pub turn_to : ℕ → Option Id → Option PageTurn
turn_to first None = Some End
turn_to first (Some next) =
    if nat_le first next.number && not (next.number == 340282366920938463463374607431768211455) then Some (On next) else None

abbrev pub turn_from : ℕ → PageState → Option Id → Option PageTurn
turn_from first state.UnderWay next = Some UnderWay
turn_from first state.Held next = turn_to first next
turn_from first state.Lost next = turn_to first next

abbrev pub turn_of : Option Id → Page → Option PageTurn
turn_of after page = turn_from (first_behind after).number page.state page.next
