-- What holds of a client while it sends and receives, and that its next request has a frame.
use Rattle.std.proofs.Common.{◌≡◌, ℕ, ◌+◌, ◌-◌, ◌<◌, ◌≤◌, ◌^◌, min, Bool, true, false, inl, inr, List, [], ◌∷◌, arith, Result, Ok, Err, Option, Some, All, zero, suc, length, take, drop, get_or, slice_get, sym, ap, subst, ◌∙◌, ◌++◌}
use Rattle.std.proofs.Math.Nat.{min-le_left}
use Rattle.std.proofs.lemmas.Bool.{leb-false}
use Rattle.chord_map.specs.declared.request.Request.{Request}
use Rattle.chord_map.specs.Checked.{IsRequest}
use Rattle.chord_wire.specs.declared.request.WireRequest.{WireRequest}
use Rattle.chord_wire.specs.Spelling.{IsWireRequest, HasFloor}
use Rattle.chord_serve.specs.ClientState.{ClientState}
use Rattle.chord_serve.specs.HasWindow.{HasWindow, IsClient}
use Rattle.chord_serve.specs.InFlight.{floor_under, floor_of, is_full, next_of, with_sent, place_of, IsAwaitedAgain, JudgedIs}
use Rattle.std.proofs.lemmas.List.Elements.{All-same, All-rest, All-head, All-push, All-append, All-take, All-drop}
use Rattle.std.specs.List.{remove}
use Rattle.chord_wire.specs.declared.answer.Answer.{Answer}
use Rattle.chord_wire.specs.declared.answer.Answer.TheVariants as answer
use Rattle.chord_serve.specs.declared.wire_client.ReceiveFault.{ReceiveFault}
use Rattle.chord_serve.specs.declared.wire_client.ReceiveFault.TheVariants as receive

floor_under-le : (most : ℕ) (wires : List WireRequest) → floor_under most wires ≤ most
floor_under-le most [] = omega arith
floor_under-le most (w ∷ ws) = let h = floor_under-le (min most (w.number - 1)) ws in omega (arith, h, min-le_left most (w.number - 1))

floor_of-le : (c : ClientState) → floor_of c ≤ c.last
floor_of-le c = omega (arith, floor_under-le c.last c.awaited, floor_under-le (floor_under c.last c.awaited) c.refused)

floor_fits : (version window last floor : ℕ) → HasWindow version window → last - floor < window → floor ≤ last → HasFloor version (last + 1) floor
floor_fits version window last floor (inl one) room low = inl (one.0, omega (arith, one.1, room, low))
floor_fits version window last floor (inr two) room low = inr (two.0, omega (arith, low), omega (arith, two.2, room, low))

pub next_has_frame : (c : ClientState) (request : Request) → IsClient c → IsRequest request → is_full c ≡ false → c.last + 1 < 2 ^ 64 → IsWireRequest (next_of c request)
next_has_frame c request good limits room small = record {
  number = small;
  floor = floor_fits c.version c.window c.last (floor_of c) good.window (leb-false c.window (c.last - floor_of c) room) (floor_of-le c);
  request = limits;
}

pub with_floor : (version number f g : ℕ) (request : Request) → f ≡ g → IsWireRequest (record { version = version; number = number; floor = f; request = request }) → IsWireRequest (record { version = version; number = number; floor = g; request = request })
with_floor version number f g request e = subst (λ (h : ℕ). IsWireRequest (record { version = version; number = number; floor = h; request = request })) e

pub not_both : (b : Bool) → b ≡ false → b ≡ true → ⊥
not_both b e f = let h : false ≡ true = sym e ∙ f in cc

abbrev pub state : (version window last : ℕ) (awaited refused : List WireRequest) (bytes : List ℕ) → ClientState
state version window last awaited refused bytes = record { version = version; window = window; last = last; awaited = awaited; refused = refused; bytes = bytes }

-- the fields after a request was sent
pub sent_state : (v w l : ℕ) (xs ys : List WireRequest) (bytes : List ℕ) (c : ClientState) (request : Request) (wire : WireRequest) (xs' : List WireRequest)
    → state v w l xs ys bytes ≡ c → wire ≡ next_of c request → xs' ≡ xs ++ wire ∷ [] → state v w wire.number xs' ys bytes ≡ with_sent c request
sent_state v w l xs ys bytes c request wire xs' view is more =
    subst (λ (d : ClientState). wire ≡ next_of d request → state v w wire.number xs' ys bytes ≡ with_sent d request) view
    (λ (h : wire ≡ next_of (state v w l xs ys bytes) request).
    ap (λ (zs : List WireRequest). state v w wire.number zs ys bytes) more ∙ ap (λ (x : WireRequest). state v w x.number (xs ++ x ∷ []) ys bytes) h) is

-- all open requests still have frames after an answer
pub judged_keeps : (result : Result (ℕ × Answer) ReceiveFault) (a : Answer) (xs ys xs' ys' : List WireRequest)
    → JudgedIs result a xs ys xs' ys' → All IsWireRequest xs → All IsWireRequest ys → All IsWireRequest xs' × All IsWireRequest ys'
judged_keeps (Ok (number, got)) (answer.Reply n reply) xs ys xs' ys' h p q = (All-rest IsWireRequest h.0 xs' xs h.1 p, All-same IsWireRequest ys' ys h.6 q)
judged_keeps (Ok (number, got)) (answer.Fault n code) xs ys xs' ys' h p q = (
  All-rest IsWireRequest h.0 xs' xs h.1 p,
  All-same IsWireRequest ys' (ys ++ h.0 ∷ []) h.6 (All-push IsWireRequest ys h.0 q (All-head IsWireRequest h.0 xs' (All-same IsWireRequest (h.0 ∷ xs') xs (sym h.1) p))),
)
judged_keeps (Err receive.CallersSpent) a xs ys xs' ys' h p q = (All-same IsWireRequest xs' xs h.1 p, All-same IsWireRequest ys' ys h.2 q)
judged_keeps (Err receive.WrongNumber) a xs ys xs' ys' h p q = (All-same IsWireRequest xs' xs h.4 p, All-same IsWireRequest ys' ys h.5 q)
judged_keeps (Err receive.WrongKind) a xs ys xs' ys' h p q = (All-same IsWireRequest xs' xs h.5 p, All-same IsWireRequest ys' ys h.6 q)
judged_keeps (Err receive.Idle) a xs ys xs' ys' h p q = absurd h
judged_keeps (Err (receive.Call why)) a xs ys xs' ys' h p q = absurd h

-- the open requests without one
pub All-remove : (xs : List WireRequest) (place : ℕ) → All IsWireRequest xs → All IsWireRequest (remove xs place)
All-remove xs place p = All-append IsWireRequest (take place xs) (drop (suc place) xs) (All-take IsWireRequest place xs p) (All-drop IsWireRequest (suc place) xs p)

abbrev option : WireRequest → Option WireRequest
option x = Some x

read_at : (xs : List WireRequest) (place : ℕ) (wire : WireRequest) → place < length xs → wire ≡ get_or xs place wire → slice_get xs place ≡ Some wire
read_at [] place wire low e = let no : ⊥ = omega (arith, low) in absurd no
read_at (x ∷ xs) zero wire low e = ap (λ (y : WireRequest). option y) (sym e)
read_at (x ∷ xs) (suc place) wire low e = read_at xs place wire (omega (arith, low)) e

-- the fields after a request waits for its answer again
pub again_state : (v w l : ℕ) (xs ys : List WireRequest) (bytes : List ℕ) (c : ClientState) (number place : ℕ) (wire : WireRequest) (xs' ys' : List WireRequest)
    → state v w l xs ys bytes ≡ c → Some place ≡ place_of number ys → place < length ys → wire ≡ get_or ys place wire → xs' ≡ xs ++ wire ∷ [] → ys' ≡ remove ys place → IsAwaitedAgain number wire c (state v w l xs' ys' bytes)
again_state v w l xs ys bytes c number place wire xs' ys' view found low read more less =
    subst (λ (d : ClientState). IsAwaitedAgain number wire d (state v w l xs' ys' bytes)) view (record {
      place = place;
      found = sym found;
      there = read_at ys place wire low read;
      state = ap (λ (zs : List WireRequest). state v w l zs ys' bytes) more ∙ ap (λ (zs : List WireRequest). state v w l (xs ++ wire ∷ []) zs bytes) less;
    })
