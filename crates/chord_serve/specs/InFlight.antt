-- A client with several requests in flight: its state, and what each of its calls does.
-- Source: our own.
use Rattle.std.specs.Prelude.{◌≡◌, ◌≢◌, ℕ, ◌+◌, ◌-◌, ◌^◌, min, Bool, true, nat_le, List, [], ◌∷◌, ◌++◌, fold, ◌==◌, Option, Some, None, Result, Ok, Err}
use Rattle.std.specs.List.{position, remove, slice_get}
use Rattle.std.specs.Io.KnownBytes.{Appends, Keeps}
use Rattle.chord_map.specs.declared.request.Request.{Request}
use Rattle.chord_map.specs.Map.{fits}
use Rattle.chord_wire.specs.declared.request.WireRequest.{WireRequest}
use Rattle.chord_wire.specs.declared.answer.Answer.{Answer}
use Rattle.chord_wire.specs.declared.answer.Answer.TheVariants as answer
use Rattle.chord_wire.specs.declared.fault.FaultCode.TheVariants as fault
use Rattle.chord_wire.specs.Streams.{request_frame}
use Rattle.chord_serve.specs.Writes.{WritesPrefix}
use Rattle.chord_serve.specs.Calls.{GetsAnswer}
use Rattle.chord_serve.specs.declared.wire_client.SendFault.{SendFault}
use Rattle.chord_serve.specs.declared.wire_client.SendFault.TheVariants as send
use Rattle.chord_serve.specs.declared.wire_client.AgainFault.{AgainFault}
use Rattle.chord_serve.specs.declared.wire_client.AgainFault.TheVariants as again
use Rattle.chord_serve.specs.declared.wire_client.ReceiveFault.{ReceiveFault}
use Rattle.chord_serve.specs.declared.wire_client.ReceiveFault.TheVariants as receive
use Rattle.chord_serve.specs.ClientState.{ClientState}

-- a client before its first request
abbrev pub new_client : ℕ → ℕ → ClientState
new_client version window = record { version = version; window = window; last = 0; awaited = []; refused = []; bytes = [] }

-- the greatest number, at most `most`, that is below the number of each of these requests
abbrev pub floor_under : ℕ → List WireRequest → ℕ
floor_under most wires = fold (λ (floor : ℕ) (r : WireRequest). min floor (r.number - 1)) most wires

-- the greatest number with no open request at or below it
abbrev pub floor_of : ClientState → ℕ
floor_of c = floor_under (floor_under c.last c.awaited) c.refused

-- whether the next number would be more than the window above the floor
abbrev pub is_full : ClientState → Bool
is_full c = nat_le c.window (c.last - floor_of c)

-- the next request, with the number after the last one's
abbrev pub next_of : ClientState → Request → WireRequest
next_of c request = record { version = c.version; number = c.last + 1; floor = floor_of c; request = request }

-- the client with one more request that waits for its answer, after the others
abbrev pub with_sent : ClientState → Request → ClientState
with_sent c request = record { version = c.version; window = c.window; last = c.last + 1; awaited = c.awaited ++ next_of c request ∷ []; refused = c.refused; bytes = c.bytes }

-- A send writes the frame of the next request. At Write it wrote only a prefix of it; the request
-- still counts as sent.
abbrev pub SendIs : Result ℕ SendFault → Request → (old : ClientState) (held held' : Option (List ℕ)) (new : ClientState) → Type 0
SendIs (Ok number) request old held held' new = (is_full old ≢ true) × (number ≡ old.last + 1) × (new ≡ with_sent old request) × Appends held held' (request_frame (next_of old request))
SendIs (Err send.WindowFull) request old held held' new = (is_full old ≡ true) × (new ≡ old) × Keeps held held'
SendIs (Err send.NumbersSpent) request old held held' new = (is_full old ≢ true) × (old.last + 1 ≡ 2 ^ 64) × (new ≡ old) × Keeps held held'
SendIs (Err send.Write) request old held held' new = (is_full old ≢ true) × (new ≡ with_sent old request) × WritesPrefix held held' (request_frame (next_of old request))
SendIs (Err send.Memory) request old held held' new = (is_full old ≢ true) × (new ≡ old) × Keeps held held'

-- the index of the request with this number
abbrev pub place_of : ℕ → List WireRequest → Option ℕ
place_of number wires = position (λ (r : WireRequest). r.number == number) wires

-- the client with this refused request moved behind those that wait for answers
abbrev pub awaited_again : ClientState → ℕ → WireRequest → ClientState
awaited_again c place wire = record { version = c.version; window = c.window; last = c.last; awaited = c.awaited ++ wire ∷ []; refused = remove c.refused place; bytes = c.bytes }

-- the refused request of this number waits for its answer again
pub record IsAwaitedAgain (number : ℕ) (wire : WireRequest) (old new : ClientState) : Type 0 where
  pub place : ℕ
  pub found : place_of number old.refused ≡ Some place
  pub there : slice_get old.refused place ≡ Some wire
  pub state : new ≡ awaited_again old place wire

-- The frame of a refused request is written again unchanged. At Write only a prefix of it was
-- written; the request still counts as sent.
abbrev pub AgainIs : Result (Unit {0}) AgainFault → ℕ → (old : ClientState) (held held' : Option (List ℕ)) (new : ClientState) → Type 0
AgainIs (Ok done) number old held held' new = (wire : WireRequest) × IsAwaitedAgain number wire old new × Appends held held' (request_frame wire)
AgainIs (Err again.NotRefused) number old held held' new = (place_of number old.refused ≡ None) × (new ≡ old) × Keeps held held'
AgainIs (Err again.Write) number old held held' new = (wire : WireRequest) × IsAwaitedAgain number wire old new × WritesPrefix held held' (request_frame wire)
AgainIs (Err again.Memory) number old held held' new = (place_of number old.refused ≢ None) × (new ≡ old) × Keeps held held'

-- the number of an answer
abbrev pub number_in : Answer → ℕ
number_in (answer.Reply number reply) = number
number_in (answer.Fault number code) = number

-- whether the answer fits the request: a reply of its kind, or any fault
abbrev pub is_for : Answer → Request → Bool
is_for (answer.Reply number reply) request = fits reply request
is_for (answer.Fault number code) request = true

-- the server had no caller for the connection, and did nothing
abbrev pub callers_spent : Answer
callers_spent = answer.Fault 0 fault.CallersSpent

-- the refused requests after this answer: one with a fault is added
abbrev pub refused_with : Answer → WireRequest → List WireRequest → List WireRequest
refused_with (answer.Reply number reply) wire refused = refused
refused_with (answer.Fault number code) wire refused = refused ++ wire ∷ []

-- a client's judgement of an answer, with the waiting and the refused requests before and after
abbrev pub JudgedIs : Result (ℕ × Answer) ReceiveFault → Answer → (awaited refused awaited' refused' : List WireRequest) → Type 0
JudgedIs (Ok (number, got)) a awaited refused awaited' refused' = (wire : WireRequest) × (awaited ≡ wire ∷ awaited') × (got ≡ a) × (number ≡ wire.number) × (number_in a ≡ wire.number) × (is_for a wire.request ≡ true) × (refused' ≡ refused_with a wire refused) × (a ≢ callers_spent)
JudgedIs (Err receive.CallersSpent) a awaited refused awaited' refused' = (a ≡ callers_spent) × (awaited' ≡ awaited) × (refused' ≡ refused)
JudgedIs (Err receive.WrongNumber) a awaited refused awaited' refused' = (wire : WireRequest) × (rest : List WireRequest) × (awaited ≡ wire ∷ rest) × (number_in a ≢ wire.number) × (awaited' ≡ awaited) × (refused' ≡ refused) × (a ≢ callers_spent)
JudgedIs (Err receive.WrongKind) a awaited refused awaited' refused' = (wire : WireRequest) × (rest : List WireRequest) × (awaited ≡ wire ∷ rest) × (number_in a ≡ wire.number) × (is_for a wire.request ≢ true) × (awaited' ≡ awaited) × (refused' ≡ refused) × (a ≢ callers_spent)
JudgedIs (Err receive.Idle) a awaited refused awaited' refused' = ⊥
JudgedIs (Err (receive.Call why)) a awaited refused awaited' refused' = ⊥

-- the client with other open requests and bytes
abbrev pub with_open : ClientState → List WireRequest → List WireRequest → List ℕ → ClientState
with_open c awaited refused bytes = record { version = c.version; window = c.window; last = c.last; awaited = awaited; refused = refused; bytes = bytes }

-- The next answer is that of the first request that waits. If none comes, or a wrong one, the same
-- requests stay open.
abbrev pub ReceiveIs : Result (ℕ × Answer) ReceiveFault → (old : ClientState) (left left' : Option (List ℕ)) (new : ClientState) → Type 0
ReceiveIs (Err receive.Idle) old left left' new = (old.awaited ≡ []) × (new ≡ old) × Keeps left left'
ReceiveIs (Err (receive.Call why)) old left left' new = (old.awaited ≢ []) × GetsAnswer (Err why) old.bytes left left' new.bytes × (new ≡ with_open old old.awaited old.refused new.bytes)
ReceiveIs result old left left' new = (a : Answer) × GetsAnswer (Ok a) old.bytes left left' new.bytes × JudgedIs result a old.awaited old.refused new.awaited new.refused × (new ≡ with_open old new.awaited new.refused new.bytes)
