-- A client whose session goes on over other connections. Source: docs/protocol.md.
use Rattle.std.specs.Prelude.{◌≡◌, ◌≢◌, ℕ, Bool, true, false, ◌&&◌, nat_le, ◌==◌, if◌then◌else◌, List, [], Option, Result, Ok, Err}
use Rattle.std.specs.List.{flat_map}
use Rattle.std.specs.Io.KnownBytes.{Appends, Keeps}
use Rattle.chord_wire.specs.declared.answer.Answer.TheVariants as answer
use Rattle.chord_wire.specs.declared.fault.FaultCode.{FaultCode}
use Rattle.chord_wire.specs.declared.fault.FaultCode.TheVariants as fault
use Rattle.chord_wire.specs.declared.session_answer.SessionAnswer.{SessionAnswer}
use Rattle.chord_wire.specs.declared.session_answer.SessionAnswer.TheVariants as told
use Rattle.chord_wire.specs.declared.session_frame.Opening.{Opening}
use Rattle.chord_wire.specs.declared.session_frame.SessionFrame.TheVariants.{Open, Close}
use Rattle.chord_wire.specs.declared.token.Token.{Token}
use Rattle.chord_wire.specs.SessionSpelling.{session_frame}
use Rattle.chord_wire.specs.Streams.{request_frame}
use Rattle.chord_serve.specs.Writes.{WritesPrefix}
use Rattle.chord_serve.specs.declared.calls.CallFault.{CallFault}
use Rattle.chord_serve.specs.declared.told.Told.{Told}
use Rattle.chord_serve.specs.Told.{Tells}
use Rattle.chord_serve.specs.declared.wire_client.sessions.OpenFault.{OpenFault}
use Rattle.chord_serve.specs.declared.wire_client.sessions.OpenFault.TheVariants as opening
use Rattle.chord_serve.specs.declared.wire_client.sessions.BeginFault.{BeginFault}
use Rattle.chord_serve.specs.declared.wire_client.sessions.BeginFault.TheVariants as beginning
use Rattle.chord_serve.specs.declared.wire_client.sessions.ResumeFault.{ResumeFault}
use Rattle.chord_serve.specs.declared.wire_client.sessions.ResumeFault.TheVariants as resuming
use Rattle.chord_serve.specs.declared.wire_client.sessions.CloseFault.{CloseFault}
use Rattle.chord_serve.specs.declared.wire_client.sessions.CloseFault.TheVariants as closing
use Rattle.chord_serve.specs.ClientState.{ClientState}
use Rattle.chord_serve.specs.InFlight.{floor_of, with_open}

-- behind a lost connection what was read of an answer is dropped, and all requests stay as they are
abbrev pub behind_loss : ClientState → ClientState
behind_loss c = with_open c c.awaited c.refused []

-- the frames of the requests that have no answer, in the order in which they were sent
abbrev pub awaited_frames : ClientState → List ℕ
awaited_frames c = flat_map request_frame c.awaited

-- why a session is not opened, by the code of the server's fault
abbrev pub refusal_of : FaultCode → OpenFault
refusal_of fault.SessionKnown = opening.SessionKnown
refusal_of fault.NoSession = opening.NoSession
refusal_of fault.CallersSpent = opening.CallersSpent
refusal_of fault.OutOfPlace = opening.OutOfPlace
refusal_of code = opening.Refused code

-- the numbers of the server's session are some that the client gave
abbrev pub has_numbers : ClientState → ℕ → ℕ → Bool
has_numbers c floor last = nat_le floor (floor_of c) && nat_le last c.last

-- what the answer to an Open says, which has nothing behind it
abbrev pub opened_by : ClientState → SessionAnswer → Bool → Result (Unit {0}) OpenFault
opened_by c (told.Opened floor last) true = if has_numbers c floor last then Ok tt else Err opening.OtherNumbers
opened_by c (told.Opened floor last) false = Err opening.Unasked
opened_by c (told.Answer (answer.Fault number code)) alone = if number == 0 then Err (refusal_of code) else Err opening.OtherAnswer
opened_by c (told.Answer (answer.Reply number reply)) alone = Err opening.OtherAnswer
opened_by c told.Closed alone = Err opening.OtherAnswer

-- how an Open ends, by what the server told, if it did
abbrev pub opened_after : ClientState → Result Told CallFault → Result (Unit {0}) OpenFault
opened_after c (Ok t) = opened_by c t.answer t.is_alone
opened_after c (Err why) = Err (opening.Call why)

-- an Open is written, and its answer taken
abbrev pub OpenIs : Result (Unit {0}) OpenFault → Opening → ClientState → (left left' held held' : Option (List ℕ)) → Type 0
OpenIs result o c left left' held held' = (heard : Result Told CallFault) × Tells heard (session_frame (Open o)) left left' held held' × (result ≡ opened_after c heard)

-- the Open of a session that begins, or is resumed
abbrev pub begins : Token → Opening
begins token = record { token = token; resumes = false }

abbrev pub resumes : Token → Opening
resumes token = record { token = token; resumes = true }

-- A session begins, with a client that sent nothing yet.
abbrev pub BeginIs : Result (Unit {0}) BeginFault → Token → (old : ClientState) (left left' held held' : Option (List ℕ)) (new : ClientState) → Type 0
BeginIs (Ok done) token old left left' held held' new = (old.version ≡ 2) × (old.last ≡ 0) × (new ≡ behind_loss old) × OpenIs (Ok done) (begins token) old left left' held held'
BeginIs (Err (beginning.Open why)) token old left left' held held' new = (old.version ≡ 2) × (old.last ≡ 0) × (new ≡ behind_loss old) × OpenIs (Err why) (begins token) old left left' held held'
BeginIs (Err beginning.Version) token old left left' held held' new = (old.version ≢ 2) × (new ≡ old) × Keeps left left' × Keeps held held'
BeginIs (Err beginning.Used) token old left left' held held' new = (old.version ≡ 2) × (old.last ≢ 0) × (new ≡ old) × Keeps left left' × Keeps held held'

-- A session goes on over another connection: behind its Open each request that has no answer is
-- written again, the very same frame, in order. Nothing is awaited that was not, and nothing is
-- awaited no more. At Write only a prefix of these frames was written.
abbrev pub ResumeIs : Result (Unit {0}) ResumeFault → Token → (old : ClientState) (left left' held held' : Option (List ℕ)) (new : ClientState) → Type 0
ResumeIs (Ok done) token old left left' held held' new = (old.version ≡ 2) × (new ≡ behind_loss old)
    × ((opened : Option (List ℕ)) × OpenIs (Ok done) (resumes token) old left left' held opened × Appends opened held' (awaited_frames old))
ResumeIs (Err (resuming.Open why)) token old left left' held held' new = (old.version ≡ 2) × (new ≡ behind_loss old) × OpenIs (Err why) (resumes token) old left left' held held'
ResumeIs (Err resuming.Write) token old left left' held held' new = (old.version ≡ 2) × (new ≡ behind_loss old)
    × ((opened : Option (List ℕ)) × OpenIs (Ok tt) (resumes token) old left left' held opened × WritesPrefix opened held' (awaited_frames old))
ResumeIs (Err resuming.Version) token old left left' held held' new = (old.version ≢ 2) × (new ≡ old) × Keeps left left' × Keeps held held'
ResumeIs (Err resuming.Memory) token old left left' held held' new = (old.version ≡ 2) × (new ≡ behind_loss old) × Keeps left left' × Keeps held held'

-- what the answer to a Close says
abbrev pub closed_by : SessionAnswer → Result (Unit {0}) CloseFault
closed_by told.Closed = Ok tt
closed_by (told.Answer (answer.Fault number code)) = if number == 0 then Err (closing.Refused code) else Err closing.OtherAnswer
closed_by (told.Answer (answer.Reply number reply)) = Err closing.OtherAnswer
closed_by (told.Opened floor last) = Err closing.OtherAnswer

-- how a Close ends, by what the server told, if it did
abbrev pub closed_after : Result Told CallFault → Result (Unit {0}) CloseFault
closed_after (Ok t) = closed_by t.answer
closed_after (Err why) = Err (closing.Call why)

-- a Close is written, and its answer taken
abbrev pub EndIs : Result (Unit {0}) CloseFault → (left left' held held' : Option (List ℕ)) → Type 0
EndIs result left left' held held' = (heard : Result Told CallFault) × Tells heard (session_frame Close) left left' held held' × (result ≡ closed_after heard)

-- A session of which nothing is awaited is ended.
abbrev pub CloseIs : Result (Unit {0}) CloseFault → ClientState → (left left' held held' : Option (List ℕ)) → Type 0
CloseIs (Err closing.Version) c left left' held held' = (c.version ≢ 2) × Keeps left left' × Keeps held held'
CloseIs (Err closing.InFlight) c left left' held held' = (c.version ≡ 2) × (c.awaited ≢ []) × Keeps left left' × Keeps held held'
CloseIs (Err closing.Unasked) c left left' held held' = (c.version ≡ 2) × (c.awaited ≡ []) × (c.bytes ≢ []) × Keeps left left' × Keeps held held'
CloseIs result c left left' held held' = (c.version ≡ 2) × (c.awaited ≡ []) × (c.bytes ≡ []) × EndIs result left left' held held'
