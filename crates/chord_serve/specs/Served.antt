-- What a session wrote for the bytes that it read. Source: our own.
use Rattle.std.specs.Prelude.{◌≡◌, ◌⊎◌, ◌<◌, ℕ, List, [], ◌∷◌, ◌++◌, length, Bool, true, false, not, ◌==◌, Option, Some, None, Ok, Err}
use Rattle.chord_wire.specs.declared.request.WireRequest.{WireRequest}
use Rattle.chord_wire.specs.declared.fault.WireFault.{WireFault}
use Rattle.chord_wire.specs.declared.fault.FaultCode.TheVariants.{BadVersion, OutOfPlace}
use Rattle.chord_wire.specs.declared.session_frame.SessionFrame.{SessionFrame}
use Rattle.chord_wire.specs.declared.session_frame.SessionFrame.TheVariants as frames
use Rattle.chord_wire.specs.SessionReading.{next_session}
use Rattle.chord_wire.specs.SessionSpelling.{closed_frame}
use Rattle.chord_wire.specs.Fault.{fault}
use Rattle.chord_wire.specs.Spelling.{frame}
use Rattle.chord_wire.specs.Streams.{Spells}
use Rattle.chord_wire.specs.Replies.{fault_body}
use Rattle.chord_wire.specs.Reading.{next_request}
use Rattle.chord_session.specs.SessionState.{SessionState}
use Rattle.chord_serve.specs.declared.asker.Asked.{Asked}
use Rattle.chord_serve.specs.declared.served.Served.{Served}
use Rattle.chord_serve.specs.declared.served.Served.TheVariants as served
use Rattle.chord_serve.specs.declared.client_session.ClientSession.{ClientSession}
use Rattle.chord_serve.specs.declared.parted.Parted.{Parted}
use Rattle.chord_serve.specs.declared.parted.Parted.TheVariants as parted
use Rattle.chord_serve.specs.Parting.{client, asker_of, KeptAs, OverAs}
use Rattle.chord_serve.specs.Question.{Question}
use Rattle.chord_serve.specs.Output.{bytes_written, state_after, questions, next_question, AreAnswers}
use Rattle.chord_serve.specs.Steps.{MayAsk}

-- the frame of a fault
abbrev pub fault_frame : WireFault → List ℕ
fault_frame f = frame (fault_body f.number f.code)

-- whether the version differs from that of the first request, if there was one
abbrev pub is_other : Option ℕ → ℕ → Bool
is_other None version = false
is_other (Some first) version = not (first == version)

-- whether this frame may not stand behind the first one: an Open, or a Close without a session
abbrev pub is_misplaced : Bool → SessionFrame → Bool
is_misplaced is_opened (frames.Request r) = false
is_misplaced is_opened (frames.Open o) = true
is_misplaced is_opened frames.Close = not is_opened

-- all requests have one version: that of the first one, or the one known before
abbrev pub AreOfVersion : Option ℕ → List WireRequest → Option ℕ → Type 0
AreOfVersion before [] after = after ≡ before
AreOfVersion before (r ∷ rs) after = (is_other before r.version ≡ false) × AreOfVersion (Some r.version) rs after

-- the next frame closes the session
pub record ClosesNext (is_opened : Bool) (rest : List ℕ) : Type 0 where
  pub behind : List ℕ
  pub opened : is_opened ≡ true
  pub next : next_session rest ≡ Ok (Some (frames.Close, behind))

module _ {A : Type 0} (answers : A → Question → Asked → A → Type 0) where
  -- A prefix of the bytes spells requests. Each of their questions was asked once, in order, with
  -- these answers; the output is what the session writes for them, and nothing else.
  pub record Dealt (v : Option ℕ) (s : SessionState) (a : A) (bytes output rest : List ℕ) (v' : Option ℕ) (s' : SessionState) (a' : A) : Type 0 where
    pub requests : List WireRequest
    pub given : List Asked
    pub spelled : Spells bytes requests rest
    pub versions : AreOfVersion v requests v'
    pub output_is : output ≡ bytes_written s requests given
    pub state_is : s' ≡ state_after s requests given
    pub answered : AreAnswers answers a (questions s requests given) given a'

  -- The next bytes are refused: they have a fault, or their request has another version, or their
  -- frame may not stand here.
  abbrev pub IsRefused : Bool → Option ℕ → List ℕ → WireFault → Type 0
  IsRefused is_opened v rest f = (next_session rest ≡ Err f)
      ⊎ (((r : WireRequest) × (after : List ℕ) × (next_request rest ≡ Ok (Some (r, after))) × (is_other v r.version ≡ true) × (f ≡ fault BadVersion 0))
      ⊎ ((x : SessionFrame) × (after : List ℕ) × (next_session rest ≡ Ok (Some (x, after))) × (is_misplaced is_opened x ≡ true) × (f ≡ fault OutOfPlace 0)))

  -- the session answered some requests and refused the bytes after them
  pub record Refuses (is_opened : Bool) (v : Option ℕ) (s : SessionState) (a : A) (bytes output : List ℕ) (f : WireFault) (c : ClientSession A) : Type 0 where
    pub before : List ℕ
    pub rest : List ℕ
    pub dealt : Dealt v s a bytes before rest c.version c.numbers c.asker
    pub refused : IsRefused is_opened c.version rest f
    pub output_is : output ≡ before ++ fault_frame f

  -- the session answered all whole requests
  pub record DealsWithAll (v : Option ℕ) (s : SessionState) (a : A) (bytes output rest : List ℕ) (c : ClientSession A) : Type 0 where
    pub dealt : Dealt v s a bytes output rest c.version c.numbers c.asker
    pub undecided : next_request rest ≡ Ok None

  -- the session answered some requests, and then it was closed
  pub record Closes (is_opened : Bool) (v : Option ℕ) (s : SessionState) (a : A) (bytes output : List ℕ) (a' : A) : Type 0 where
    pub before : List ℕ
    pub rest : List ℕ
    pub version : Option ℕ
    pub state : SessionState
    pub dealt : Dealt v s a bytes before rest version state a'
    pub closed : ClosesNext is_opened rest
    pub output_is : output ≡ before ++ closed_frame

  -- the next request may have been asked, and nothing was written for it yet
  pub record MayAskNext (v : Option ℕ) (s : SessionState) (a : A) (rest : List ℕ) (a' : A) : Type 0 where
    pub request : WireRequest
    pub behind : List ℕ
    pub next : next_request rest ≡ Ok (Some (request, behind))
    pub same_version : is_other v request.version ≡ false
    pub may_ask : MayAsk answers (next_question s request) a a'

  -- The session is left as it was. Or it is over: memory ran out within the answer to the next
  -- request, or for the word that it is closed.
  abbrev pub LeftSo : Bool → Parted A → Option ℕ → SessionState → A → List ℕ → Type 0
  LeftSo is_opened (parted.Kept c) v s a rest = c ≡ client v s a
  LeftSo is_opened (parted.Over a') v s a rest = MayAskNext v s a rest a' ⊎ (ClosesNext is_opened rest × (a' ≡ a))

  -- the session answered some requests
  pub record StopsAfter (is_opened : Bool) (v : Option ℕ) (s : SessionState) (a : A) (bytes output : List ℕ) (left : Parted A) : Type 0 where
    pub rest : List ℕ
    pub version : Option ℕ
    pub state : SessionState
    pub asker : A
    pub dealt : Dealt v s a bytes output rest version state asker
    pub last : LeftSo is_opened left version state asker rest

  -- What a session read and wrote over one connection, which ended in this way, and what is left of
  -- it. At Write it wrote a prefix of its output; memory may have run out, a frame been refused, or
  -- the session been closed, before.
  abbrev pub IsParted : Bool → Served → Option ℕ → SessionState → A → List ℕ → List ℕ → Parted A → Type 0
  IsParted is_opened served.Ended v s a input output left = KeptAs left (DealsWithAll v s a input output [])
  IsParted is_opened served.Truncated v s a input output left = (rest : List ℕ) × (0 < length rest) × KeptAs left (DealsWithAll v s a input output rest)
  IsParted is_opened served.Read v s a input output left = (rest : List ℕ) × KeptAs left (DealsWithAll v s a input output rest)
  IsParted is_opened served.TurnsSpent v s a input output left = (rest : List ℕ) × KeptAs left (DealsWithAll v s a input output rest)
  IsParted is_opened (served.Malformed code) v s a input output left = (f : WireFault) × (f.code ≡ code) × KeptAs left (Refuses is_opened v s a input output f)
  IsParted is_opened served.Quit v s a input output left = OverAs left (Closes is_opened v s a input output)
  IsParted is_opened served.Write v s a input output left = (whole : List ℕ) × (rest : List ℕ) × (whole ≡ output ++ rest)
      × (StopsAfter is_opened v s a input whole left ⊎ (((f : WireFault) × KeptAs left (Refuses is_opened v s a input whole f)) ⊎ OverAs left (Closes is_opened v s a input whole)))
  IsParted is_opened served.Memory v s a input output left = StopsAfter is_opened v s a input output left
  IsParted is_opened served.Protocol v s a input output left = ⊥
  IsParted is_opened served.Foreign v s a input output left = ⊥

  -- The same of a connection that began without an Open: its session ends with it, and its asker is
  -- given back.
  abbrev pub IsServed : Served → Option ℕ → SessionState → A → List ℕ → List ℕ → A → Type 0
  IsServed end v s a input output a' = (left : Parted A) × IsParted false end v s a input output left × (asker_of left ≡ a')

-- a fault's frame was added to the output, or there was no memory for it
abbrev pub TellsFault : Served → WireFault → List ℕ → List ℕ → Type 0
TellsFault (served.Malformed code) f old new = (f.code ≡ code) × (new ≡ old ++ fault_frame f)
TellsFault served.Memory f old new = new ≡ old
TellsFault served.Write f old new = ⊥
TellsFault served.Ended f old new = ⊥
TellsFault served.Truncated f old new = ⊥
TellsFault served.Read f old new = ⊥
TellsFault served.TurnsSpent f old new = ⊥
TellsFault served.Protocol f old new = ⊥
TellsFault served.Foreign f old new = ⊥
TellsFault served.Quit f old new = ⊥

-- the frame that says that the session ended was added to the output, or there was no memory for it
abbrev pub TellsClosed : Served → List ℕ → List ℕ → Type 0
TellsClosed served.Quit old new = new ≡ old ++ closed_frame
TellsClosed served.Memory old new = new ≡ old
TellsClosed (served.Malformed code) old new = ⊥
TellsClosed served.Write old new = ⊥
TellsClosed served.Ended old new = ⊥
TellsClosed served.Truncated old new = ⊥
TellsClosed served.Read old new = ⊥
TellsClosed served.TurnsSpent old new = ⊥
TellsClosed served.Protocol old new = ⊥
TellsClosed served.Foreign old new = ⊥
