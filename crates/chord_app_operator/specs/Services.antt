-- What a service answers, and what it asks its operator: each request at most one question. Source:
-- our own.
use Rattle.std.specs.Prelude.{◌≡◌, ◌⊎◌, ℕ, List, ⊤, codes, Result, Ok, Err}
use Rattle.std.specs.declared.alloc.AllocError.{AllocError}
use Rattle.http.specs.declared.request.Request.{Request}
use Rattle.http.specs.Request.{head_of, body_of}
use Rattle.http_server.specs.declared.response.Response.{Response}
use Rattle.http_server.specs.Response.{IsResponse}
use Rattle.chord_app_operator.specs.declared.request.format.Format.{Format}
use Rattle.chord_app_operator.specs.declared.request.refusal.Refusal.{Refusal}
use Rattle.chord_app_operator.specs.declared.request.refusal.Refusal.TheVariants as R
use Rattle.chord_app_operator.specs.declared.request.calls.OperatorCall.{OperatorCall}
use Rattle.chord_app_operator.specs.declared.request.calls.OperatorCall.TheVariants as Call
use Rattle.chord_app_operator.specs.declared.sight.health.HealthSight.{HealthSight}
use Rattle.chord_app_operator.specs.declared.sight.ring.RingSight.{RingSight}
use Rattle.chord_app_operator.specs.declared.operator.pairs.PairsPage.{PairsPage}
use Rattle.chord_app_operator.specs.declared.operator.holder.Holder.{Holder}
use Rattle.chord_app_operator.specs.declared.operator.refusals.JoinRefusal.{JoinRefusal}
use Rattle.chord_app_operator.specs.declared.operator.refusals.LeaveRefusal.{LeaveRefusal}
use Rattle.chord_app_operator.specs.declared.operator.refusals.CrashRefusal.{CrashRefusal}
use Rattle.chord_app_operator.specs.declared.operator.refusals.RescueRefusal.{RescueRefusal}
use Rattle.chord_app_operator.specs.Questions.{Question, Sight, Health, Join, Leave, Crash, Rescue, Hold, ReadPairs, Stop, Answer, Seen, HealthTold, Joined, BeganToLeave, HasCrashed, RescueBegan, Held, PairsRead, Stopping}
use Rattle.chord_app_operator.specs.Requests.{UnlessMemory, format_of, requested}
use Rattle.chord_app_operator.specs.Rows.{ToldRows}
use Rattle.chord_app_operator.specs.Json.{holder_data}
use Rattle.chord_app_operator.specs.Health.{unhealthy, unready}
use Rattle.chord_app_operator.specs.Metrics.{metrics_text}
use Rattle.chord_app_operator.specs.Replies.{typed, text_type, metrics_type, IsPage, IsJson, IsState, IsRing, IsNode, IsRefused, IsPairs, IsFull}

-- the response to what the operator told
abbrev pub ShowsRing : Format → Result RingSight AllocError → Response → Type 0
ShowsRing format (Ok sight) response = IsRing format sight response
ShowsRing format (Err full) response = IsRefused format R.Memory response

abbrev pub ShowsMetrics : Format → Result RingSight AllocError → Response → Type 0
ShowsMetrics format (Ok sight) response = IsResponse 200 (typed metrics_type) (metrics_text sight) response
ShowsMetrics format (Err full) response = IsRefused format R.Memory response

abbrev pub ShowsJoin : Format → Result ℕ JoinRefusal → Response → Type 0
ShowsJoin format (Ok node) response = IsNode format 201 node (codes "joined") response
ShowsJoin format (Err refusal) response = IsRefused format (R.Join refusal) response

abbrev pub ShowsLeave : Format → ℕ → Result ⊤ LeaveRefusal → Response → Type 0
ShowsLeave format node (Ok _) response = IsNode format 202 node (codes "begins to leave") response
ShowsLeave format node (Err refusal) response = IsRefused format (R.Leave refusal) response

abbrev pub ShowsCrash : Format → ℕ → Result ⊤ CrashRefusal → Response → Type 0
ShowsCrash format node (Ok _) response = IsNode format 200 node (codes "crashed") response
ShowsCrash format node (Err refusal) response = IsRefused format (R.Crash refusal) response

abbrev pub ShowsRescue : Format → ℕ → Result ⊤ RescueRefusal → Response → Type 0
ShowsRescue format node (Ok _) response = IsNode format 202 node (codes "is being rescued") response
ShowsRescue format node (Err refusal) response = IsRefused format (R.Rescue refusal) response

abbrev pub ShowsPairs : Format → Result PairsPage AllocError → Response → Type 0
ShowsPairs format (Ok page) response = IsPairs page response
ShowsPairs format (Err full) response = IsRefused format R.Memory response

-- this response, or memory ran out while it was made
abbrev pub OrFull : Type 0 → Response → Type 0
OrFull Shown response = Shown ⊎ IsFull response

module _ {O : Type 0} (answers : O → Question → Answer → O → Type 0) where
  -- The operator is asked the one question of a call, and the response shows its answer. The page
  -- asks nothing.
  abbrev pub IsAnswered : Format → OperatorCall → O → Response → O → Type 0
  IsAnswered format Call.Page old response new = (new ≡ old) × OrFull (IsPage response) response
  IsAnswered format (Call.Ring rows) old response new =
      (told : Result RingSight AllocError) × answers old Sight (Seen told) new
      × (kept : Result RingSight AllocError) × ToldRows rows told kept × OrFull (ShowsRing format kept response) response
  IsAnswered format Call.Metrics old response new =
      (told : Result RingSight AllocError) × answers old Sight (Seen told) new × OrFull (ShowsMetrics format told response) response
  IsAnswered format Call.Health old response new =
      (told : HealthSight) × answers old Health (HealthTold told) new
      × OrFull (IsState (unhealthy told) response) response
  IsAnswered format Call.Ready old response new =
      (told : HealthSight) × answers old Health (HealthTold told) new
      × OrFull (IsState (unready told) response) response
  IsAnswered format (Call.Join request) old response new =
      (told : Result ℕ JoinRefusal) × answers old (Join request) (Joined told) new × OrFull (ShowsJoin format told response) response
  IsAnswered format (Call.Leave node) old response new =
      (told : Result ⊤ LeaveRefusal) × answers old (Leave node) (BeganToLeave told) new × OrFull (ShowsLeave format node told response) response
  IsAnswered format (Call.Crash request) old response new =
      (told : Result ⊤ CrashRefusal) × answers old (Crash request) (HasCrashed told) new × OrFull (ShowsCrash format request.node told response) response
  IsAnswered format (Call.Rescue node) old response new =
      (told : Result ⊤ RescueRefusal) × answers old (Rescue node) (RescueBegan told) new × OrFull (ShowsRescue format node told response) response
  IsAnswered format (Call.Holder id) old response new =
      (told : Holder) × answers old (Hold id) (Held told) new × OrFull (IsJson 200 (holder_data id told) response) response
  IsAnswered format (Call.Pairs request) old response new =
      (told : Result PairsPage AllocError) × answers old (ReadPairs request) (PairsRead told) new × OrFull (ShowsPairs format told response) response
  IsAnswered format Call.Stop old response new =
      answers old Stop Stopping new × OrFull (IsResponse 202 (typed text_type) (codes "the server stops\n") response) response

  -- A request that is refused asks nothing.
  abbrev pub IsDealtWith : Format → Result OperatorCall Refusal → O → Response → O → Type 0
  IsDealtWith format (Err refusal) old response new = (new ≡ old) × OrFull (IsRefused format refusal response) response
  IsDealtWith format (Ok call) old response new = IsAnswered format call old response new

  -- What a service at a port does with a request: what the request is read as is what it asks for,
  -- unless memory ran out. It is answered in the form that the request wants.
  abbrev pub IsServed : ℕ → O → Request (List ℕ) → Response → O → Type 0
  IsServed port old request response new =
      (read : Result OperatorCall Refusal) × UnlessMemory read (requested port (head_of request) (body_of request)) × IsDealtWith (format_of (head_of request)) read old response new
