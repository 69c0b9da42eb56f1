-- The call that a request makes, or why it is refused. Source: our own.
use Rattle.std.specs.Prelude.{◌≡◌, ◌⊎◌, ℕ, List, length, not, nat_lt, codes, bytes_eq, Option, Some, None, option_map, Result, Ok, Err, if◌then◌else◌}
use Rattle.http_header.specs.HeaderMap.{get}
use Rattle.http_uri.specs.Uri.{uri_path, uri_query}
use Rattle.http.specs.declared.request.Parts.{Parts}
use Rattle.chord_app_operator.specs.declared.request.calls.OperatorCall.{OperatorCall}
use Rattle.chord_app_operator.specs.declared.request.calls.OperatorCall.TheVariants as Call
use Rattle.chord_app_operator.specs.declared.request.fault.Fault.{Fault}
use Rattle.chord_app_operator.specs.declared.request.format.Format.{Format}
use Rattle.chord_app_operator.specs.declared.request.format.Format.TheVariants.{Json, Text}
use Rattle.chord_app_operator.specs.declared.request.refusal.Refusal.{Refusal}
use Rattle.chord_app_operator.specs.declared.request.refusal.Refusal.TheVariants.{ForeignHost, ForeignOrigin, NoSuchPath, WrongMethod, BodyTooLong, Bad, Memory}
use Rattle.chord_app_operator.specs.declared.request.resource.Resource.{Resource}
use Rattle.chord_app_operator.specs.declared.request.resource.Resource.TheVariants.{Page, Ring, Metrics, Health, Ready, Nodes, Leave, Crash, Rescue, Holder, Pairs, Stop}
use Rattle.chord_app_operator.specs.Words.{allows}
use Rattle.chord_app_operator.specs.Outcomes.{and_then}
use Rattle.chord_app_operator.specs.Sites.{is_for_own_host, is_from_own_origin}
use Rattle.chord_app_operator.specs.Paths.{verb_of, resource_of}
use Rattle.chord_app_operator.specs.Queries.{pairs_request}
use Rattle.chord_app_operator.specs.Rows.{rows_asked}
use Rattle.chord_app_operator.specs.Bodies.{body_object, join_of, force_of}

-- a body has at most this many bytes
abbrev pub body_limit : ℕ
body_limit = 4096

-- a call, or what is wrong with the request
abbrev pub make : {X : Type 0} → (X → OperatorCall) → Result X Fault → Result OperatorCall Refusal
make call (Err fault) = Err (Bad fault)
make call (Ok x) = Ok (call x)

-- the call at a resource, with this query and this body
abbrev pub call_at : Resource → Option (List ℕ) → List ℕ → Result OperatorCall Refusal
call_at Page query body = Ok Call.Page
call_at Ring query body = make Call.Ring (rows_asked query)
call_at Metrics query body = Ok Call.Metrics
call_at Health query body = Ok Call.Health
call_at Ready query body = Ok Call.Ready
call_at Nodes query body = make Call.Join (and_then join_of (body_object body))
call_at (Leave node) query body = Ok (Call.Leave node)
call_at (Crash node) query body = make (λ forced. Call.Crash (record { node = node; is_forced = forced })) (and_then force_of (body_object body))
call_at (Rescue node) query body = Ok (Call.Rescue node)
call_at (Holder id) query body = Ok (Call.Holder id)
call_at Pairs query body = make Call.Pairs (pairs_request query)
call_at Stop query body = Ok Call.Stop

-- the same, if its method and the length of its body are right
abbrev pub allowed_call : Parts → List ℕ → Resource → Result OperatorCall Refusal
allowed_call head body resource =
    if not (allows (verb_of resource) head.method) then Err (WrongMethod (verb_of resource))
    else (if nat_lt body_limit (length body) then Err BodyTooLong
    else call_at resource (uri_query head.uri) body)

abbrev pub call_if_named : Parts → List ℕ → Option Resource → Result OperatorCall Refusal
call_if_named head body None = Err NoSuchPath
call_if_named head body (Some resource) = allowed_call head body resource

-- The call that a request makes at a port. Nothing else of a request is looked at where its host or
-- its origin is foreign.
abbrev pub requested : ℕ → Parts → List ℕ → Result OperatorCall Refusal
requested port head body =
    if not (is_for_own_host port head) then Err ForeignHost
    else (if not (is_from_own_origin port head) then Err ForeignOrigin
    else call_if_named head body (resource_of (uri_path head.uri)))

-- the form in which a request wants its answer: text if its first field `accept` is `text/plain`
abbrev pub format_named : Option (List ℕ) → Format
format_named None = Json
format_named (Some kind) = if bytes_eq kind (codes "text/plain") then Text else Json

abbrev pub format_of : Parts → Format
format_of head = format_named (option_map (λ v. v.bytes) (get head.headers (codes "accept")))

-- a call, or out of memory
abbrev pub UnlessMemory : {X : Type 0} → Result X Refusal → Result X Refusal → Type 0
UnlessMemory result expected = (result ≡ expected) ⊎ (result ≡ Err Memory)
