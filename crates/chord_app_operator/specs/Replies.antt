-- The responses. Source: our own, over RFC 9110.
use Rattle.std.specs.Prelude.{ℕ, List, [], ◌∷◌, ◌++◌, codes, Option, Some, None}
use Rattle.serde_json.specs.Data.{Data}
use Rattle.serde_json.specs.Written.{compact_text}
use Rattle.http1.specs.Fields.{Header}
use Rattle.http_server.specs.declared.response.Response.{Response}
use Rattle.http_server.specs.Response.{IsResponse}
use Rattle.chord_ident.specs.declared.id.Id.{Id}
use Rattle.chord_app_operator.specs.declared.request.format.Format.{Format}
use Rattle.chord_app_operator.specs.declared.request.format.Format.TheVariants.{Json, Text}
use Rattle.chord_app_operator.specs.declared.request.refusal.Refusal.{Refusal}
use Rattle.chord_app_operator.specs.declared.request.refusal.Refusal.TheVariants.{WrongMethod}
use Rattle.chord_app_operator.specs.declared.operator.pairs.PairsPage.{PairsPage}
use Rattle.chord_app_operator.specs.declared.sight.ring.RingSight.{RingSight}
use Rattle.chord_app_operator.specs.declared.show.front_page.TheConstants.{FRONT_PAGE, PAGE_POLICY}
use Rattle.chord_app_operator.specs.Words.{allowed_text, refusal_status, state_word}
use Rattle.chord_app_operator.specs.Json.{id_hex, node_named, refused, ring_data}
use Rattle.chord_app_operator.specs.Lines.{node_deed, pair_lines, refusal_line, ring_table}

-- the fields of an answer of this type, which no one may keep
abbrev pub typed : List ℕ → List Header
typed kind = (codes "content-type", kind) ∷ (codes "cache-control", codes "no-store") ∷ []

-- the types
abbrev pub html_type : List ℕ
html_type = codes "text/html; charset=utf-8"

abbrev pub json_type : List ℕ
json_type = codes "application/json"

abbrev pub text_type : List ℕ
text_type = codes "text/plain; charset=utf-8"

abbrev pub metrics_type : List ℕ
metrics_type = codes "text/plain; version=0.0.4; charset=utf-8"

-- the page, which may load nothing and stand in no frame
abbrev pub IsPage : Response → Type 0
IsPage response = IsResponse 200 (typed html_type ++ (codes "content-security-policy", PAGE_POLICY.now) ∷ []) FRONT_PAGE.now response

-- JSON with this status
abbrev pub IsJson : ℕ → Data → Response → Type 0
IsJson code value response = IsResponse code (typed json_type) (compact_text value) response

-- `ok`, or why not
abbrev pub IsState : Option (List ℕ) → Response → Type 0
IsState None response = IsResponse 200 (typed text_type) (codes "ok\n") response
IsState (Some reason) response = IsResponse 503 (typed text_type) reason response

-- the type of an answer in a form, and its body: of a value in JSON, or of lines
abbrev pub type_in : Format → List ℕ
type_in Json = json_type
type_in Text = text_type

abbrev pub body_in : Format → Data → List ℕ → List ℕ
body_in Json value lines = compact_text value
body_in Text value lines = lines

-- the ring
abbrev pub IsRing : Format → RingSight → Response → Type 0
IsRing format sight response = IsResponse 200 (typed (type_in format)) (body_in format (ring_data sight) (ring_table sight)) response

-- what was done to a node
abbrev pub IsNode : Format → (code node : ℕ) → (deed : List ℕ) → Response → Type 0
IsNode format code node deed response =
    IsResponse code (typed (type_in format)) (body_in format (node_named node) (node_deed node deed)) response

-- the fields of a refusal: for a wrong method also those that are right
abbrev pub refusal_fields : Format → Refusal → List Header
refusal_fields format (WrongMethod verb) = typed (type_in format) ++ (codes "allow", allowed_text verb) ∷ []
refusal_fields format refusal = typed (type_in format)

-- a refusal, by its name
abbrev pub IsRefused : Format → Refusal → Response → Type 0
IsRefused format refusal response =
    IsResponse (refusal_status refusal) (refusal_fields format refusal) (body_in format (refused refusal) (refusal_line refusal)) response

-- the field `chord-page` says who holds the identifier that a page begins with, and where there are
-- more pairs, the field `chord-next` names the one to go on from
abbrev pub next_fields : Option Id → List Header
next_fields None = []
next_fields (Some next) = (codes "chord-next", id_hex next) ∷ []

abbrev pub pairs_fields : PairsPage → List Header
pairs_fields page = typed text_type ++ ((codes "chord-page", state_word page.state) ∷ next_fields page.next)

abbrev pub IsPairs : PairsPage → Response → Type 0
IsPairs page response = IsResponse 200 (pairs_fields page) (pair_lines page.pairs.items) response

-- memory ran out: a response without a body
abbrev pub IsFull : Response → Type 0
IsFull response = IsResponse 507 [] [] response
