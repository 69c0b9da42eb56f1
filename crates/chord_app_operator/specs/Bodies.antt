-- What the bodies ask for. Source: our own, over JSON (RFC 8259).
use Rattle.std.specs.Prelude.{ℕ, ◌+◌, List, [], ◌∷◌, length, Bool, true, false, ◌==◌, codes, Option, Some, None, Result, Ok, Err, is_some, option_and_then, if◌then◌else◌}
use Rattle.std.specs.List.{sum_by}
use Rattle.std.specs.Str.{is_utf8}
use Rattle.serde_json.specs.Data.{Data, object, no_members, Members, member}
use Rattle.serde_json.specs.Find.{get, as_object, as_str, as_number, as_u64, as_bool}
use Rattle.serde_json.specs.Read.{read}
use Rattle.serde_json.specs.View.{view}
use Rattle.serde_json.specs.declared.value.Value.{Value}
use Rattle.chord_ident.specs.declared.id.Id.{Id}
use Rattle.chord_app_operator.specs.declared.request.calls.JoinRequest.{JoinRequest}
use Rattle.chord_app_operator.specs.declared.request.store_kind.StoreKind.{StoreKind}
use Rattle.chord_app_operator.specs.declared.request.store_kind.StoreKind.TheVariants as Kind
use Rattle.chord_app_operator.specs.declared.request.fault.Fault.{Fault}
use Rattle.chord_app_operator.specs.declared.request.fault.Fault.TheVariants.{NotJson, NotObject, UnknownMember, BadId, BadStore, BadLimit, BadVia, BadForce}
use Rattle.chord_app_operator.specs.Words.{store_of}
use Rattle.chord_app_operator.specs.Outcomes.{and_then}
use Rattle.chord_app_operator.specs.Queries.{id_of}

-- the value that a text is, if the text is UTF-8
abbrev pub read_utf8 : List ℕ → Option Data
read_utf8 text = if is_utf8 text then read text else None

-- a value of the code by its data
abbrev pub viewed : Result Value Fault → Result Data Fault
viewed (Ok value) = Ok (view value)
viewed (Err fault) = Err fault

-- an object
abbrev pub if_object : Data → Result Data Fault
if_object d = if is_some (as_object d) then Ok d else Err NotObject

abbrev pub object_of : Option Data → Result Data Fault
object_of None = Err NotJson
object_of (Some d) = if_object d

-- the object of a body; an empty body is an object without members
abbrev pub body_object : List ℕ → Result Data Fault
body_object text = if length text == 0 then Ok (object no_members) else object_of (read_utf8 text)

-- how many members there are
abbrev pub members_len : Members → ℕ
members_len no_members = 0
members_len (member k d ms) = members_len ms + 1

abbrev pub object_len : Option Members → ℕ
object_len None = 0
object_len (Some ms) = members_len ms

-- 1 for a member that is there
abbrev pub count_of : Data → List ℕ → ℕ
count_of d name = if is_some (get name d) then 1 else 0

-- the object has as many members as of these names, so no other
abbrev pub has_only : List (List ℕ) → Data → Bool
has_only names d = object_len (as_object d) == sum_by (count_of d) names

-- a member that may be absent
abbrev pub present : {X : Type 0} → Fault → Option X → Result (Option X) Fault
present fault None = Err fault
present fault (Some x) = Ok (Some x)

abbrev pub optional : {X : Type 0} → (Data → Option X) → Fault → Option Data → Result (Option X) Fault
optional reading fault None = Ok None
optional reading fault (Some d) = present fault (reading d)

-- the identifier, the kind of store and the number that a value writes
abbrev pub as_id : Data → Option Id
as_id d = option_and_then id_of (as_str d)

abbrev pub as_store : Data → Option StoreKind
as_store d = option_and_then store_of (as_str d)

abbrev pub as_count : Data → Option ℕ
as_count d = option_and_then as_u64 (as_number d)

-- the members that a join has
abbrev pub join_names : List (List ℕ)
join_names = codes "id" ∷ codes "store" ∷ codes "limit" ∷ codes "via" ∷ []

-- a tree where no kind is named
abbrev pub store_or_tree : Option StoreKind → StoreKind
store_or_tree None = Kind.Tree
store_or_tree (Some kind) = kind

-- only a capped store has a limit
abbrev pub fits_store : StoreKind → Option ℕ → Bool
fits_store kind None = true
fits_store Kind.Capped (Some limit) = true
fits_store Kind.Tree (Some limit) = false
fits_store Kind.List (Some limit) = false

abbrev pub join_of_parts : Option Id → StoreKind → Option ℕ → Option ℕ → Result JoinRequest Fault
join_of_parts id store limit via =
    if fits_store store limit then Ok (record { id = id; store = store; limit = limit; via = via }) else Err BadLimit

-- the members of a join, read in this order
abbrev pub join_of_members : Data → Result JoinRequest Fault
join_of_members d =
    and_then (λ id. and_then (λ store. and_then (λ limit. and_then (λ via.
    join_of_parts id (store_or_tree store) limit via)
    (optional as_count BadVia (get (codes "via") d)))
    (optional as_count BadLimit (get (codes "limit") d)))
    (optional as_store BadStore (get (codes "store") d)))
    (optional as_id BadId (get (codes "id") d))

-- the join that an object asks for
abbrev pub join_of : Data → Result JoinRequest Fault
join_of d = if has_only join_names d then join_of_members d else Err UnknownMember

-- it is not where the body does not say so
abbrev pub forced_or_not : Option Bool → Result Bool Fault
forced_or_not None = Ok false
forced_or_not (Some forced) = Ok forced

-- whether a crash is forced
abbrev pub force_of : Data → Result Bool Fault
force_of d =
    if has_only (codes "force" ∷ []) d then and_then forced_or_not (optional as_bool BadForce (get (codes "force") d))
    else Err UnknownMember
