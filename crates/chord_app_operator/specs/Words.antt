-- The words of requests and answers, and the statuses. Source: our own, over RFC 9110 for methods
-- and statuses.
use Rattle.std.specs.Prelude.{ℕ, List, Bool, ◌||◌, codes, bytes_eq, Option, Some, None, if◌then◌else◌}
use Rattle.chord_app_operator.specs.declared.request.store_kind.StoreKind.{StoreKind}
use Rattle.chord_app_operator.specs.declared.request.store_kind.StoreKind.TheVariants as Kind
use Rattle.chord_app_operator.specs.declared.request.verb.Verb.{Verb}
use Rattle.chord_app_operator.specs.declared.request.verb.Verb.TheVariants.{Look, Act}
use Rattle.chord_app_operator.specs.declared.request.fault.Fault.{Fault}
use Rattle.chord_app_operator.specs.declared.request.fault.Fault.TheVariants.{NotJson, NotObject, UnknownMember, BadId, BadStore, BadLimit, BadVia, BadForce, BadAfter, UnknownParameter}
use Rattle.chord_app_operator.specs.declared.request.refusal.Refusal.{Refusal}
use Rattle.chord_app_operator.specs.declared.request.refusal.Refusal.TheVariants.{ForeignHost, ForeignOrigin, NoSuchPath, WrongMethod, BodyTooLong, Bad, Join, Leave, Crash, Rescue, Memory}
use Rattle.chord_app_operator.specs.declared.operator.pairs.PageState.{PageState}
use Rattle.chord_app_operator.specs.declared.operator.pairs.PageState.TheVariants.{Held, UnderWay, Lost}
use Rattle.chord_app_operator.specs.declared.operator.refusals.JoinRefusal.{JoinRefusal}
use Rattle.chord_app_operator.specs.declared.operator.refusals.JoinRefusal.TheVariants as J
use Rattle.chord_app_operator.specs.declared.operator.refusals.LeaveRefusal.{LeaveRefusal}
use Rattle.chord_app_operator.specs.declared.operator.refusals.LeaveRefusal.TheVariants as L
use Rattle.chord_app_operator.specs.declared.operator.refusals.CrashRefusal.{CrashRefusal}
use Rattle.chord_app_operator.specs.declared.operator.refusals.CrashRefusal.TheVariants as C
use Rattle.chord_app_operator.specs.declared.operator.refusals.RescueRefusal.{RescueRefusal}
use Rattle.chord_app_operator.specs.declared.operator.refusals.RescueRefusal.TheVariants as R

-- the word of a kind of store
abbrev pub store_word : StoreKind → List ℕ
store_word Kind.Tree = codes "tree"
store_word Kind.List = codes "list"
store_word Kind.Capped = codes "capped"

-- the kind with this word
abbrev pub store_of : List ℕ → Option StoreKind
store_of word =
    if bytes_eq word (codes "tree") then Some Kind.Tree
    else (if bytes_eq word (codes "list") then Some Kind.List
    else (if bytes_eq word (codes "capped") then Some Kind.Capped else None))

-- the word of a page's state
abbrev pub state_word : PageState → List ℕ
state_word Held = codes "held"
state_word UnderWay = codes "underway"
state_word Lost = codes "lost"

-- the state with this word
abbrev pub state_of : List ℕ → Option PageState
state_of word =
    if bytes_eq word (codes "held") then Some Held
    else (if bytes_eq word (codes "underway") then Some UnderWay
    else (if bytes_eq word (codes "lost") then Some Lost else None))

-- the methods by which one looks or acts
abbrev pub allows : Verb → List ℕ → Bool
allows Look method = bytes_eq method (codes "GET") || bytes_eq method (codes "HEAD")
allows Act method = bytes_eq method (codes "POST")

-- the same in the field `Allow`
abbrev pub allowed_text : Verb → List ℕ
allowed_text Look = codes "GET, HEAD"
allowed_text Act = codes "POST"

-- the names of what is wrong with a request
abbrev pub fault_name : Fault → List ℕ
fault_name NotJson = codes "NotJson"
fault_name NotObject = codes "NotObject"
fault_name UnknownMember = codes "UnknownMember"
fault_name BadId = codes "BadId"
fault_name BadStore = codes "BadStore"
fault_name BadLimit = codes "BadLimit"
fault_name BadVia = codes "BadVia"
fault_name BadForce = codes "BadForce"
fault_name BadAfter = codes "BadAfter"
fault_name UnknownParameter = codes "UnknownParameter"

-- the names of a join's refusals
abbrev pub join_refusal_name : JoinRefusal → List ℕ
join_refusal_name J.IdTaken = codes "IdTaken"
join_refusal_name J.NoSlot = codes "NoSlot"
join_refusal_name J.NoStore = codes "NoStore"
join_refusal_name J.Unsettled = codes "Unsettled"
join_refusal_name J.NoSuchNode = codes "NoSuchNode"
join_refusal_name J.Stopped = codes "Stopped"
join_refusal_name J.Memory = codes "Memory"

-- the names of a leave's refusals
abbrev pub leave_refusal_name : LeaveRefusal → List ℕ
leave_refusal_name L.NoSuchNode = codes "NoSuchNode"
leave_refusal_name L.NotStaying = codes "NotStaying"

-- the names of a crash's refusals
abbrev pub crash_refusal_name : CrashRefusal → List ℕ
crash_refusal_name C.NoSuchNode = codes "NoSuchNode"
crash_refusal_name C.NotLive = codes "NotLive"
crash_refusal_name C.Unsafe = codes "Unsafe"

-- the names of a rescue's refusals
abbrev pub rescue_refusal_name : RescueRefusal → List ℕ
rescue_refusal_name R.NoSuchNode = codes "NoSuchNode"
rescue_refusal_name R.NotCrashed = codes "NotCrashed"
rescue_refusal_name R.NoMember = codes "NoMember"
rescue_refusal_name R.Stopped = codes "Stopped"

-- the name of a refusal
abbrev pub refusal_name : Refusal → List ℕ
refusal_name ForeignHost = codes "ForeignHost"
refusal_name ForeignOrigin = codes "ForeignOrigin"
refusal_name NoSuchPath = codes "NoSuchPath"
refusal_name (WrongMethod verb) = codes "WrongMethod"
refusal_name BodyTooLong = codes "BodyTooLong"
refusal_name (Bad fault) = fault_name fault
refusal_name (Join refusal) = join_refusal_name refusal
refusal_name (Leave refusal) = leave_refusal_name refusal
refusal_name (Crash refusal) = crash_refusal_name refusal
refusal_name (Rescue refusal) = rescue_refusal_name refusal
refusal_name Memory = codes "Memory"

-- a join that is refused conflicts with what the ring is, unless memory ran out
abbrev pub join_status : JoinRefusal → ℕ
join_status J.Memory = 507
join_status _ = 409

-- a node that is not there is not found
abbrev pub leave_status : LeaveRefusal → ℕ
leave_status L.NoSuchNode = 404
leave_status L.NotStaying = 409

abbrev pub crash_status : CrashRefusal → ℕ
crash_status C.NoSuchNode = 404
crash_status C.NotLive = 409
crash_status C.Unsafe = 409

abbrev pub rescue_status : RescueRefusal → ℕ
rescue_status R.NoSuchNode = 404
rescue_status R.NotCrashed = 409
rescue_status R.NoMember = 409
rescue_status R.Stopped = 409

-- the status of a refusal (RFC 9110, section 15; 507: RFC 4918, section 11.5)
abbrev pub refusal_status : Refusal → ℕ
refusal_status ForeignHost = 403
refusal_status ForeignOrigin = 403
refusal_status NoSuchPath = 404
refusal_status (WrongMethod verb) = 405
refusal_status BodyTooLong = 413
refusal_status (Bad fault) = 400
refusal_status (Join refusal) = join_status refusal
refusal_status (Leave refusal) = leave_status refusal
refusal_status (Crash refusal) = crash_status refusal
refusal_status (Rescue refusal) = rescue_status refusal
refusal_status Memory = 507
