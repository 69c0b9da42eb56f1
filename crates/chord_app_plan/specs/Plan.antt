-- Which plan a document is, and the limits of plans. Source: our own.
use Rattle.std.specs.Prelude.{◌≡◌, ℕ, zero, suc, ℤ, pos, ◌++◌, ◌*◌, ◌/◌, ◌^◌, ◌<◌, ◌≤◌, List, [], ◌∷◌, length, ◌⊎◌, Option, Some, None, option_and_then, codes, IsUtf8}
use Rattle.std.specs.List.{All}
use Rattle.std.specs.Str.Parse.{digits_value, AllDigits}
use Rattle.toml.specs.Data.{Data, Items, no_items, item, Members, as_array, as_integer, as_str, as_table, get_member}
use Rattle.toml.specs.Parse.{parse_document}
use Rattle.toml.specs.View.{table_view}
use Rattle.chord_live_types.specs.Limits.{AreWithin}
use Rattle.chord_live_types.specs.declared.settings.Settings.{Settings}
use Rattle.chord_map.specs.Checked.{IsRequest}
use Rattle.chord_map.specs.declared.request.Request.{Request}
use Rattle.chord_map.specs.declared.request.Request.TheVariants as request
use Rattle.chord_app_plan.specs.declared.plan.Plan.{Plan}
use Rattle.chord_app_plan.specs.declared.ask.PlanAsk.{PlanAsk}
use Rattle.chord_app_plan.specs.declared.entries.Entries.{Entries}
use Rattle.chord_app_plan.specs.declared.fault.PlanFault.{PlanFault}
use Rattle.chord_app_plan.specs.declared.fault.PlanFault.TheVariants as fault
use Rattle.chord_app_plan.specs.declared.node.PlanNode.{PlanNode}
use Rattle.chord_app_plan.specs.declared.store_kind.StoreKind.{StoreKind}
use Rattle.chord_app_plan.specs.declared.store_kind.StoreKind.TheVariants as store

-- the members of a plan's table
abbrev pub members_of : Entries → Members
members_of entries = table_view entries.table.now

-- the whole number under a key
abbrev pub number_at : List ℕ → Members → Option ℤ
number_at key members = option_and_then as_integer (get_member key members)

-- the text under a key
abbrev pub text_at : List ℕ → Members → Option (List ℕ)
text_at key members = option_and_then as_str (get_member key members)

-- the values of an array; none if the key is missing
abbrev pub list_of : Option Data → Option Items
list_of None = Some no_items
list_of (Some value) = as_array value

-- the values under a key
abbrev pub list_at : List ℕ → Members → Option Items
list_at key members = list_of (get_member key members)

-- each value is a table that describes the thing at the same index
abbrev pub AreTablesOf : {X : Type 0} → (Members → X → Type 0) → Items → List X → Type 0
AreTablesOf Is no_items [] = Unit {0}
AreTablesOf Is (item value items) (x ∷ xs) = (members : Members) × (as_table value ≡ Some members) × Is members x × AreTablesOf Is items xs
AreTablesOf Is no_items (x ∷ xs) = ⊥
AreTablesOf Is (item value items) [] = ⊥

-- the tables under a key describe these things in order
pub record AreListed {X : Type 0} (Is : Members → X → Type 0) (key : List ℕ) (members : Members) (xs : List X) : Type 0 where
  pub items : Items
  pub there : list_at key members ≡ Some items
  pub each : AreTablesOf Is items xs

-- the settings of a ring in a table
pub record SettingsAre (members : Members) (s : Settings) : Type 0 where
  pub slots : number_at (codes "slots") members ≡ Some (pos s.slots)
  pub callers : number_at (codes "callers") members ≡ Some (pos s.callers)
  pub successors : number_at (codes "successors") members ≡ Some (pos s.successors)
  pub tries : number_at (codes "tries") members ≡ Some (pos s.tries)
  pub wait : number_at (codes "wait") members ≡ Some (pos s.wait_ms)

-- the kind of store that a table names under this key; the limit of a capped one is under `limit`
abbrev pub KindIs : List ℕ → Members → StoreKind → Type 0
KindIs key members store.Tree = text_at key members ≡ Some (codes "tree")
KindIs key members store.List = text_at key members ≡ Some (codes "list")
KindIs key members store.Noted = text_at key members ≡ Some (codes "noted")
KindIs key members (store.Capped limit) = (text_at key members ≡ Some (codes "capped")) × (number_at (codes "limit") members ≡ Some (pos limit)) × (limit < 2 ^ 63)

-- the kind of store of nodes that join later, in the plan's own table: a tree if it names none
abbrev pub SpareIs : Members → StoreKind → Type 0
SpareIs members kind = ((get_member (codes "spare") members ≡ None) × (kind ≡ store.Tree)) ⊎ KindIs (codes "spare") members kind

-- the node in a table; its identifier is 32 hexadecimal digits
pub record NodeIs (members : Members) (n : PlanNode) : Type 0 where
  pub digits : List ℕ
  pub id : text_at (codes "id") members ≡ Some digits
  pub count : length digits ≡ 32
  pub all : AllDigits 16 digits
  pub value : n.id.number ≡ digits_value 16 digits
  pub store : KindIs (codes "store") members n.store

-- the request in an ask's table
abbrev pub RequestIs : Members → Request → Type 0
RequestIs members (request.Insert key value) =
    (text_at (codes "do") members ≡ Some (codes "insert")) × (text_at (codes "key") members ≡ Some key) × (text_at (codes "value") members ≡ Some value)
RequestIs members (request.Retrieve key) = (text_at (codes "do") members ≡ Some (codes "retrieve")) × (text_at (codes "key") members ≡ Some key)
RequestIs members (request.Remove key value) =
    (text_at (codes "do") members ≡ Some (codes "remove")) × (text_at (codes "key") members ≡ Some key) × (text_at (codes "value") members ≡ Some value)

-- the ask in a table
pub record AskIs (members : Members) (a : PlanAsk) : Type 0 where
  pub caller : number_at (codes "caller") members ≡ Some (pos a.caller)
  pub via : number_at (codes "via") members ≡ Some (pos a.via)
  pub request : RequestIs members a.request

-- the plan in a document
pub record IsPlanOf (document : List ℕ) (p : Plan) : Type 0 where
  pub members : Members
  pub text : IsUtf8 document
  pub parsed : parse_document document ≡ Some members
  pub settings : SettingsAre members p.settings
  pub spare : SpareIs members p.spare
  pub nodes : AreListed NodeIs (codes "node") members p.nodes.items
  pub asks : AreListed AskIs (codes "ask") members p.asks.items

-- an ask's caller is below `callers` and its node below `nodes`, and its request keeps the limits
pub record IsAskOf (callers nodes : ℕ) (a : PlanAsk) : Type 0 where
  pub caller : a.caller < callers
  pub via : a.via < nodes
  pub request : IsRequest a.request

-- the settings of a plan are those of a ring with at most 64 nodes and 64 callers
pub record AreOfPlan (s : Settings) : Type 0 where
  pub within : AreWithin s
  pub slots : s.slots ≤ 64
  pub callers : s.callers ≤ 64

-- the first number if there is one, else the second
abbrev pub number_or : Option ℕ → ℕ → ℕ
number_or (Some number) other = number
number_or None other = other

-- a plan's settings with other numbers of nodes and callers, where such are named
abbrev pub settings_with : Settings → Option ℕ → Option ℕ → Settings
settings_with s slots callers = record s { slots = number_or slots s.slots; callers = number_or callers s.callers }

-- a plan keeps all its limits
pub record IsPlan (p : Plan) : Type 0 where
  pub settings : AreOfPlan p.settings
  pub some_nodes : 1 ≤ length p.nodes.items
  pub nodes : length p.nodes.items ≤ p.settings.slots
  pub asks : All (IsAskOf p.settings.callers (length p.nodes.items)) p.asks.items

-- the identifier of a node, from 0, of as many that divide the circle evenly: its upper half is the
-- number's share of 2^64, its lower half is 0
abbrev pub even_id : ℕ → ℕ → ℕ
even_id count number = number * (2 ^ 64 / count) * 2 ^ 64

-- the first nodes of as many that divide the circle evenly, each with a tree
unfoldable pub even_nodes : ℕ → ℕ → List PlanNode
even_nodes count zero = []
even_nodes count (suc number) = even_nodes count number
    ++ record { id = record { number = even_id count number }; store = store.Tree } ∷ []

-- no file was read: the system did not give it, or there was no memory
abbrev pub IsNotRead : PlanFault → Type 0
IsNotRead (fault.Unread reason) = Unit {0}
IsNotRead fault.TooLong = ⊥
IsNotRead (fault.NoToml line why) = ⊥
IsNotRead (fault.Entry table key why) = ⊥
IsNotRead fault.OutOfMemory = Unit {0}

-- the file has more bytes than a plan may have, or it was not read
abbrev pub IsTooLongOrNotRead : PlanFault → Type 0
IsTooLongOrNotRead why = (why ≡ fault.TooLong) ⊎ IsNotRead why
