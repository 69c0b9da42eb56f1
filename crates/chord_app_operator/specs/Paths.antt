-- What the paths name. Source: our own.
use Rattle.std.specs.Prelude.{ℕ, ◌-◌, List, length, take, drop, ◌&&◌, nat_lt, nat_le, codes, bytes_eq, Option, Some, None, option_map, option_and_then, if◌then◌else◌}
use Rattle.std.specs.Option.{option_or}
use Rattle.std.specs.Str.{all_ascii_digits}
use Rattle.std.specs.Str.Parse.{digits_value}
use Rattle.percent_encoding.specs.Percent.{percent_decode}
use Rattle.chord_ident.specs.Circle.{key_id}
use Rattle.chord_app_operator.specs.declared.request.verb.Verb.{Verb}
use Rattle.chord_app_operator.specs.declared.request.verb.Verb.TheVariants.{Look, Act}
use Rattle.chord_app_operator.specs.declared.request.resource.Resource.{Resource}
use Rattle.chord_app_operator.specs.declared.request.resource.Resource.TheVariants.{Page, Ring, Metrics, Health, Ready, Nodes, Leave, Crash, Rescue, Holder, Pairs, Stop}

-- one looks at a resource or acts on it
abbrev pub verb_of : Resource → Verb
verb_of Page = Look
verb_of Ring = Look
verb_of Metrics = Look
verb_of Health = Look
verb_of Ready = Look
verb_of Nodes = Act
verb_of (Leave node) = Act
verb_of (Crash node) = Act
verb_of (Rescue node) = Act
verb_of (Holder id) = Look
verb_of Pairs = Look
verb_of Stop = Act

-- the number that 1 to 19 decimal digits write
abbrev pub number_of : List ℕ → Option ℕ
number_of text =
    if all_ascii_digits text && (nat_lt 0 (length text) && nat_le (length text) 19)
    then Some (digits_value 10 text) else None

-- what follows the front, if the text begins with it
abbrev pub behind : List ℕ → List ℕ → Option (List ℕ)
behind front text = if bytes_eq (take (length front) text) front then Some (drop (length front) text) else None

-- what precedes the back, if the text ends with it
abbrev pub before : List ℕ → List ℕ → Option (List ℕ)
before back text =
    if bytes_eq (drop (length text - length back) text) back then Some (take (length text - length back) text) else None

-- the paths that stand for themselves
abbrev pub plain_resource : List ℕ → Option Resource
plain_resource path =
    if bytes_eq path (codes "/") then Some Page
    else (if bytes_eq path (codes "/ring") then Some Ring
    else (if bytes_eq path (codes "/metrics") then Some Metrics
    else (if bytes_eq path (codes "/health") then Some Health
    else (if bytes_eq path (codes "/ready") then Some Ready
    else (if bytes_eq path (codes "/nodes") then Some Nodes
    else (if bytes_eq path (codes "/pairs") then Some Pairs
    else (if bytes_eq path (codes "/stop") then Some Stop else None)))))))

-- /nodes/N and then this
abbrev pub node_before : List ℕ → List ℕ → Option ℕ
node_before verb path = option_and_then number_of (option_and_then (before verb) (behind (codes "/nodes/") path))

-- /nodes/N/leave, /nodes/N/crash and /nodes/N/rescue
abbrev pub node_resource : List ℕ → Option Resource
node_resource path =
    option_or (option_map Leave (node_before (codes "/leave") path)) (
    option_or (option_map Crash (node_before (codes "/crash") path)) (option_map Rescue (node_before (codes "/rescue") path)))

-- /holder/KEY, whose key is percent-encoded
abbrev pub holder_resource : List ℕ → Option Resource
holder_resource path = option_map (λ key. Holder (record { number = key_id (percent_decode key) })) (behind (codes "/holder/") path)

-- what a path names
abbrev pub resource_of : List ℕ → Option Resource
resource_of path = option_or (plain_resource path) (option_or (node_resource path) (holder_resource path))
