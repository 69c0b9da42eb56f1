-- What the server of an operator is asked for. Source: our own; the requests are HTTP/1.1 (RFC
-- 9112), their bodies JSON (RFC 8259).
use Rattle.std.specs.Prelude.{ℕ, List, [], ◌∷◌, ◌++◌, length, codes, decimal, true, Option, Some, None, option_map, if◌then◌else◌}
use Rattle.serde_json.specs.Data.{Data, boolean, string, object, Members, no_members, put}
use Rattle.serde_json.specs.Written.{compact_text}
use Rattle.http1.specs.declared.conn.Limits.{Limits}
use Rattle.http1.specs.declared.conn.BodySize.{BodySize}
use Rattle.http1.specs.declared.conn.BodySize.TheVariants.{Empty, Known}
use Rattle.http1.specs.Client.{new_client, planned_request}
use Rattle.chord_ident.specs.declared.id.Id.{Id}
use Rattle.chord_app_operator.specs.declared.request.calls.JoinRequest.{JoinRequest}
use Rattle.chord_app_operator.specs.declared.request.calls.PairsRequest.{PairsRequest}
use Rattle.chord_app_operator.specs.declared.request.rows.Rows.TheVariants.{Present, All}
use Rattle.chord_app_operator.specs.Words.{store_word}
use Rattle.chord_app_operator.specs.Json.{count_data, id_hex, id_data, record_of}
use Rattle.chord_app_ring.specs.declared.command.RingCommand.{RingCommand}
use Rattle.chord_app_ring.specs.declared.command.RingCommand.TheVariants.{Show, Join, Leave, Crash, Rescue, Stop}

-- one looks by GET, and acts by POST
abbrev pub method_of : RingCommand → List ℕ
method_of (Show rows) = codes "GET"
method_of (Join request) = codes "POST"
method_of (Leave node) = codes "POST"
method_of (Crash request) = codes "POST"
method_of (Rescue node) = codes "POST"
method_of Stop = codes "POST"

-- the path
abbrev pub path_of : RingCommand → List ℕ
path_of (Show Present) = codes "/ring"
path_of (Show All) = codes "/ring?all"
path_of (Join request) = codes "/nodes"
path_of (Leave node) = codes "/nodes/" ++ decimal node ++ codes "/leave"
path_of (Crash request) = codes "/nodes/" ++ decimal request.node ++ codes "/crash"
path_of (Rescue node) = codes "/nodes/" ++ decimal node ++ codes "/rescue"
path_of Stop = codes "/stop"

-- a member that may be absent
abbrev pub put_if : List ℕ → Option Data → Members → Members
put_if name None ms = ms
put_if name (Some d) ms = put name d ms

-- the body of a join
abbrev pub join_data : JoinRequest → Data
join_data r = object (
    put_if (codes "via") (option_map count_data r.via) (
    put_if (codes "limit") (option_map count_data r.limit) (
    put (codes "store") (string (store_word r.store)) (
    put_if (codes "id") (option_map id_data r.id) no_members))))

-- the body of a crash that is forced
abbrev pub force_data : Data
force_data = record_of ((codes "force", boolean true) ∷ [])

-- the body
abbrev pub body_of : RingCommand → List ℕ
body_of (Show rows) = []
body_of (Join request) = compact_text (join_data request)
body_of (Leave node) = []
body_of (Crash request) = if request.is_forced then compact_text force_data else []
body_of (Rescue node) = []
body_of Stop = []

-- its length is stated where one acts
abbrev pub size_of : RingCommand → BodySize
size_of (Show rows) = Empty
size_of (Join request) = Known (length (body_of (Join request)))
size_of (Leave node) = Known 0
size_of (Crash request) = Known (length (body_of (Crash request)))
size_of (Rescue node) = Known 0
size_of Stop = Known 0

-- the limits of what a server may send
abbrev pub limits : Limits
limits = record { max_head_len = 16384; max_extensions_len = 16384; max_trailers_len = 16384 }

-- a request to the server with this port for an answer in text: its head as HTTP/1.1 writes it, and
-- its body
abbrev pub request_by : ℕ → (method path : List ℕ) → BodySize → List ℕ → List ℕ
request_by port method path size body =
    planned_request (new_client limits) method path size
    ((codes "host", codes "127.0.0.1:" ++ decimal port) ∷ (codes "accept", codes "text/plain") ∷ []) ++ body

abbrev pub request_of : ℕ → RingCommand → List ℕ
request_of port command = request_by port (method_of command) (path_of command) (size_of command) (body_of command)

-- the path of a request for a page of pairs
abbrev pub path_behind : List ℕ → ℕ → List ℕ
path_behind after limit = codes "/pairs?after=" ++ after ++ codes "&limit=" ++ decimal limit

abbrev pub pairs_path_of : Option Id → ℕ → List ℕ
pairs_path_of None limit = codes "/pairs?limit=" ++ decimal limit
pairs_path_of (Some after) limit = path_behind (id_hex after) limit

abbrev pub pairs_path : PairsRequest → List ℕ
pairs_path r = pairs_path_of r.after r.limit

-- the request for it
abbrev pub pairs_request : ℕ → PairsRequest → List ℕ
pairs_request port r = request_by port (codes "GET") (pairs_path r) Empty []
