-- Which hosts and origins are a port's own. Source: our own, over RFC 9110, section 7.2, and RFC
-- 6454.
use Rattle.std.specs.Prelude.{ℕ, List, ◌++◌, map, length, Bool, not, ◌&&◌, ◌||◌, ◌==◌, codes, bytes_eq, decimal}
use Rattle.std.specs.List.{list_all}
use Rattle.std.specs.Option.{option_to_list}
use Rattle.http_header.specs.HeaderMap.{get_all}
use Rattle.http_uri.specs.Uri.{uri_authority}
use Rattle.http.specs.declared.request.Parts.{Parts}

-- 127.0.0.1:PORT and localhost:PORT
abbrev pub is_own_host : ℕ → List ℕ → Bool
is_own_host port host = bytes_eq host (codes "127.0.0.1:" ++ decimal port) || bytes_eq host (codes "localhost:" ++ decimal port)

-- the same behind http://
abbrev pub is_own_origin : ℕ → List ℕ → Bool
is_own_origin port origin = bytes_eq origin (codes "http://127.0.0.1:" ++ decimal port) || bytes_eq origin (codes "http://localhost:" ++ decimal port)

-- the values of a field
abbrev pub values_of : List ℕ → Parts → List (List ℕ)
values_of name head = map (λ v. v.bytes) (get_all head.headers name)

-- the hosts that a request names: in its target, and in its fields `Host`
abbrev pub hosts_of : Parts → List (List ℕ)
hosts_of head = option_to_list (uri_authority head.uri) ++ values_of (codes "host") head

-- a request names a host, and each that it names is the port's own
abbrev pub is_for_own_host : ℕ → Parts → Bool
is_for_own_host port head = not (length (hosts_of head) == 0) && list_all (is_own_host port) (hosts_of head)

-- each origin that a request names is the port's own; a request that is not sent by a page names
-- none
abbrev pub is_from_own_origin : ℕ → Parts → Bool
is_from_own_origin port head = list_all (is_own_origin port) (values_of (codes "origin") head)
