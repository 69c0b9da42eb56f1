-- How the requests of a command are stored. Source: our own.
use Rattle.std.specs.Prelude.{List, [], ◌∷◌}
use Rattle.chord_map.specs.declared.request.Request.{Request}
use Rattle.chord_resp_serve.specs.declared.requests.Stored.{Stored}
use Rattle.chord_resp_serve.specs.declared.requests.Stored.TheVariants.{Nothing, One, Many}

-- the requests, however they are stored
abbrev pub requests_in : Stored → List Request
requests_in Nothing = []
requests_in (One request) = request ∷ []
requests_in (Many requests) = requests.items
