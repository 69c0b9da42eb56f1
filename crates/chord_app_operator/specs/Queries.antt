-- What the query of `/pairs` asks for. Source: our own; its syntax is that of forms (the URL
-- Standard, section 5).
use Rattle.std.specs.Prelude.{ℕ, List, [], ◌∷◌, length, ◌&&◌, ◌==◌, option_and_then, nat_lt, nat_le, codes, bytes_eq, Option, Some, None, Result, Ok, Err, unwrap_or, if◌then◌else◌}
use Rattle.std.specs.List.{list_all}
use Rattle.std.specs.Char.{digit_value}
use Rattle.std.specs.Str.Parse.{digits_value}
use Rattle.form_urlencoded.specs.Form.{raw_pairs}
use Rattle.chord_ident.specs.declared.id.Id.{Id}
use Rattle.chord_app_operator.specs.declared.request.calls.PairsRequest.{PairsRequest}
use Rattle.chord_app_operator.specs.declared.request.fault.Fault.{Fault}
use Rattle.chord_app_operator.specs.declared.request.fault.Fault.TheVariants.{BadLimit, BadAfter, UnknownParameter}
use Rattle.chord_app_operator.specs.Outcomes.{and_then}
use Rattle.chord_app_operator.specs.Paths.{number_of}

-- the identifier that 32 hexadecimal digits write
abbrev pub id_of : List ℕ → Option Id
id_of text =
    if (length text == 32) && list_all (λ c. nat_lt (digit_value c) 16) text
    then Some (record { number = digits_value 16 text }) else None

-- the number, if it is from 1 to 1,000
abbrev pub from_1_to_1000 : ℕ → Option ℕ
from_1_to_1000 n = if nat_le 1 n && nat_le n 1000 then Some n else None

-- with this identifier to begin behind
abbrev pub with_after : PairsRequest → Option Id → Result PairsRequest Fault
with_after r None = Err BadAfter
with_after r (Some id) = Ok (record r { after = Some id })

-- with this limit
abbrev pub with_limit : PairsRequest → Option ℕ → Result PairsRequest Fault
with_limit r None = Err BadLimit
with_limit r (Some n) = Ok (record r { limit = n })

-- with one more parameter, which stands in place of an earlier one of its name
abbrev pub with_parameter : PairsRequest → List ℕ × List ℕ → Result PairsRequest Fault
with_parameter r p =
    if bytes_eq p.0 (codes "after") then with_after r (id_of p.1)
    else (if bytes_eq p.0 (codes "limit") then with_limit r (option_and_then from_1_to_1000 (number_of p.1))
    else Err UnknownParameter)

-- with these parameters, one after another, up to the first that is wrong
abbrev pub with_parameters : List (List ℕ × List ℕ) → PairsRequest → Result PairsRequest Fault
with_parameters [] r = Ok r
with_parameters (p ∷ ps) r = and_then (with_parameters ps) (with_parameter r p)

-- without parameters: from the least identifier on, at most 100 pairs
abbrev pub first_pairs : PairsRequest
first_pairs = record { after = None; limit = 100 }

-- what a query asks for; no query is one without parameters
abbrev pub pairs_request : Option (List ℕ) → Result PairsRequest Fault
pairs_request query = with_parameters (raw_pairs (unwrap_or query [])) first_pairs
