use Rattle.std.proofs.Common.{◌≡◌, option_copied}
use Rattle.form_urlencoded.specs.Parse.{raw_pairs_left}
use Rattle.chord_app_operator.specs.Queries.{with_parameters, pairs_request}
use Rattle.chord_app_operator.proofs.request.calls.PairsRequest.of_query.Given as goal

abbrev pub invariant-loop-name : goal.invariant-loop-name
invariant-loop-name l = with_parameters (raw_pairs_left l.name-iterator) l.request ≡ pairs_request (option_copied l.fn.query)
