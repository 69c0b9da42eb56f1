use Rattle.std.proofs.Common.{◌≡◌, map}
use Rattle.std.specs.List.{list_all}
use Rattle.chord_app_operator.specs.Sites.{is_own_origin}
use Rattle.chord_app_operator.proofs.request.site.Site.are_own_origins.Given as goal

abbrev pub invariant-loop-origin : goal.invariant-loop-origin
invariant-loop-origin l =
    list_all (is_own_origin l.self) (map (λ value. value.bytes) l.origin-iterator) ≡ list_all (is_own_origin l.self) (map (λ value. value.bytes) l.fn.origins)
