use Rattle.std.proofs.Common.{◌≡◌, map}
use Rattle.std.specs.List.{list_all}
use Rattle.chord_app_operator.specs.Sites.{is_own_host}
use Rattle.chord_app_operator.proofs.request.site.Site.are_own_hosts.Given as goal

abbrev pub invariant-loop-host : goal.invariant-loop-host
invariant-loop-host l =
    list_all (is_own_host l.self) (map (λ value. value.bytes) l.host-iterator) ≡ list_all (is_own_host l.self) (map (λ value. value.bytes) l.fn.hosts)
