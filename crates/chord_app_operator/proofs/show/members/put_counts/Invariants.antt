use Rattle.std.proofs.Common.{◌≡◌, map, drop}
use Rattle.serde_json.specs.View.{members_view}
use Rattle.chord_app_operator.specs.Json.{with_members, count_member}
use Rattle.chord_app_operator.proofs.show.members.put_counts.Given as goal

abbrev pub invariant-loop-name : goal.invariant-loop-name
invariant-loop-name l = with_members (members_view l.members.entries) (map count_member (drop l.name-index l.counts))
    ≡ with_members (members_view l.fn.members.entries) (map count_member l.counts)
