-- No answer has a float.
use Rattle.std.proofs.Common.{◌≡◌, ℕ, false, List, [], ◌∷◌, Option, Some, None, refl, arith}
use Rattle.std.specs.List.{AllByRecursion}
use Rattle.std.specs.Ordering.{nat_cmp, match_ordering}
use Rattle.std.specs.Cmp.Lexicographic.{slice_cmp}
use Rattle.std.specs.declared.cmp.Ordering.{Ordering}
use Rattle.std.specs.declared.cmp.Ordering.TheVariants.{Less, Equal, Greater}
use Rattle.serde_json.specs.Data.{Data, Members, no_members, member, put}
use Rattle.serde_json.specs.Written.{has_float, members_have_float}
use Rattle.chord_app_operator.specs.declared.sight.answers.ProtocolAnswers.{ProtocolAnswers}
use Rattle.chord_app_operator.specs.declared.sight.node.StoredNode.{StoredNode}
use Rattle.chord_app_operator.specs.declared.sight.ring.RingSight.{RingSight}
use Rattle.chord_app_operator.specs.declared.sight.traffic.EndCounts.{EndCounts}
use Rattle.chord_app_operator.specs.declared.sight.traffic.SessionCounts.{SessionCounts}
use Rattle.chord_app_operator.specs.Json.{with_members, record_of, optional_data, list_data, count_data, segment_members, segment_data, outbox_members, outbox_data, asks_members, handovers_members, callers_members, answers_members, protocols_members, protocols_data, ends_members, ends_data, sessions_members, sessions_data, name_members, link_members, held_members, done_members, node_data, ring_members, ring_data}

abbrev NoFloat : List ℕ × Data → Type 0
NoFloat m = has_float m.1 ≡ false

split_no_float : (o : Ordering) (k l : List ℕ) (d e : Data) (ms rest : Members) → has_float d ≡ false → members_have_float (member l e ms) ≡ false → members_have_float rest ≡ false
    → members_have_float (match_ordering o (member k d (member l e ms)) (member l d ms) (member l e rest)) ≡ false
split_no_float Less k l d e ms rest one all other = grind (arith, one, all)
split_no_float Equal k l d e ms rest one all other = grind (arith, one, all)
split_no_float Greater k l d e ms rest one all other = grind (arith, all, other)

put_no_float : (k : List ℕ) (d : Data) (ms : Members) → has_float d ≡ false → members_have_float ms ≡ false → members_have_float (put k d ms) ≡ false
put_no_float k d no_members one all = grind (arith, one)
put_no_float k d (member l e ms) one all = split_no_float (slice_cmp nat_cmp k l) k l d e ms (put k d ms) one all (put_no_float k d ms one (grind (arith, all)))

members_no_float : (ms : List (List ℕ × Data)) (all : Members) → AllByRecursion NoFloat ms → members_have_float all ≡ false → members_have_float (with_members all ms) ≡ false
members_no_float [] all each none = none
members_no_float (m ∷ ms) all each none = members_no_float ms (put m.0 m.1 all) each.1 (put_no_float m.0 m.1 all each.0 none)

pub record_no_float : (ms : List (List ℕ × Data)) → AllByRecursion NoFloat ms → has_float (record_of ms) ≡ false
record_no_float ms each = members_no_float ms no_members each refl

pub list_no_float : {X : Type 0} (data_of : X → Data) → ((x : X) → has_float (data_of x) ≡ false) → (xs : List X) → has_float (list_data data_of xs) ≡ false
list_no_float data_of each [] = refl
list_no_float data_of each (x ∷ xs) = grind (arith, each x, list_no_float data_of each xs)

optional_no_float : (n : Option ℕ) → has_float (optional_data n) ≡ false
optional_no_float None = refl
optional_no_float (Some n) = refl

node_no_float : (n : StoredNode) → has_float (node_data n) ≡ false
node_no_float n =
    let s = n.sight in
    let names = members_no_float (name_members n) no_members (refl, (refl, (refl, (refl, tt)))) refl in
    let links = members_no_float (link_members s) (with_members no_members (name_members n)) (optional_no_float s.predecessor, (list_no_float count_data (λ _. refl) s.successors.items, (refl, tt))) names in
    let held = members_no_float (held_members s) (with_members (with_members no_members (name_members n)) (link_members s)) (
      list_no_float segment_data (λ s. record_no_float (segment_members s) (refl, (refl, (refl, tt)))) s.segments.items,
      (
        refl,
        (list_no_float outbox_data (λ o. record_no_float (outbox_members o) (refl, (refl, (refl, (refl, (refl, tt)))))) s.outbox.items, tt),
      ),
    ) links in
    members_no_float (done_members s) (with_members (with_members (with_members no_members (name_members n)) (link_members s)) (held_members s))
    (record_no_float (asks_members s.counts.asks) (refl, (refl, (refl, (refl, tt)))), (record_no_float (handovers_members s.counts.handovers) (refl, (refl, (refl, tt))), (refl, tt))) held

ends_no_float : (c : EndCounts) → has_float (ends_data c) ≡ false
ends_no_float c = record_no_float (ends_members c) (refl, (refl, (refl, (refl, (refl, (refl, (refl, (refl, (refl, (refl, tt))))))))))

sessions_no_float : (c : SessionCounts) → has_float (sessions_data c) ≡ false
sessions_no_float c = record_no_float (sessions_members c) (refl, (refl, (refl, (refl, tt))))

protocols_no_float : (p : ProtocolAnswers) → has_float (protocols_data p) ≡ false
protocols_no_float p =
    let frames = record_no_float (answers_members p.frames) (refl, (refl, (refl, (refl, (refl, tt))))) in
    let redis = record_no_float (answers_members p.redis) (refl, (refl, (refl, (refl, (refl, tt))))) in
    record_no_float (protocols_members p) (frames, (redis, tt))

pub ring_no_float : (r : RingSight) → has_float (ring_data r) ≡ false
ring_no_float r =
    let callers = record_no_float (callers_members r.callers) (refl, (refl, (refl, tt))) in
    let nodes = list_no_float node_data node_no_float r.nodes.items in
    let ends = ends_no_float r.ends in
    let sessions = sessions_no_float r.sessions in
    let answers = protocols_no_float r.answers in
    record_no_float (ring_members r)
    (refl, (refl, (refl, (refl, (callers, (refl, (ends, (sessions, (answers, (refl, (nodes, tt)))))))))))
