-- The rule of the next hop, on an ideal ring.
use Rattle.std.proofs.Common.{ℕ, ◌^◌, ◌<◌, ◌≤◌, List, inl, inr, sym, subst, ap}
use Rattle.std.specs.List.{Contains}
use Rattle.std.proofs.lemmas.Bool.{cases_lt}
use Rattle.chord_ident.specs.Circle.{distance, walk, digit_count}
use Rattle.chord_route.proofs.Least.{predecessor_exists}
use Rattle.chord_route.proofs.Nearing.{last_hop_successor, last_hop_predecessor, nearer_hop, settled_of, settled_hop}
use Rattle.chord_links.specs.declared.peer.Peer.{Peer}
use Rattle.chord_links.specs.NodeLinks.{NodeLinks, first_entry}
use Rattle.chord_route.specs.IdealRing.{IsRing, IsSettled, IsIdeal, IsSuccessor, IsPredecessor}
use Rattle.chord_route.specs.Hops.{IsNextHop, BringsNearer, ComesCloser}
use Rattle.chord_route.specs.declared.hop.Hop.{Hop}
use Rattle.chord_route.specs.declared.hop.Hop.TheVariants.{Last, Near}

passed : (a b : ℕ) → (a ≤ b → ⊥) → b < a
passed a b h = elim (cases_lt b a) [ inl lt ↦ lt | inr ge ↦ absurd (h ge) ]

-- Each next hop goes to the successor, or to a member nearer to the predecessor.
pub rule_nearer : (ring : List Peer) (links : NodeLinks) (target : ℕ) (hop : Hop) → IsRing ring → IsIdeal ring links → target < 2 ^ 128 → IsNextHop links target hop → BringsNearer ring links target hop
rule_nearer ring links target (Last node) on ideal ht rule =
    let S : Peer → Type 0 = λ q. IsSuccessor ring target q in
    (subst S (sym rule.1) (last_hop_successor ring links target on (settled_of ring links ideal) ht rule.0), last_hop_predecessor ring links target on (settled_of ring links ideal) ht rule.0)
rule_nearer ring links target (Near node) on ideal ht rule =
    let past = passed (walk links.me.id.number target) (walk links.me.id.number (first_entry links).id.number) rule.0 in
    let closest = rule.1.0 in
    let some = predecessor_exists ring links.me target ideal.member in
    let hop = nearer_hop ring links target some.0 closest on ideal ht some.1 past rule.1.1 in
    elim rule.1.2 [
      | inl c ↦
          let N : Peer → Type 0 = λ q. Contains ring q × ((last : Peer) → IsPredecessor ring target last → digit_count (distance q.id.number last.id.number) < digit_count (distance links.me.id.number last.id.number)) in
          subst N (sym c.1) (hop.1, λ last p. (nearer_hop ring links target last closest on ideal ht p past rule.1.1).2)
      | inr c ↦ absurd (hop.0 (ap (λ (q : Peer). q.id.number) c.0))
    ]

-- Each next hop from settled links goes to the successor, or to a member closer to the predecessor.
pub rule_closer : (ring : List Peer) (links : NodeLinks) (target : ℕ) (hop : Hop) → IsRing ring → IsSettled ring links → target < 2 ^ 128 → IsNextHop links target hop → ComesCloser ring links target hop
rule_closer ring links target (Last node) on settled ht rule =
    let S : Peer → Type 0 = λ q. IsSuccessor ring target q in
    (subst S (sym rule.1) (last_hop_successor ring links target on settled ht rule.0), last_hop_predecessor ring links target on settled ht rule.0)
rule_closer ring links target (Near node) on settled ht rule =
    let past = passed (walk links.me.id.number target) (walk links.me.id.number (first_entry links).id.number) rule.0 in
    let some = predecessor_exists ring links.me target settled.member in (
      (settled_hop ring links target some.0 rule.1.0 node on settled ht some.1 past rule.1.1 rule.1.2).0,
      λ last p. (settled_hop ring links target last rule.1.0 node on settled ht p past rule.1.1 rule.1.2).1,
    )
