-- Why a lookup on a settled ring ends at the right node.
use Rattle.std.proofs.Common.{◌≡◌, ℕ, zero, suc, ◌+◌, ◌^◌, ◌<◌, List, Option, Some, None, arith, sym, subst, ap, ◌∙◌, refl, add-one}
use Rattle.std.specs.List.{Contains}
use Rattle.chord_ident.specs.Circle.{distance}
use Rattle.chord_route.proofs.Least.{predecessor_exists}
use Rattle.chord_links.specs.declared.peer.Peer.{Peer}
use Rattle.chord_links.specs.NodeLinks.{NodeLinks, first_entry}
use Rattle.chord_route.specs.IdealRing.{IsSettled, IsIdeal, IsPredecessor, IsSuccessor}
use Rattle.chord_route.proofs.Counting.{nearer_count, count_room, count_falls}
use Rattle.chord_route.proofs.Nearing.{settled_of}
use Rattle.chord_route.proofs.NextHop.{rule_closer}
use Rattle.chord_route.specs.Course.{ComesTo, Forwards}
use Rattle.chord_route.specs.Hops.{ComesCloser, IsNextHop}
use Rattle.chord_route.specs.Network.{IsNetwork, AnswersAs, ReadsRing, ReadsSettledRing}
use Rattle.chord_route.specs.declared.hop.Hop.TheVariants.{Near, Last}

-- what is read of a member is its links
pub arrives : {Are : List Peer → NodeLinks → Type 0} (ring : List Peer) (table : ℕ → Option NodeLinks) (limit : ℕ) (node : Peer) (here : NodeLinks) → IsNetwork Are ring table limit → Contains ring node → Some here ≡ table node.number →
    Are ring here × (here.me ≡ node) × (node.number < limit) × (table node.number ≡ Some here)
arrives {Are} ring table limit node here net m e =
    let found = net.each node m in
    let both : Some found.0 ≡ Some here = sym found.1 ∙ sym e in
    let same : found.0 ≡ here = cc in
    (subst (Are ring) same found.3, ap (λ (l : NodeLinks). l.me) (sym same) ∙ found.2, net.below node m, sym e)

-- A member is not answered with nothing.
is_there : (ring : List Peer) (table : ℕ → Option NodeLinks) (limit : ℕ) (node : Peer) → IsNetwork IsSettled ring table limit → Contains ring node → None ≡ table node.number → ⊥
is_there ring table limit node net m e =
    let found = net.each node m in
    let both : Some found.0 ≡ None = sym found.1 ∙ sym e in
    absurd (cc)

-- after n forwards a lookup is at a member, with room for what is left
pub record OnWay (ring : List Peer) (table : ℕ → Option NodeLinks) (limit target n : ℕ) (here : NodeLinks) : Type 0 where
  pub settled : IsSettled ring here
  pub room : (last : Peer) → IsPredecessor ring target last → n + nearer_count table last.id.number (distance here.me.id.number last.id.number) limit < limit

pub way_goes_on : (ring : List Peer) (table : ℕ → Option NodeLinks) (limit target n : ℕ) (here next : NodeLinks) (peer : Peer) → IsNetwork IsSettled ring table limit → OnWay ring table limit target n here →
    ComesCloser ring here target (Near peer) → Some next ≡ table peer.number → OnWay ring table limit target (suc n) next
way_goes_on ring table limit target n here next peer net on nearer e =
    let at = arrives ring table limit peer next net nearer.0 e in
    let D : Peer → Peer → Type 0 = λ q last. distance q.id.number last.id.number < distance here.me.id.number last.id.number in
    let less : (last : Peer) → IsPredecessor ring target last → D next.me last = λ last p. subst (λ (q : Peer). D q last) (sym at.1) (nearer.1 last p) in
    record {
      settled = at.0;
      room = λ last p. omega (arith, on.room last p, count_falls table last.id.number (distance next.me.id.number last.id.number) (distance here.me.id.number last.id.number) limit peer.number next at.2 at.3 refl (less last p));
    }

-- Whatever course a lookup takes on a settled network, it stays at members and comes closer.
any_way : (answers : ℕ → Option NodeLinks → Type 0) (ring : List Peer) (table : ℕ → Option NodeLinks) (limit from target n : ℕ) (start : Peer) (begin here : NodeLinks) → IsNetwork IsSettled ring table limit → AnswersAs answers table → target < 2 ^ 128 →
    Contains ring start → start.number ≡ from → answers from (Some begin) → Forwards answers target n begin here → OnWay ring table limit target n here
any_way answers ring table limit from target zero start begin here net answered ht m e known course =
    let at = arrives ring table limit start begin net m (answered from _ known ∙ ap table (sym e)) in
    let O : NodeLinks → Type 0 = λ l. OnWay ring table limit target 0 l in
    subst O course (record {
      settled = at.0;
      room = λ last p. omega (arith, count_room table last.id.number (distance begin.me.id.number last.id.number) limit start.number begin at.2 at.3 refl);
    })
any_way answers ring table limit from target (suc n) start begin here net answered ht m e known course =
    let before = any_way answers ring table limit from target n start begin course.0 net answered ht m e known course.1 in
    let node = course.2.0 in
    way_goes_on ring table limit target n course.0 here node net before
    (rule_closer ring course.0 target (Near node) net.on_circle before.settled ht course.2.1) (answered node.number _ course.2.2)

comes_on_way : (answers : ℕ → Option NodeLinks → Type 0) (ring : List Peer) (table : ℕ → Option NodeLinks) (limit from target n : ℕ) (start : Peer) (here : NodeLinks) → IsNetwork IsSettled ring table limit → AnswersAs answers table → target < 2 ^ 128 →
    Contains ring start → start.number ≡ from → ComesTo answers from target n here → OnWay ring table limit target n here × (n < limit)
comes_on_way answers ring table limit from target n start here net answered ht m e comes =
    let on = any_way answers ring table limit from target n start comes.start here net answered ht m e comes.known comes.course in
    let last = predecessor_exists ring here.me target on.settled.member in
    (on, omega (arith, on.room last.0 last.1))

-- one more forward
pub comes_on : (answers : ℕ → Option NodeLinks → Type 0) (from target n : ℕ) (here next : NodeLinks) (node : Peer) → ComesTo answers from target n here → IsNextHop here target (Near node) → answers node.number (Some next) → ComesTo answers from target (n + 1) next
comes_on answers from target n here next node comes hop known = record {
  start = comes.start;
  known = comes.known;
  course = rw add-one (here, comes.course, (node, hop, known));
}

-- an ideal ring is settled
pub reads_settled : {answers : ℕ → Option NodeLinks → Type 0} {slots from : ℕ} {ring : List Peer} → ReadsRing IsIdeal answers slots from ring → ReadsRing IsSettled answers slots from ring
reads_settled {ring = ring} reads =
    record {
      table = reads.table;
      network =
          record {
            on_circle = reads.network.on_circle;
            below = reads.network.below;
            each = λ node m.
                let found = reads.network.each node m in
                (found.0, found.1, found.2, settled_of ring found.0 found.3);
          };
      answered = reads.answered;
      start = reads.start;
      member = reads.member;
      number = reads.number;
    }

-- On a settled ring the node that a lookup starts from exists.
pub start_is_there : (answers : ℕ → Option NodeLinks → Type 0) (slots from : ℕ) (ring : List Peer) → ReadsSettledRing answers slots from ring → answers from None → ⊥
start_is_there answers slots from ring reads known =
    is_there ring reads.table slots reads.start reads.network reads.member (reads.answered from None known ∙ ap reads.table (sym reads.number))

module _ (answers : ℕ → Option NodeLinks → Type 0) (slots from target n : ℕ) (here : NodeLinks) (ring : List Peer) (on_circle : target < 2 ^ 128) (reads : ReadsSettledRing answers slots from ring) (comes : ComesTo answers from target n here) where
  way : OnWay ring reads.table slots target n here × (n < slots)
  way = comes_on_way answers ring reads.table slots from target n reads.start here reads.network reads.answered on_circle reads.member reads.number comes

  -- Each node that the lookup is passed on to exists too,
  pub next_is_there : (peer : Peer) → IsNextHop here target (Near peer) → answers peer.number None → ⊥
  next_is_there peer hop known =
      let near = rule_closer ring here target (Near peer) reads.network.on_circle way.0.settled on_circle hop in
      is_there ring reads.table slots peer reads.network near.0 (reads.answered peer.number None known)

  -- it ends between the target's predecessor and its successor,
  pub ends_well : (node : Peer) → IsNextHop here target (Last node) → IsPredecessor ring target here.me × IsSuccessor ring target (first_entry here)
  ends_well node hop =
      let ends = rule_closer ring here target (Last node) reads.network.on_circle way.0.settled on_circle hop in
      let S : Peer → Type 0 = λ q. IsSuccessor ring target q in
      (ends.1, subst S hop.1 ends.0)

  -- and before it has asked every node.
  pub ends_soon : n < slots
  ends_soon = way.1
