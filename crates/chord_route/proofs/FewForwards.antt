-- Why a lookup on an ideal ring makes few forwards.
use Rattle.std.proofs.Common.{◌≡◌, ℕ, zero, suc, ◌+◌, ◌^◌, ◌<◌, ◌≤◌, List, Option, Some, arith, sym, subst, ap, ◌∙◌, add-one}
use Rattle.std.specs.List.{Contains}
use Rattle.chord_ident.specs.Circle.{distance, digit_count}
use Rattle.chord_ident.proofs.Hops.{digit_count-le}
use Rattle.chord_route.proofs.Least.{predecessor_exists}
use Rattle.chord_links.specs.declared.peer.Peer.{Peer}
use Rattle.chord_links.specs.NodeLinks.{NodeLinks}
use Rattle.chord_route.specs.IdealRing.{IsIdeal, IsPredecessor}
use Rattle.chord_route.specs.Course.{ComesTo, Forwards}
use Rattle.chord_route.specs.Hops.{BringsNearer}
use Rattle.chord_route.specs.declared.hop.Hop.TheVariants.{Near}
use Rattle.chord_route.proofs.NextHop.{rule_nearer}
use Rattle.chord_route.proofs.Settled.{arrives}
use Rattle.chord_route.specs.Network.{IsNetwork, AnswersAs, ReadsIdealRing}

-- after some forwards a lookup is at a member, with digits left for the rest
pub record OnCourse (ring : List Peer) (target forwards : ℕ) (here : NodeLinks) : Type 0 where
  pub ideal : IsIdeal ring here
  pub digits : (last : Peer) → IsPredecessor ring target last → forwards + digit_count (distance here.me.id.number last.id.number) ≤ 128

pub course_begins : (ring : List Peer) (table : ℕ → Option NodeLinks) (limit target : ℕ) (start : Peer) (here : NodeLinks) → IsNetwork IsIdeal ring table limit → Contains ring start → Some here ≡ table start.number → OnCourse ring target 0 here
course_begins ring table limit target start here net m e =
    let at = arrives ring table limit start here net m e in
    record {
      ideal = at.0;
      digits = λ last p. omega (arith, digit_count-le (distance here.me.id.number last.id.number));
    }

pub course_goes_on : (ring : List Peer) (table : ℕ → Option NodeLinks) (limit target forwards : ℕ) (here next : NodeLinks) (peer : Peer) → IsNetwork IsIdeal ring table limit → OnCourse ring target forwards here →
    BringsNearer ring here target (Near peer) → Some next ≡ table peer.number → OnCourse ring target (forwards + 1) next
course_goes_on ring table limit target forwards here next peer net on nearer e =
    let at = arrives ring table limit peer next net nearer.0 e in
    let D : Peer → Peer → Type 0 = λ q last. digit_count (distance q.id.number last.id.number) < digit_count (distance here.me.id.number last.id.number) in
    let fewer : (last : Peer) → IsPredecessor ring target last → D next.me last = λ last p. subst (λ (q : Peer). D q last) (sym at.1) (nearer.1 last p) in
    record {
      ideal = at.0;
      digits = λ last p. omega (arith, on.digits last p, fewer last p);
    }

-- Whatever course a lookup takes on an ideal network, it stays at members and comes nearer.
pub any_course : (answers : ℕ → Option NodeLinks → Type 0) (ring : List Peer) (table : ℕ → Option NodeLinks) (limit from target n : ℕ) (start : Peer) (begin here : NodeLinks) → IsNetwork IsIdeal ring table limit → AnswersAs answers table → target < 2 ^ 128 →
    Contains ring start → start.number ≡ from → answers from (Some begin) → Forwards answers target n begin here → OnCourse ring target n here
any_course answers ring table limit from target zero start begin here net answered ht m e known course =
    let O : NodeLinks → Type 0 = λ l. OnCourse ring target 0 l in
    subst O course (course_begins ring table limit target start begin net m (answered from _ known ∙ ap table (sym e)))
any_course answers ring table limit from target (suc n) start begin here net answered ht m e known course =
    let before = any_course answers ring table limit from target n start begin course.0 net answered ht m e known course.1 in
    let node = course.2.0 in
    rw (← add-one) (course_goes_on ring table limit target n course.0 here node net before
    (rule_nearer ring course.0 target (Near node) net.on_circle before.ideal ht course.2.1) (answered node.number _ course.2.2))

few_forwards_from : (answers : ℕ → Option NodeLinks → Type 0) (ring : List Peer) (table : ℕ → Option NodeLinks) (limit from target n : ℕ) (start : Peer) (here : NodeLinks) → IsNetwork IsIdeal ring table limit → AnswersAs answers table → target < 2 ^ 128 →
    Contains ring start → start.number ≡ from → ComesTo answers from target n here → n ≤ 128
few_forwards_from answers ring table limit from target n start here net answered ht m e comes =
    let on = any_course answers ring table limit from target n start comes.start here net answered ht m e comes.known comes.course in
    let last = predecessor_exists ring here.me target on.ideal.member in
    omega (arith, on.digits last.0 last.1)

-- so it makes at most 128 forwards
pub few_forwards : (answers : ℕ → Option NodeLinks → Type 0) (ring : List Peer) (slots from target n : ℕ) (here : NodeLinks) → target < 2 ^ 128
    → ReadsIdealRing answers slots from ring → ComesTo answers from target n here → n ≤ 128
few_forwards answers ring slots from target n here ht reads comes =
    few_forwards_from answers ring reads.table slots from target n reads.start here reads.network reads.answered ht reads.member reads.number comes
