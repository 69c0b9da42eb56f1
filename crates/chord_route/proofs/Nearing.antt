-- How much nearer the next hop comes on an ideal ring.
use Rattle.std.proofs.Common.{◌≡◌, ◌≢◌, ℕ, ◌+◌, ◌-◌, ◌%◌, ◌^◌, ◌<◌, ◌≤◌, ◌⊎◌, List, Some, arith, inl, inr, sym, subst, ap, ◌∙◌}
use Rattle.std.specs.List.{All, Contains}
use Rattle.std.proofs.lemmas.List.Elements.{All-contains, All-contains_itself}
use Rattle.std.proofs.lemmas.Nat.{pow_pos, pow_below}
use Rattle.chord_ident.specs.Circle.{distance, walk, digit_count, IsWithin, IsBetween}
use Rattle.chord_ident.proofs.Walks.{walk-goes}
use Rattle.chord_ident.proofs.Hops.{Follows, distance_reaches, start_follows, finger_in_reach, finger_beyond, nearer, next_reaches, first_after, last_before, not_last, digits_fewer, between_powers, not_start, closer}
use Rattle.std.proofs.lemmas.Bool.{cases_lt}
use Rattle.std.proofs.Math.Nat.{pow-le-pow_right}
use Rattle.chord_links.specs.declared.peer.Peer.{Peer}
use Rattle.chord_links.specs.NodeLinks.{NodeLinks, first_entry}
use Rattle.chord_links.specs.Fingers.{start_of, Precedes, IsClosestPreceding}
use Rattle.chord_route.specs.IdealRing.{IsRing, IsSuccessor, IsPredecessor, IsSettled, IsIdeal}

-- a member's identifier lies on the circle
pub on_circle : (ring : List Peer) (node : Peer) → IsRing ring → Contains ring node → node.id.number < 2 ^ 128
on_circle ring node on m = All-contains (λ n. n.id.number < 2 ^ 128) ring node on m

-- no member is nearer after the key than its successor
pub successor_first : (ring : List Peer) (key : ℕ) (node other : Peer) → IsSuccessor ring key node → Contains ring other → distance key node.id.number ≤ distance key other.id.number
successor_first ring key node other s m = All-contains (λ o. distance key node.id.number ≤ distance key o.id.number) ring other s.first m

-- no member is nearer before the key than its predecessor
pub predecessor_last : (ring : List Peer) (key : ℕ) (node other : Peer) → IsPredecessor ring key node → Contains ring other → walk node.id.number key ≤ walk other.id.number key
predecessor_last ring key node other p m = All-contains (λ o. walk node.id.number key ≤ walk o.id.number key) ring other p.last m

-- Ideal links are settled.
pub settled_of : (ring : List Peer) (links : NodeLinks) → IsIdeal ring links → IsSettled ring links
settled_of ring links ideal = record {
  member = ideal.member;
  first = ideal.first;
  owner = ideal.owner;
  fingers = λ i node low high found.
      let known = ideal.fingers i low high in
      let both : Some known.0 ≡ Some node = sym known.1 ∙ found in
      let same : known.0 ≡ node = cc in
      let M : Peer → Type 0 = λ q. Contains ring q in
      subst M same known.2.member;
}

-- On an ideal ring no member is met before the first successor.
pub first_is_first : (ring : List Peer) (links : NodeLinks) (other : Peer) → IsRing ring → IsSettled ring links → Contains ring other → walk links.me.id.number (first_entry links).id.number ≤ walk links.me.id.number other.id.number
first_is_first ring links other on ideal m =
    let me = links.me.id.number in
    let hme : me < 2 ^ 128 = on_circle ring links.me on ideal.member in
    let ho : other.id.number < 2 ^ 128 = on_circle ring other on m in
    let hf : (first_entry links).id.number < 2 ^ 128 = on_circle ring (first_entry links) on ideal.first.member in
    let s = (me + 1) % 2 ^ 128 in
    let hs : s < 2 ^ 128 = omega arith in
    let fs : Follows (2 ^ 128) me 1 s = start_follows me 1 hme (omega arith) in
    let e1 = next_reaches (2 ^ 128) me s (first_entry links).id.number _ _ hme hf hs fs (distance_reaches s (first_entry links).id.number hs hf) (walk-goes me (first_entry links).id.number hme hf) in
    let e2 = next_reaches (2 ^ 128) me s other.id.number _ _ hme ho hs fs (distance_reaches s other.id.number hs ho) (walk-goes me other.id.number hme ho) in
    let le = successor_first ring s (first_entry links) other ideal.first m in
    omega arith

-- a property of each member holds of all elements
all_members : (P : Peer → Type 0) (ring : List Peer) → ((node : Peer) → Contains ring node → P node) → All P ring
all_members P ring each = λ k d h. each _ (All-contains_itself ring k d h)

-- Where the target is within (me, first], first is its successor.
pub last_hop_successor : (ring : List Peer) (links : NodeLinks) (target : ℕ) → IsRing ring → IsSettled ring links → target < 2 ^ 128 → IsWithin links.me.id.number target (first_entry links).id.number → IsSuccessor ring target (first_entry links)
last_hop_successor ring links target on ideal ht within =
    let me = links.me.id.number in
    let first = (first_entry links).id.number in
    let hme : me < 2 ^ 128 = on_circle ring links.me on ideal.member in
    let hf : first < 2 ^ 128 = on_circle ring (first_entry links) on ideal.first.member in
    record {
      member = ideal.first.member;
      first = all_members (λ o. distance target first ≤ distance target o.id.number) ring (λ other m.
          let ho : other.id.number < 2 ^ 128 = on_circle ring other on m in
          first_after (2 ^ 128) me target first other.id.number _ _ _ _ _ hme ht hf ho (walk-goes me target hme ht) (walk-goes me first hme hf) (walk-goes me other.id.number hme ho) (distance_reaches target first ht hf) (distance_reaches target other.id.number ht ho) within (first_is_first ring links other on ideal m));
    }

-- and the node itself is its predecessor.
pub last_hop_predecessor : (ring : List Peer) (links : NodeLinks) (target : ℕ) → IsRing ring → IsSettled ring links → target < 2 ^ 128 → IsWithin links.me.id.number target (first_entry links).id.number → IsPredecessor ring target links.me
last_hop_predecessor ring links target on ideal ht within =
    let me = links.me.id.number in
    let first = (first_entry links).id.number in
    let hme : me < 2 ^ 128 = on_circle ring links.me on ideal.member in
    let hf : first < 2 ^ 128 = on_circle ring (first_entry links) on ideal.first.member in
    record {
      member = ideal.member;
      last = all_members (λ o. walk me target ≤ walk o.id.number target) ring (λ other m.
          let ho : other.id.number < 2 ^ 128 = on_circle ring other on m in
          last_before (2 ^ 128) me target first other.id.number _ _ _ _ hme ht hf ho (walk-goes me target hme ht) (walk-goes me first hme hf) (walk-goes me other.id.number hme ho) (walk-goes other.id.number target ho ht) within (first_is_first ring links other on ideal m));
    }

-- Otherwise the node is not the last before the target.
pub elsewhere : (ring : List Peer) (links : NodeLinks) (target : ℕ) (last : Peer) → IsRing ring → IsSettled ring links → target < 2 ^ 128 → IsPredecessor ring target last → walk links.me.id.number (first_entry links).id.number < walk links.me.id.number target → last.id.number ≢ links.me.id.number
elsewhere ring links target last on ideal ht pred past =
    let me = links.me.id.number in
    let first = (first_entry links).id.number in
    let p = last.id.number in
    let hme : me < 2 ^ 128 = on_circle ring links.me on ideal.member in
    let hf : first < 2 ^ 128 = on_circle ring (first_entry links) on ideal.first.member in
    let hp : p < 2 ^ 128 = on_circle ring last on pred.member in
    not_last (2 ^ 128) me target first p _ _ _ _ hme ht hf hp (walk-goes me target hme ht) (walk-goes me first hme hf) (walk-goes p target hp ht) (walk-goes first target hf ht) past (predecessor_last ring target last (first_entry links) pred ideal.first.member)

-- the finger whose start is the last power of two before p lies between its owner and the target
pub finger_precedes : (ring : List Peer) (links : NodeLinks) (target : ℕ) (last : Peer) (i : ℕ) → IsRing ring → IsIdeal ring links → target < 2 ^ 128 → IsPredecessor ring target last → last.id.number ≢ links.me.id.number →
    1 ≤ i → i ≤ 128 → 2 ^ (i - 1) ≤ distance links.me.id.number last.id.number → (node : Peer) × Precedes links.fingers target i node
finger_precedes ring links target last i on ideal ht pred other low high reach =
    let me = links.me.id.number in
    let p = last.id.number in
    let found = ideal.fingers i low high in
    let f = found.0.id.number in
    let n = 2 ^ (i - 1) in
    let s = start_of me i in
    let n0 : 0 < n = pow_pos (i - 1) in
    let nm : n < 2 ^ 128 = pow_below (i - 1) 128 (omega arith) in
    let hme : me < 2 ^ 128 = on_circle ring links.me on ideal.member in
    let hp : p < 2 ^ 128 = on_circle ring last on pred.member in
    let hf : f < 2 ^ 128 = on_circle ring found.0 on found.2.member in
    let hs : s < 2 ^ 128 = omega arith in
    let in_reach = finger_in_reach (2 ^ 128) me p target s f n _ _ _ _ _ _ hme hp ht hs hf n0 nm (start_follows me n hme nm) (distance_reaches me p hme hp) (distance_reaches s p hs hp) (distance_reaches s f hs hf) (walk-goes me f hme hf) (walk-goes me target hme ht) (walk-goes p target hp ht) reach (successor_first ring s found.0 last found.2 pred.member) (predecessor_last ring target last links.me pred ideal.member) in
    let P : ℕ → Type 0 = λ q. IsBetween q f target in (
      found.0,
      record {
        found = found.1;
        between = subst P (sym (ap (λ (q : Peer). q.id.number) ideal.owner)) (omega arith, λ e. let same : walk me f ≡ walk me target = ap (walk me) e in absurd (omega arith));
      },
    )

-- A finger i of an ideal ring between its owner and the target, with i at least a number whose
-- start is not past p, is a member, and nearer to p by at least one binary digit.
nearer_finger : (ring : List Peer) (links : NodeLinks) (target : ℕ) (last f : Peer) (i j : ℕ) → IsRing ring → IsIdeal ring links → target < 2 ^ 128 → IsPredecessor ring target last →
    last.id.number ≢ links.me.id.number → i < 128 → 2 ^ i ≤ distance links.me.id.number last.id.number → distance links.me.id.number last.id.number < 2 ^ i + 2 ^ i →
    i < j → j ≤ 128 → Precedes links.fingers target j f →
    (f.id.number ≢ links.me.id.number) × Contains ring f × (digit_count (distance f.id.number last.id.number) < digit_count (distance links.me.id.number last.id.number))
nearer_finger ring links target last f i j on ideal ht pred other hi reach short ij hj precedes =
    let me = links.me.id.number in
    let p = last.id.number in
    let found = ideal.fingers j (omega arith) hj in
    let both : Some found.0 ≡ Some f = sym found.1 ∙ precedes.found in
    let e : found.0 ≡ f = cc in
    let S : Peer → Type 0 = λ q. IsSuccessor ring (start_of me j) q in
    let succ : IsSuccessor ring (start_of me j) f = subst S e found.2 in
    let n = 2 ^ (j - 1) in
    let s = start_of me j in
    let n0 : 0 < n = pow_pos (j - 1) in
    let nm : n < 2 ^ 128 = pow_below (j - 1) 128 (omega arith) in
    let inn : 2 ^ i ≤ n = pow-le-pow_right {n = 2} (omega arith) (omega arith) in
    let hme : me < 2 ^ 128 = on_circle ring links.me on ideal.member in
    let hp : p < 2 ^ 128 = on_circle ring last on pred.member in
    let hf : f.id.number < 2 ^ 128 = on_circle ring f on succ.member in
    let hs : s < 2 ^ 128 = omega arith in
    let P : ℕ → Type 0 = λ q. IsBetween q f.id.number target in
    let between : IsBetween me f.id.number target = subst P (ap (λ (q : Peer). q.id.number) ideal.owner) precedes.between in
    let away : f.id.number ≢ me = not_start (2 ^ 128) me f.id.number target _ _ hme hf ht (walk-goes me f.id.number hme hf) (walk-goes me target hme ht) between.0 between.1 in
    let beyond : n ≤ walk me f.id.number = finger_beyond (2 ^ 128) me s f.id.number n _ _ _ hme hs hf n0 nm (start_follows me n hme nm) (distance_reaches s f.id.number hs hf) (distance_reaches s me hs hme) (walk-goes me f.id.number hme hf) (successor_first ring s f links.me succ ideal.member) away in
    let left : distance f.id.number p < 2 ^ i = nearer (2 ^ 128) me p target f.id.number (2 ^ i) _ _ _ _ _ _ hme hp ht hf (distance_reaches me p hme hp) (distance_reaches f.id.number p hf hp) (walk-goes me f.id.number hme hf) (walk-goes me target hme ht) (walk-goes p target hp ht) (walk-goes f.id.number target hf ht)
    between.1 away between.0 (predecessor_last ring target last links.me pred ideal.member) (predecessor_last ring target last f pred succ.member) (omega arith) short in
    let bound : distance me p < 2 ^ 128 = omega (arith, distance_reaches me p hme hp) in
    (away, succ.member, digits_fewer (distance f.id.number p) (distance me p) i left reach bound)

start_reach : (i d : ℕ) → 2 ^ i ≤ d → 2 ^ (i + 1 - 1) ≤ d
start_reach i d h = let e : i + 1 - 1 ≡ i = omega arith in rw e h

-- The closest preceding finger brings the target's predecessor nearer, by a binary digit at least.
pub nearer_hop : (ring : List Peer) (links : NodeLinks) (target : ℕ) (last f : Peer) → IsRing ring → IsIdeal ring links → target < 2 ^ 128 → IsPredecessor ring target last → walk links.me.id.number (first_entry links).id.number < walk links.me.id.number target →
    IsClosestPreceding links.fingers target f → (f.id.number ≢ links.me.id.number) × Contains ring f × (digit_count (distance f.id.number last.id.number) < digit_count (distance links.me.id.number last.id.number))
nearer_hop ring links target last f on ideal ht pred past closest =
    let me = links.me.id.number in
    let p = last.id.number in
    let hme : me < 2 ^ 128 = on_circle ring links.me on ideal.member in
    let hp : p < 2 ^ 128 = on_circle ring last on pred.member in
    let other : p ≢ me = elsewhere ring links target last on (settled_of ring links ideal) ht pred past in
    let goes = distance_reaches me p hme hp in
    let powers = between_powers (distance me p) (omega arith) (omega arith) in
    let i = powers.0 in
    let precedes = finger_precedes ring links target last (i + 1) on ideal ht pred other (omega arith) (omega arith) (start_reach i _ powers.2) in
    elim closest [
      | inl c ↦ elim (cases_lt i c.0) [
        | inl lt ↦ nearer_finger ring links target last f i c.0 on ideal ht pred other powers.1 powers.2 powers.3 lt c.2 c.3
        | inr ge ↦ absurd (c.4 (i + 1) precedes.0 (omega arith) (omega arith) precedes.1)
      ]
      | inr c ↦ absurd (c.1 (i + 1) precedes.0 (omega arith) (omega arith) precedes.1)
    ]

-- A member that is met before the target is nearer to its predecessor.
nearer_member : (ring : List Peer) (links : NodeLinks) (target : ℕ) (last f : Peer) → IsRing ring → IsSettled ring links → target < 2 ^ 128 → IsPredecessor ring target last → walk links.me.id.number (first_entry links).id.number < walk links.me.id.number target →
    Contains ring f → IsBetween links.me.id.number f.id.number target → Contains ring f × (distance f.id.number last.id.number < distance links.me.id.number last.id.number)
nearer_member ring links target last f on settled ht pred past m between =
    let me = links.me.id.number in
    let p = last.id.number in
    let hme : me < 2 ^ 128 = on_circle ring links.me on settled.member in
    let hp : p < 2 ^ 128 = on_circle ring last on pred.member in
    let hf : f.id.number < 2 ^ 128 = on_circle ring f on m in (
      m,
      closer (2 ^ 128) me p target f.id.number _ _ _ _ _ _ hme hp ht hf (distance_reaches me p hme hp) (distance_reaches f.id.number p hf hp) (walk-goes me f.id.number hme hf) (walk-goes me target hme ht) (walk-goes p target hp ht) (walk-goes f.id.number target hf ht)
          between.1 between.0 (predecessor_last ring target last links.me pred settled.member) (predecessor_last ring target last f pred m),
    )

-- The closest preceding finger, or else the first entry, is nearer too.
pub settled_hop : (ring : List Peer) (links : NodeLinks) (target : ℕ) (last closest node : Peer) → IsRing ring → IsSettled ring links → target < 2 ^ 128 → IsPredecessor ring target last → walk links.me.id.number (first_entry links).id.number < walk links.me.id.number target →
    IsClosestPreceding links.fingers target closest → (((closest ≢ links.me) × (node ≡ closest)) ⊎ ((closest ≡ links.me) × (node ≡ (first_entry links)))) →
    Contains ring node × (distance node.id.number last.id.number < distance links.me.id.number last.id.number)
settled_hop ring links target last closest node on settled ht pred past found which =
    let N : Peer → Type 0 = λ q. Contains ring q × (distance q.id.number last.id.number < distance links.me.id.number last.id.number) in
    elim which [
      | inr w ↦ subst N (sym w.1) (nearer_member ring links target last (first_entry links) on settled ht pred past settled.first.member
          (omega arith, λ e. let same : walk links.me.id.number (first_entry links).id.number ≡ walk links.me.id.number target = ap (walk links.me.id.number) e in absurd (omega arith)))
      | inl w ↦ elim found [
        | inr c ↦ absurd (w.0 (c.0 ∙ settled.owner))
        | inl c ↦
            let B : ℕ → Type 0 = λ q. IsBetween q closest.id.number target in
            subst N (sym w.1) (nearer_member ring links target last closest on settled ht pred past (settled.fingers c.0 closest c.1 c.2 c.3.found)
            (subst B (ap (λ (q : Peer). q.id.number) settled.owner) c.3.between))
      ]
    ]
