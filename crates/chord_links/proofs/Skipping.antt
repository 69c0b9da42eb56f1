-- Which identifiers a list skips, and how a list that is made from another skips no more.
use Rattle.std.proofs.Common.{◌≡◌, ℕ, zero, suc, ◌+◌, ◌-◌, ◌<◌, ◌≤◌, ◌⊎◌, inl, inr, true, false, cond, ltb, List, [], ◌∷◌, ◌++◌, take, length, min, arith, refl, ap, sym, subst, ◌∙◌, length-take, take_all}
use Rattle.std.proofs.lemmas.List.{take-take}
use Rattle.std.specs.List.{AllByRecursion}
use Rattle.std.proofs.lemmas.Bool.{cases_lt, cases_order, lt-ltb, ltb-true, cond_both}
use Rattle.chord_ident.specs.Circle.{walk, IsBetween}
use Rattle.chord_links.proofs.Clockwise.{circle, walk_range, walk_positive, walk_over, walk_nearer, same_from_walk, between_nearer, nearer_between}
use Rattle.chord_links.specs.declared.peer.Peer.{Peer}
use Rattle.chord_links.specs.Successors.{Rises, rising_front, behind_successor, behind_predecessor, Skips}

-- a prefix of a list skips no more than the list
pub Skips-take : (n before : ℕ) (peers : List Peer) (x : ℕ) → Skips before (take n peers) x → Skips before peers x
Skips-take zero before peers x skips = elim skips [ ]
Skips-take (suc n) before [] x skips = elim skips [ ]
Skips-take (suc n) before (peer ∷ peers) x (inl between) = inl between
Skips-take (suc n) before (peer ∷ peers) x (inr rest) = inr (Skips-take n peer.id.number peers x rest)

-- the rising prefix of a list skips no more than the list
pub Skips-rising_front : (owner past before : ℕ) (peers : List Peer) (x : ℕ) → Skips before (rising_front owner past peers) x → Skips before peers x
Skips-rising_front owner past before [] x skips = elim skips [ ]
Skips-rising_front owner past before (peer ∷ peers) x skips =
    (elim (ltb past (walk owner peer.id.number)) as (λ b. Skips before (cond b (peer ∷ rising_front owner (walk owner peer.id.number) peers) []) x → Skips before (peer ∷ peers) x) [
      | true ↦ λ s. elim s [ inl between ↦ inl between | inr rest ↦ inr (Skips-rising_front owner (walk owner peer.id.number) peer.id.number peers x rest) ]
      | false ↦ λ s. elim s [ ]
    ]) skips

-- a copied list skips no more than the new first entry and its list
pub Skips-behind_successor : (owner r : ℕ) (head : Peer) (entries : List Peer) (x : ℕ)
    → Skips owner (behind_successor owner r head entries) x → IsBetween owner x head.id.number ⊎ Skips head.id.number entries x
Skips-behind_successor owner r head entries x skips =
    elim (Skips-take r owner (head ∷ rising_front owner (walk owner head.id.number) entries) x skips) [
      | inl between ↦ inl between
      | inr rest ↦ inr (Skips-rising_front owner (walk owner head.id.number) head.id.number entries x rest)
    ]

-- the rising prefix rises
pub Rises-rising_front : (owner past : ℕ) (peers : List Peer) → Rises owner past (rising_front owner past peers)
Rises-rising_front owner past [] = tt
Rises-rising_front owner past (peer ∷ peers) =
    cond_both (ltb past (walk owner peer.id.number)) (peer ∷ rising_front owner (walk owner peer.id.number) peers) [] (Rises owner past)
    (λ nearer. (ltb-true past (walk owner peer.id.number) nearer, Rises-rising_front owner (walk owner peer.id.number) peers)) (λ _. tt)

-- a prefix of a rising list rises
pub Rises-take : (n owner past : ℕ) (peers : List Peer) → Rises owner past peers → Rises owner past (take n peers)
Rises-take zero owner past peers rises = tt
Rises-take (suc n) owner past [] rises = tt
Rises-take (suc n) owner past (peer ∷ peers) rises = (rises.0, Rises-take n owner (walk owner peer.id.number) peers rises.1)

-- the rising prefix of a rising list is all of it
pub rising_front_all : (owner past : ℕ) (peers : List Peer) → Rises owner past peers → rising_front owner past peers ≡ peers
rising_front_all owner past [] rises = refl
rising_front_all owner past (peer ∷ peers) rises =
    let first : past < walk owner peer.id.number = rises.0 in
    rw (lt-ltb past (walk owner peer.id.number) first) (ap (λ rest. peer ∷ rest) (rising_front_all owner (walk owner peer.id.number) peers rises.1))

-- the identifiers of these peers are on the circle
abbrev pub OnCircle : List Peer → Type 0
OnCircle = AllByRecursion (λ peer. peer.id.number < circle)

-- peers that rise past a nearer node also rise seen from that node
pub Rises-nearer : (owner nearer gone : ℕ) (past : ℕ) (peers : List Peer) → owner < circle → nearer < circle → OnCircle peers
    → walk owner nearer + gone ≡ past → Rises owner past peers → Rises nearer gone peers
Rises-nearer owner nearer gone past [] owner_in nearer_in on sum rises = tt
Rises-nearer owner nearer gone past (peer ∷ peers) owner_in nearer_in on sum rises =
    let first : past < walk owner peer.id.number = rises.0 in
    let over : walk owner peer.id.number ≡ walk owner nearer + walk nearer peer.id.number =
    walk_nearer owner nearer peer.id.number owner_in nearer_in on.0 (omega arith) in
    (omega arith, Rises-nearer owner nearer (walk nearer peer.id.number) (walk owner peer.id.number) peers owner_in nearer_in on.1 (sym over) rises.1)

-- peers that rise seen from a node also rise seen from one that joins before its first entry
pub Rises-joined : (new pred : ℕ) (first : Peer) (rest : List Peer) → new < circle → pred < circle → OnCircle (first ∷ rest)
    → IsBetween pred new first.id.number → Rises pred 0 (first ∷ rest) → Rises new 0 (first ∷ rest)
Rises-joined new pred first rest new_in pred_in on between rises =
    let nearer = between_nearer pred new first.id.number pred_in new_in on.0 between in
    let past : Rises pred (walk pred new) (first ∷ rest) = (nearer, rises.1) in
    Rises-nearer pred new 0 (walk pred new) (first ∷ rest) pred_in new_in on (omega arith) past

-- a node that joins before the first entry of a short list takes over the whole list
pub behind_predecessor_all : (new pred r : ℕ) (first : Peer) (rest : List Peer) → new < circle → pred < circle → OnCircle (first ∷ rest)
    → IsBetween pred new first.id.number → Rises pred 0 (first ∷ rest) → length (first ∷ rest) ≤ r
    → behind_predecessor new r (first ∷ rest) ≡ first ∷ rest
behind_predecessor_all new pred r first rest new_in pred_in on between rises short =
    let all : rising_front new (walk new first.id.number) rest ≡ rest =
    rising_front_all new (walk new first.id.number) rest (Rises-joined new pred first rest new_in pred_in on between rises).1 in
    ap (λ l. take r (first ∷ l)) all ∙ take_all r (first ∷ rest) short

-- a node that joins before the first entry of a list skips no more with it
pub Skips-joined : (new pred : ℕ) (first : Peer) (rest : List Peer) (x : ℕ) → new < circle → pred < circle → first.id.number < circle → x < circle
    → IsBetween pred new first.id.number → Skips new (first ∷ rest) x → Skips pred (first ∷ rest) x
Skips-joined new pred first rest x new_in pred_in first_in x_in between (inl near) =
    let joins = between_nearer pred new first.id.number pred_in new_in first_in between in
    let over : walk pred first.id.number ≡ walk pred new + walk new first.id.number = walk_nearer pred new first.id.number pred_in new_in first_in joins in
    let most = walk_range pred first.id.number pred_in first_in in
    let nearer = between_nearer new x first.id.number new_in x_in first_in near in
    let reached : walk pred x < walk pred first.id.number = elim (walk_over pred new x pred_in new_in x_in) [ inl sum ↦ omega arith | inr turn ↦ absurd (omega arith) ] in
    inl (nearer_between pred x first.id.number reached)
Skips-joined new pred first rest x new_in pred_in first_in x_in between (inr far) = inr far

-- a list without its first entry skips no more, but for that entry
pub Skips-without_head : (owner : ℕ) (first : Peer) (rest : List Peer) (x : ℕ) → owner < circle → OnCircle (first ∷ rest) → x < circle
    → ¬ (x ≡ first.id.number) → Rises owner 0 (first ∷ rest) → Skips owner rest x → Skips owner (first ∷ rest) x
Skips-without_head owner first [] x owner_in on x_in other rises skips = elim skips [ ]
Skips-without_head owner first (second ∷ rest) x owner_in on x_in other rises (inr far) = inr (inr far)
Skips-without_head owner first (second ∷ rest) x owner_in on x_in other rises (inl near) =
    elim (cases_order (walk owner x) (walk owner first.id.number)) [
      | inl same ↦ absurd (other (same_from_walk owner x first.id.number owner_in x_in on.0 same))
      | inr apart ↦
          elim apart [
            | inl nearer ↦ inl (nearer_between owner x first.id.number nearer)
            | inr farther ↦
                let to_x : walk owner x ≡ walk owner first.id.number + walk first.id.number x = walk_nearer owner first.id.number x owner_in on.0 x_in farther in
                let to_second : walk owner second.id.number ≡ walk owner first.id.number + walk first.id.number second.id.number =
                walk_nearer owner first.id.number second.id.number owner_in on.0 on.1.0 rises.1.0 in
                let before_second = between_nearer owner x second.id.number owner_in x_in on.1.0 near in
                inr (inl (nearer_between first.id.number x second.id.number (omega arith)))
          ]
    ]

-- the list behind a first entry, if the rising prefix has this length
pub behind_successor_front : (owner r : ℕ) (head : Peer) (entries : List Peer) (rising : ℕ) → 0 < r
    → rising_front owner (walk owner head.id.number) entries ≡ take rising entries
    → behind_successor owner r head entries ≡ head ∷ take (min rising (r - 1)) entries
behind_successor_front owner zero head entries rising positive front = absurd (omega arith)
behind_successor_front owner (suc r) head entries rising positive front =
    let less : suc r - 1 ≡ r = omega arith in
    ap (λ rest. head ∷ take r rest) front
    ∙ ap (λ rest. head ∷ rest)
    (elim (cases_lt r rising) [
      | inl shorter ↦ take-take r rising entries (omega arith) ∙ ap (λ n. take n entries) (omega arith)
      | inr longer ↦
          take_all r (take rising entries) (omega (arith, length-take rising entries)) ∙ ap (λ n. take n entries) (omega arith)
    ])

-- the list behind a first entry is not empty, and rises
pub Rises-behind_successor : (owner r : ℕ) (head : Peer) (entries : List Peer) → Rises owner 0 (behind_successor owner r head entries)
Rises-behind_successor owner r head entries =
    Rises-take r owner 0 (head ∷ rising_front owner (walk owner head.id.number) entries)
    (walk_positive owner head.id.number, Rises-rising_front owner (walk owner head.id.number) entries)

-- a list filled with a first entry and then a part of another's list is the list behind that first
-- entry, and keeps the rules of a list
pub filled_behind_successor : (owner r : ℕ) (head : Peer) (entries others none one filled : List Peer) (rising copied : ℕ) → 0 < r
    → others ≡ entries → rising_front owner (walk owner head.id.number) others ≡ take rising others → copied ≡ min rising (r - 1)
    → none ≡ [] → one ≡ none ++ head ∷ [] → filled ≡ one ++ take copied others
    → (filled ≡ behind_successor owner r head entries) × (0 < length filled) × Rises owner 0 filled
filled_behind_successor owner r head entries others none one filled rising copied positive same front least no_peer pushed extended =
    let made : filled ≡ behind_successor owner r head others =
    extended ∙ ap (λ l. l ++ take copied others) (pushed ∙ ap (λ l. l ++ head ∷ []) no_peer) ∙ ap (λ n. head ∷ take n others) least
    ∙ sym (behind_successor_front owner r head others rising positive front) in (
      made ∙ ap (behind_successor owner r head) same,
      rw (extended ∙ ap (λ l. l ++ take copied others) (pushed ∙ ap (λ l. l ++ head ∷ []) no_peer)) (omega arith),
      subst (Rises owner 0) (sym made) (Rises-behind_successor owner r head others),
    )
