-- The number of holders of an identifier.
use Rattle.std.proofs.Common.{◌≡◌, ◌≢◌, ℕ, suc, ◌+◌, ◌<◌, ◌≤◌, Bool, true, false, ◌&&◌, ltb, Some, None, List, [], ◌∷◌, ◌++◌, length, ⊎_elim, refl, sym, ◌∙◌, ap, arith, length-append}
use Rattle.std.specs.Prelude.{flat_map}
use Rattle.std.proofs.lemmas.Bool.Decides.{leb_tells}
use Rattle.chord_handover.proofs.Counting.{count, count_agree, length-map_filter}
use Rattle.chord_handover.proofs.OutboxLemmas.{DistinctItems, item_at_is, is_item_from, count-without, count-without_agree}
use Rattle.chord_handover.specs.Handover.{Item, is_item, item_at}
use Rattle.chord_ident.proofs.Spans.{one_if, test_from_le, le_from_test}
use Rattle.chord_ident.specs.Circle.{in_span}
use Rattle.chord_map.proofs.Finding.{not_true}
use Rattle.chord_model.proofs.Nodes.{DistinctNodes}
use Rattle.chord_model.specs.Node.{Node}
use Rattle.chord_model.specs.declared.holder.Holder.TheVariants as holder
use Rattle.chord_model.specs.World.{node_at, put_node, last_taken, at_node, holders_under_way, holders}
use Rattle.chord_map.proofs.Equal.{same_or_not, eqb_same, eqb_other}
use Rattle.chord_segment.specs.Segment.{Segment}

-- whether a segment has x
abbrev pub has : ℕ → Segment → Bool
has x segment = in_span segment.span x

-- whether an item has x and its receiver, which took up to this number, has not taken it
abbrev pub awaits : ℕ → (ℕ → ℕ) → Item → Bool
awaits x taken item = has x item.segment && ltb (taken item.to) item.number

-- the number of holders of x at a node
abbrev pub weight : ℕ → (ℕ → ℕ → ℕ) → Node → ℕ
weight x taken node = count (has x) node.held + count (awaits x (λ to. taken to node.number)) node.outbox

abbrev pub total : ℕ → (ℕ → ℕ → ℕ) → List Node → ℕ
total x taken [] = 0
total x taken (node ∷ nodes) = weight x taken node + total x taken nodes

holders_by : (x : ℕ) (taken : ℕ → ℕ → ℕ) (nodes : List Node) → length (flat_map (λ (node : Node). at_node x node ++ holders_under_way x taken node) nodes) ≡ total x taken nodes
holders_by x taken [] = refl
holders_by x taken (node ∷ nodes) =
    let rest = holders_by x taken nodes in
    let both = length-append (at_node x node ++ holders_under_way x taken node) (flat_map (λ (node : Node). at_node x node ++ holders_under_way x taken node) nodes) in
    let here = length-append (at_node x node) (holders_under_way x taken node) in
    let held = length-map_filter (λ (segment : Segment). holder.Node node.number) (has x) node.held in
    let way = length-map_filter (λ (item : Item). holder.UnderWay node.number item.to item.number) (awaits x (λ to. taken to node.number)) node.outbox in
    omega arith

-- the holders of x are as many as the total says
pub length-holders : (x : ℕ) (nodes : List Node) → length (holders x nodes) ≡ total x (last_taken nodes) nodes
length-holders x nodes = holders_by x (last_taken nodes) nodes

-- a changed node changes the total by the difference of the two weights
pub total-put : (x : ℕ) (taken : ℕ → ℕ → ℕ) (after node : Node) (nodes : List Node) → node_at after.number nodes ≡ Some node
    → total x taken (put_node after nodes) + weight x taken node ≡ total x taken nodes + weight x taken after
unfolding node_at put_node
total-put x taken after node [] e = cc
total-put x taken after node (other ∷ rest) e =
    ⊎_elim
    (λ (same : other.number ≡ after.number).
    let test = eqb_same other.number after.number same in
    let e' : Some other ≡ Some node = rw test at e in
    let found : other ≡ node = cc in
    rw test (let w = ap (weight x taken) found in omega arith))
    (λ (apart : other.number ≢ after.number).
    let test = eqb_other other.number after.number apart in
    let e' : node_at after.number rest ≡ Some node = rw test at e in
    rw test (omega (arith, total-put x taken after node rest e')))
    (same_or_not other.number after.number)

pub total-append : (x : ℕ) (taken : ℕ → ℕ → ℕ) (xs ys : List Node) → total x taken (xs ++ ys) ≡ total x taken xs + total x taken ys
total-append x taken [] ys = omega arith
total-append x taken (node ∷ xs) ys = omega (arith, total-append x taken xs ys)

pub weight_agree : (x : ℕ) (taken taken' : ℕ → ℕ → ℕ) (node : Node) → ((to : ℕ) → taken to node.number ≡ taken' to node.number) → weight x taken node ≡ weight x taken' node
weight_agree x taken taken' node same =
    ap (λ n. count (has x) node.held + n)
    (count_agree (awaits x (λ to. taken to node.number)) (awaits x (λ to. taken' to node.number))
    (λ item. ap (λ k. has x item.segment && ltb k item.number) (same item.to)) node.outbox)

-- equal numbers taken give equal totals
pub total_same : (x : ℕ) (taken taken' : ℕ → ℕ → ℕ) → ((to from : ℕ) → taken to from ≡ taken' to from) → (nodes : List Node) → total x taken nodes ≡ total x taken' nodes
total_same x taken taken' same [] = refl
total_same x taken taken' same (node ∷ nodes) =
    let w = weight_agree x taken taken' node (λ to. same to node.number) in
    omega (arith, total_same x taken taken' same nodes)

-- if there is no node of this number, only what the others took counts
total_agree : (x from : ℕ) (taken taken' : ℕ → ℕ → ℕ) → ((to other : ℕ) → other ≢ from → taken to other ≡ taken' to other)
    → (nodes : List Node) → node_at from nodes ≡ None → total x taken nodes ≡ total x taken' nodes
unfolding node_at
total_agree x from taken taken' same [] none = refl
total_agree x from taken taken' same (node ∷ rest) none =
    ⊎_elim
    (λ (here : node.number ≡ from). let none' : Some node ≡ None = rw (eqb_same node.number from here) at none in cc)
    (λ (apart : node.number ≢ from).
    let none' : node_at from rest ≡ None = rw (eqb_other node.number from apart) at none in
    let w = weight_agree x taken taken' node (λ to. same to node.number apart) in
    omega (arith, total_agree x from taken taken' same rest none'))
    (same_or_not node.number from)

-- taking from one sender changes the total by that sender's weight
pub total-take : (x from : ℕ) (taken taken' : ℕ → ℕ → ℕ) (h : ℕ) (sender : Node) → ((to other : ℕ) → other ≢ from → taken to other ≡ taken' to other)
    → weight x taken sender ≡ weight x taken' sender + h
    → (nodes : List Node) → DistinctNodes nodes → node_at from nodes ≡ Some sender → total x taken nodes ≡ total x taken' nodes + h
unfolding node_at
total-take x from taken taken' h sender same change [] d at = cc
total-take x from taken taken' h sender same change (node ∷ rest) d at =
    ⊎_elim
    (λ (here : node.number ≡ from).
    let test = eqb_same node.number from here in
    let at' : Some node ≡ Some sender = rw test at at in
    let found : node ≡ sender = cc in
    let none : node_at from rest ≡ None = rw here at d.0 in
    let w = ap (weight x taken) found in
    let w' = ap (weight x taken') found in
    omega (arith, total_agree x from taken taken' same rest none))
    (λ (apart : node.number ≢ from).
    let at' : node_at from rest ≡ Some sender = rw (eqb_other node.number from apart) at at in
    let w = weight_agree x taken taken' node (λ to. same to node.number apart) in
    omega (arith, total-take x from taken taken' h sender same change rest d.1 at'))
    (same_or_not node.number from)

ltb_agree : (a b n : ℕ) → (a < n → b < n) → (b < n → a < n) → ltb a n ≡ ltb b n
ltb_agree a b n f g =
    ⊎_elim (λ yes. yes.0 ∙ sym (test_from_le (suc b) n (f yes.1)))
    (λ no. no.0 ∙ sym (not_true (ltb b n) (λ t. let over = g (lt_from_test b n t) in omega (arith, no.1)))) (leb_tells (suc a) n)
  where
    lt_from_test : (b n : ℕ) → ltb b n ≡ true → b < n
    lt_from_test b n t = ⊎_elim (λ yes. yes.1) (λ no. absurd (let e : true ≡ false = sym t ∙ no.0 in cc)) (leb_tells (suc b) n)

-- only the taken item is tested otherwise
test_agrees : (t t' : ℕ → ℕ) (to number : ℕ) (item : Item) → t to + 1 ≡ number → t' to ≡ number → ((other : ℕ) → other ≢ to → t other ≡ t' other)
    → is_item to number item ≡ false → ltb (t item.to) item.number ≡ ltb (t' item.to) item.number
test_agrees t t' to number item before now same apart =
    ⊎_elim
    (λ (here : item.to ≡ to).
    let e = ap t here in
    let e' = ap t' here in
    let unlike : item.number ≢ number = λ n. let yes = is_item_from to number item here n in cc in
    ltb_agree (t item.to) (t' item.to) item.number (λ h. omega arith) (λ h. omega arith))
    (λ (there : item.to ≢ to). ap (λ k. ltb k item.number) (same item.to there))
    (same_or_not item.to to)

and_true : (b : Bool) → (b && true) ≡ b
and_true true = refl
and_true false = refl

and_false : (b : Bool) → (b && false) ≡ false
and_false true = refl
and_false false = refl

-- an item that was not taken awaits its receiver, one that was taken does not
pub awaits_yes : (x : ℕ) (taken : ℕ → ℕ) (item : Item) → taken item.to < item.number → awaits x taken item ≡ has x item.segment
awaits_yes x taken item above = rw (test_from_le (suc (taken item.to)) item.number above) (and_true (has x item.segment))

pub awaits_no : (x : ℕ) (taken : ℕ → ℕ) (item : Item) → item.number ≤ taken item.to → awaits x taken item ≡ false
awaits_no x taken item below =
    let test : ltb (taken item.to) item.number ≡ false = not_true (ltb (taken item.to) item.number) (λ t. let over = le_from_test (suc (taken item.to)) item.number t in absurd (omega arith)) in
    rw test (and_false (has x item.segment))

-- the next handover counts until it is taken
pub weight-take : (x to number : ℕ) (taken taken' : ℕ → ℕ → ℕ) (sender : Node) (item : Item)
    → taken to sender.number + 1 ≡ number → taken' to sender.number ≡ number → ((other : ℕ) → other ≢ to → taken other sender.number ≡ taken' other sender.number)
    → DistinctItems sender.outbox → item_at to number sender.outbox ≡ Some item
    → weight x taken sender ≡ weight x taken' sender + one_if (has x item.segment)
weight-take x to number taken taken' sender item before now same d at =
    let is = item_at_is to number sender.outbox item at in
    let t : ℕ → ℕ = λ to. taken to sender.number in
    let t' : ℕ → ℕ = λ to. taken' to sender.number in
    let to_here = ap t is.0 in
    let to_here' = ap t' is.0 in
    let all_p = count-without (awaits x t) to number sender.outbox item d at in
    let all_q = count-without (awaits x t') to number sender.outbox item d at in
    let here_p : one_if (awaits x t item) ≡ one_if (has x item.segment) = ap one_if (awaits_yes x t item (omega arith)) in
    let here_q : one_if (awaits x t' item) ≡ 0 = ap one_if (awaits_no x t' item (omega arith)) in
    let agree : (i : Item) → is_item to number i ≡ false → awaits x t i ≡ awaits x t' i =
    λ i apart. ap (λ b. has x i.segment && b) (test_agrees t t' to number i before now same apart) in
    let others = count-without_agree (awaits x t) (awaits x t') to number agree sender.outbox in
    omega arith
