-- Looking nodes up, and the last numbers taken.
use Rattle.std.proofs.Common.{◌≡◌, ◌≢◌, ℕ, zero, suc, ◌≤◌, true, cond, not, eqb, ◌⊎◌, inl, inr, ⊎_elim, refl, sym, ◌∙◌, ap, subst, arith, List, [], ◌∷◌, ◌++◌, find, Some, slice_get}
use Rattle.std.proofs.lemmas.Bool.{eq-eqb, ne_eqb, cond-true, cond-false, cases_eq}
use Rattle.std.proofs.lemmas.Option.{same_Some, none-some}
use Rattle.chord_handover.proofs.OutboxLemmas.{is_item_parts}
use Rattle.chord_handover.specs.Handover.{Item, is_item, item_at, outbox_without}
use Rattle.chord_ident.specs.Circle.{in_span}
use Rattle.chord_map.proofs.Lists.{by_test, by_option, Has, found, find_left, find_right, place_of, has_filter}
use Rattle.chord_model.proofs.Numbered.{nodes_by}
use Rattle.chord_model.specs.Node.{Node, segment_with, append_at}
use Rattle.chord_model.specs.World.{node_at, put_node, taken_by, last_taken}
use Rattle.chord_segment.specs.Marks.{mark_of}
use Rattle.chord_segment.specs.Segment.{Segment, append}
use Rattle.chord_map.specs.declared.done.Done.{Done}

-- a node found after a put is the one put, or was there before under another number
pub put_node_cases : (after : Node) (nodes : List Node) (node : Node) (number : ℕ) (other : Node) → node_at after.number nodes ≡ Some node
    → node_at number (put_node after nodes) ≡ Some other
    → ((number ≡ after.number) × (after ≡ other)) ⊎ ((number ≢ after.number) × (node_at number nodes ≡ Some other))
put_node_cases after nodes node number other here e =
    ⊎_elim
    (λ same. inl (same, same_Some after other (sym (nodes_by.put_same after nodes node here) ∙ subst (λ n. node_at n (put_node after nodes) ≡ Some other) same e)))
    (λ apart. inr (apart, sym (nodes_by.put_apart after nodes number apart) ∙ e))
    (cases_eq number after.number)

pub last_at : (nodes : List Node) (to from : ℕ) (node : Node) → node_at to nodes ≡ Some node → last_taken nodes to from ≡ mark_of from node.taken
unfolding last_taken
last_at nodes to from node e = ap (λ o. taken_by o from) e

last_same : (one other : List Node) (to from : ℕ) → node_at to one ≡ node_at to other → last_taken one to from ≡ last_taken other to from
unfolding last_taken
last_same one other to from e = ap (λ o. taken_by o from) e

-- the last number taken does not fall
pub last_grows : (after : Node) (nodes : List Node) (node : Node) → node_at after.number nodes ≡ Some node
    → ((from : ℕ) → mark_of from node.taken ≤ mark_of from after.taken) → (to from : ℕ) → last_taken nodes to from ≤ last_taken (put_node after nodes) to from
last_grows after nodes node here grows to from =
    ⊎_elim
    (λ same.
    subst (λ n. last_taken nodes n from ≤ last_taken (put_node after nodes) n from) (sym same)
    (omega (arith, last_at nodes after.number from node here, last_at (put_node after nodes) after.number from after (nodes_by.put_same after nodes node here), grows from)))
    (λ apart. omega (arith, last_same (put_node after nodes) nodes to from (nodes_by.put_apart after nodes to apart)))
    (cases_eq to after.number)

-- one more node at the end

pub node_pushed : (number : ℕ) (nodes : List Node) (last node : Node) → node_at number (nodes ++ last ∷ []) ≡ Some node → (node_at number nodes ≡ Some node) ⊎ (last ≡ node)
unfolding node_at
node_pushed number nodes last node e =
    by_option (node_at number nodes)
    (λ none. inr (⊎_elim (λ is. is) (λ n. absurd n)
    (found (λ (n : Node). eqb n.number number) (last ∷ []) node (sym (find_right (λ (n : Node). eqb n.number number) nodes (last ∷ []) none) ∙ e)).1))
    (λ other some. inl (some ∙ sym (find_left (λ (n : Node). eqb n.number number) nodes (last ∷ []) other some) ∙ e))

node_left : (number : ℕ) (nodes : List Node) (last node : Node) → node_at number nodes ≡ Some node → node_at number (nodes ++ last ∷ []) ≡ Some node
unfolding node_at
node_left number nodes last node e = find_left (λ (n : Node). eqb n.number number) nodes (last ∷ []) node e

pub last_pushed : (nodes : List Node) (last : Node) (to from : ℕ) → last_taken nodes to from ≤ last_taken (nodes ++ last ∷ []) to from
unfolding last_taken
last_pushed nodes last to from =
    by_option (node_at to nodes)
    (λ none. let e : last_taken nodes to from ≡ 0 = ap (λ o. taken_by o from) none in omega (arith, e))
    (λ other some.
    let e : last_taken nodes to from ≡ mark_of from other.taken = ap (λ o. taken_by o from) some in
    let d : last_taken (nodes ++ last ∷ []) to from ≡ mark_of from other.taken = ap (λ o. taken_by o from) (node_left to nodes last other some) in
    omega (arith, e, d))

pub not_empty : {A : Type 0} (xs : List A) (x : A) → xs ++ x ∷ [] ≡ [] → ⊥
not_empty [] x e = cc
not_empty (y ∷ xs) x e = cc

pub put_not_empty : (after : Node) (nodes : List Node) (node : Node) → node_at after.number nodes ≡ Some node → put_node after nodes ≡ [] → ⊥
unfolding node_at
put_not_empty after nodes node here e =
    none-some after (sym (ap (node_at after.number) e) ∙ nodes_by.put_same after nodes node here)

-- the held segment that contains x

pub segment_found : (x : ℕ) (held : List Segment) (segment : Segment) → segment_with x held ≡ Some segment → (in_span segment.span x ≡ true) × Has held segment
unfolding segment_with
segment_found x held segment e = found (λ (s : Segment). in_span s.span x) held segment e

pub item_found : (to number : ℕ) (outbox : List Item) (item : Item) → item_at to number outbox ≡ Some item
    → (item.to ≡ to) × (item.number ≡ number) × Has outbox item
unfolding item_at
item_found to number outbox item e =
    let is = found (is_item to number) outbox item e in
    let parts = is_item_parts to number item is.0 in (parts.0, parts.1, is.1)

pub without_has : (to number : ℕ) (outbox : List Item) (item : Item) → Has (outbox_without to number outbox) item → Has outbox item
unfolding outbox_without
without_has to number outbox item h = (has_filter (λ (i : Item). not (is_item to number i)) outbox item h).0

-- after an append a segment is the changed one, or was at another index
pub append_cases : (x : ℕ) (done : Done) (floor : ℕ) (held : List Segment) (segment other : Segment) → segment_with x held ≡ Some segment
    → Has (append_at x done floor held) other
    → (append done floor segment ≡ other)
    ⊎ ((here : ℕ) × (there : ℕ) × (slice_get held here ≡ Some segment) × (slice_get held there ≡ Some other) × (here ≢ there))
unfolding segment_with append_at
append_cases x done floor [] segment other e h = absurd h
append_cases x done floor (first ∷ rest) segment other e h =
    by_test (in_span first.span x)
    (λ t.
    let same : first ≡ segment = same_Some first segment (sym (cond-true (in_span first.span x) (Some first) (segment_with x rest) t) ∙ e) in
    ⊎_elim (λ is. inl (ap (append done floor) (sym same) ∙ is))
    (λ more. let r = place_of rest other more in inr (zero, suc r.0, ap Some same, r.1, omega arith))
    (subst (λ ss. Has ss other) (cond-true (in_span first.span x) (append done floor first ∷ rest) (first ∷ append_at x done floor rest) t) h))
    (λ f.
    let further : segment_with x rest ≡ Some segment = sym (cond-false (in_span first.span x) (Some first) (segment_with x rest) f) ∙ e in
    ⊎_elim
    (λ is. let r = place_of rest segment (segment_found x rest segment further).1 in inr (suc r.0, zero, r.1, ap Some is, omega arith))
    (λ more. ⊎_elim (λ is. inl is) (λ r. inr (suc r.0, suc r.1, r.2, r.3, omega arith)) (append_cases x done floor rest segment other further more))
    (subst (λ ss. Has ss other) (cond-false (in_span first.span x) (append done floor first ∷ rest) (first ∷ append_at x done floor rest) f) h))

-- a key's identifier is on the circle
