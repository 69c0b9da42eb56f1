-- The search for a holder finds the one there is.
use Rattle.std.proofs.Common.{◌≡◌, ◌≢◌, ℕ, zero, suc, ◌+◌, ◌<◌, ◌≤◌, Bool, true, false, cond, Option, None, Some, List, [], ◌∷◌, length, filter, map, ◌⊎◌, inl, inr, ⊎_elim, refl, sym, ◌∙◌, ap, subst, arith}
use Rattle.std.specs.Prelude.{slice_get, Contains, flat_map, is_some, IfSome, IfNone}
use Rattle.std.proofs.lemmas.Bool.{cases_lt}
use Rattle.std.proofs.lemmas.Option.{slice_get_within, same_Some}
use Rattle.chord_map.proofs.Lists.{Has, has_left, has_right, contains_has, has_contained, has_got, place_of, found, not_found}
use Rattle.chord_handover.specs.Handover.{Item}
use Rattle.chord_ident.specs.Circle.{in_span}
use Rattle.chord_model.specs.declared.holder.Holder.{Holder}
use Rattle.chord_model.specs.declared.holder.Holder.TheVariants as holder
use Rattle.chord_model.specs.Node.{Node, segment_with}
use Rattle.chord_model.specs.World.{at_node, holders_under_way, holders, taken_by, last_taken, HasOneHolder}
use Rattle.chord_segment.specs.Segment.{Segment}
use Rattle.chord_world.specs.Holding.{is_open, way_of, holders_at, HolderIs}
use Rattle.chord_world.specs.State.{WorldState, NodesFrom}
use Rattle.chord_world.proofs.Placing.{nodes_by}

-- the node of a number is at that index
pub taken_at : (nodes : List Node) (to from : ℕ) (found : Option Node) → NodesFrom 0 nodes → found ≡ slice_get nodes to → taken_by found from ≡ last_taken nodes to from
unfolding last_taken
taken_at nodes to from found numbered e = ap (λ (o : Option Node). taken_by o from) (e ∙ sym (nodes_by.found 0 to to nodes numbered (omega arith)))

module _ {A B : Type 0} (p : A → Bool) (f : A → B) where
  -- no element passes
  pub none_passes : (xs : List A) → ((place : ℕ) (x : A) → slice_get xs place ≡ Some x → p x ≡ false) → map f (filter p xs) ≡ []
  none_passes [] fails = refl
  none_passes (x ∷ xs) fails = rw (fails zero x refl) (none_passes xs (λ place y e. fails (suc place) y e))

  -- one passes
  has_first : (b : Bool) (x : A) (rest : List A) → b ≡ true → Has (map f (cond b (x ∷ rest) rest)) (f x)
  has_first true x rest e = inl refl
  has_first false x rest e = cc

  has_later : (b : Bool) (y : A) (z : B) (rest : List A) → Has (map f rest) z → Has (map f (cond b (y ∷ rest) rest)) z
  has_later true y z rest h = inr h
  has_later false y z rest h = h

  pub one_passes : (xs : List A) (place : ℕ) (x : A) → slice_get xs place ≡ Some x → p x ≡ true → Has (map f (filter p xs)) (f x)
  one_passes [] place x e passes = cc
  one_passes (y ∷ xs) zero x e passes =
      let same : y ≡ x = cc in
      subst (λ z. Has (map f (filter p (y ∷ xs))) (f z)) same (has_first (p y) y (filter p xs) (subst (λ z. p z ≡ true) (sym same) passes))
  one_passes (y ∷ xs) (suc place) x e passes = has_later (p y) y (f x) (filter p xs) (one_passes xs place x e passes)

-- ---- one list of all

pub has_flat : {A B : Type 0} (f : A → List B) (xs : List A) (place : ℕ) (x : A) (y : B) → slice_get xs place ≡ Some x → Has (f x) y → Has (flat_map f xs) y
has_flat f [] place x y e h = cc
has_flat f (z ∷ xs) zero x y e h = let same : z ≡ x = cc in has_left (f z) (flat_map f xs) y (subst (λ a. Has (f a) y) (sym same) h)
has_flat f (z ∷ xs) (suc place) x y e h = has_right (f z) (flat_map f xs) y (has_flat f xs place x y e h)

pub flat_none : {A B : Type 0} (f : A → List B) (xs : List A) → ((place : ℕ) (x : A) → slice_get xs place ≡ Some x → f x ≡ []) → flat_map f xs ≡ []
flat_none f [] none = refl
flat_none f (x ∷ xs) none = rw (none zero x refl, flat_none f xs (λ place y e. none (suc place) y e)) refl

below_or_same : (k n : ℕ) → k < n + 1 → (k < n) ⊎ (k ≡ n)
below_or_same k n h = ⊎_elim (λ b. inl b) (λ b. inr (omega arith)) (cases_lt k n)

-- ---- the items of an outbox

pub over_none : (x : ℕ) (taken : ℕ → ℕ → ℕ) (node : Node) (item : Item) (place : ℕ) → place < 0 → slice_get node.outbox place ≡ Some item → is_open x taken node item ≡ false
over_none x taken node item place h e = absurd (omega arith)

pub over_one_more : (x : ℕ) (taken : ℕ → ℕ → ℕ) (node : Node) (i : ℕ)
    → ((place : ℕ) (item : Item) → place < i → slice_get node.outbox place ≡ Some item → is_open x taken node item ≡ false)
    → ((item : Item) → slice_get node.outbox i ≡ Some item → is_open x taken node item ≡ false)
    → (place : ℕ) (item : Item) → place < i + 1 → slice_get node.outbox place ≡ Some item → is_open x taken node item ≡ false
over_one_more x taken node i before here place item h e =
    ⊎_elim (λ below. before place item below e) (λ same. here item (subst (λ k. slice_get node.outbox k ≡ Some item) same e)) (below_or_same place i h)

pub under_way_none : (x : ℕ) (nodes : List Node) (node : Node) (count : ℕ) → length node.outbox ≤ count
    → ((place : ℕ) (item : Item) → place < count → slice_get node.outbox place ≡ Some item → is_open x (last_taken nodes) node item ≡ false)
    → holders_under_way x (last_taken nodes) node ≡ []
under_way_none x nodes node count all over =
    none_passes (is_open x (last_taken nodes) node) (way_of node) node.outbox
    (λ place item e. let within = slice_get_within node.outbox place item e in over place item (omega arith) e)

pub under_way_found : (x : ℕ) (nodes : List Node) (node : Node) (place : ℕ) (found : Holder)
    → ((item : Item) × (slice_get node.outbox place ≡ Some item) × (is_open x (last_taken nodes) node item ≡ true) × (found ≡ way_of node item))
    → Contains (holders_under_way x (last_taken nodes) node) found
under_way_found x nodes node place found (item, there, open_to, is) =
    subst (Contains (holders_under_way x (last_taken nodes) node)) (sym is)
    (contains_has _ _ (one_passes (is_open x (last_taken nodes) node) (way_of node) node.outbox place item there open_to))

-- ---- one node

pub node_found : (x : ℕ) (nodes : List Node) (node : Node) (o : Option Segment) → o ≡ segment_with x node.held → is_some o ≡ true
    → Contains (holders_at x nodes node) (holder.Node node.number)
unfolding segment_with
node_found x nodes node None e there = cc
node_found x nodes node (Some segment) e there =
    let hit = found (λ (s : Segment). in_span s.span x) node.held segment (sym e) in
    let at = place_of node.held segment hit.1 in
    contains_has _ _ (has_left _ (holders_under_way x (last_taken nodes) node) _
    (one_passes (λ (s : Segment). in_span s.span x) (λ (s : Segment). holder.Node node.number) node.held at.0 segment at.1 hit.0))

not_held : (x : ℕ) (node : Node) (o : Option Segment) → o ≡ segment_with x node.held → is_some o ≡ false → at_node x node ≡ []
unfolding segment_with
not_held x node (Some segment) e no_one = cc
not_held x node None e no_one =
    none_passes (λ (s : Segment). in_span s.span x) (λ (s : Segment). holder.Node node.number) node.held
    (λ place s at. not_found (λ (s : Segment). in_span s.span x) node.held s (sym e) (has_got node.held place s at))

pub some_way_found : (x : ℕ) (nodes : List Node) (node : Node) (o : Option Holder) → IfSome o (λ found. Contains (holders_under_way x (last_taken nodes) node) found)
    → IfSome o (λ found. Contains (holders_at x nodes node) found)
some_way_found x nodes node None h = tt
some_way_found x nodes node (Some found) h = contains_has _ _ (has_right (at_node x node) _ found (has_contained _ _ h))

pub none_way_found : (x : ℕ) (nodes : List Node) (node : Node) (o : Option Holder) → is_some (segment_with x node.held) ≡ false
    → IfNone o (holders_under_way x (last_taken nodes) node ≡ []) → IfNone o (holders_at x nodes node ≡ [])
none_way_found x nodes node (Some found) missed h = tt
none_way_found x nodes node None missed h = rw (not_held x node (segment_with x node.held) refl missed, h) refl

-- ---- all nodes

pub over_no_node : (x : ℕ) (nodes : List Node) (place : ℕ) (node : Node) → place < 0 → slice_get nodes place ≡ Some node → holders_at x nodes node ≡ []
over_no_node x nodes place node h e = absurd (omega arith)

pub over_one_more_node : (x : ℕ) (nodes : List Node) (i : ℕ) (here : Node) → slice_get nodes i ≡ Some here → holders_at x nodes here ≡ []
    → ((place : ℕ) (node : Node) → place < i → slice_get nodes place ≡ Some node → holders_at x nodes node ≡ [])
    → (place : ℕ) (node : Node) → place < i + 1 → slice_get nodes place ≡ Some node → holders_at x nodes node ≡ []
over_one_more_node x nodes i here at none before place node h e =
    ⊎_elim (λ below. before place node below e)
    (λ same. let is : here ≡ node = same_Some here node (sym at ∙ subst (λ k. slice_get nodes k ≡ Some node) same e) in subst (λ n. holders_at x nodes n ≡ []) is none)
    (below_or_same place i h)

pub none_at_all : (x : ℕ) (nodes : List Node) (count : ℕ) → length nodes ≤ count
    → ((place : ℕ) (node : Node) → place < count → slice_get nodes place ≡ Some node → holders_at x nodes node ≡ []) → holders x nodes ≡ []
none_at_all x nodes count all over =
    flat_none (λ (node : Node). holders_at x nodes node) nodes (λ place node e. let within = slice_get_within nodes place node e in over place node (omega arith) e)

pub found_at : (x : ℕ) (nodes : List Node) (place : ℕ) (node : Node) (found : Holder) → slice_get nodes place ≡ Some node → Contains (holders_at x nodes node) found → Contains (holders x nodes) found
found_at x nodes place node found at h = contains_has _ _ (has_flat (λ (n : Node). holders_at x nodes n) nodes place node found at (has_contained _ _ h))

-- ---- the one holder

only : (xs : List Holder) (one found : Holder) → xs ≡ one ∷ [] → Has xs found → xs ≡ found ∷ []
only xs one found e h = alone (subst (λ ys. Has ys found) e h)
  where
    alone : Has (one ∷ []) found → xs ≡ found ∷ []
    alone (inl same) = e ∙ ap (λ (holder : Holder). holder ∷ []) same
    alone (inr none) = absurd none

some_holder : (x : ℕ) (nodes : List Node) (found : Holder) → (nodes ≢ [] → HasOneHolder x nodes) → Contains (holders x nodes) found → holders x nodes ≡ found ∷ []
some_holder x [] found one h = absurd (has_contained (holders x []) found h)
some_holder x (node ∷ nodes) found one h =
    let there : node ∷ nodes ≢ [] = λ e. cc in
    only (holders x (node ∷ nodes)) (one there).0 found (one there).1 (has_contained (holders x (node ∷ nodes)) found h)

no_holder : (x : ℕ) (nodes : List Node) → (nodes ≢ [] → HasOneHolder x nodes) → holders x nodes ≡ [] → nodes ≡ []
no_holder x [] one e = refl
no_holder x (node ∷ nodes) one e =
    let there : node ∷ nodes ≢ [] = λ same. cc in
    let some = (one there).1 in cc

pub holder_is : (x : ℕ) (view state : WorldState) → view ≡ state → (nodes : List Node) → nodes ≡ view.world.nodes → (o : Option Holder)
    → (view.world.nodes ≢ [] → HasOneHolder x view.world.nodes)
    → IfSome o (λ found. Contains (holders x nodes) found) → IfNone o (holders x nodes ≡ []) → HolderIs x state o
holder_is x view state e nodes same None one some none =
    subst (λ (s : WorldState). HolderIs x s None) e (no_holder x view.world.nodes one (subst (λ (ns : List Node). holders x ns ≡ []) same none))
holder_is x view state e nodes same (Some found) one some none =
    subst (λ (s : WorldState). HolderIs x s (Some found)) e
    (some_holder x view.world.nodes found one (subst (λ (ns : List Node). Contains (holders x ns) found) same some))
