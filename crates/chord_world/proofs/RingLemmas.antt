-- The ring formed by the nodes, after a node changes, joins or crashes.
use Rattle.std.proofs.Common.{◌≡◌, ℕ, zero, suc, ◌<◌, ◌≤◌, ◌||◌, ◌⊎◌, inl, inr, Bool, true, false, None, Some, List, [], ◌∷◌, ◌++◌, length, map, set, refl, sym, ◌∙◌, ap, arith}
use Rattle.std.specs.Prelude.{slice_get, slice_index_or}
use Rattle.std.proofs.lemmas.List.{get_or_past, length-map}
use Rattle.chord_links.specs.NodeLinks.{NodeLinks}
use Rattle.chord_ring.specs.Ring.{links_of}
use Rattle.chord_ring.specs.Steps.{with_links, ring_without}
use Rattle.chord_model.specs.Node.{Node}
use Rattle.std.proofs.lemmas.Bool.{true≢false}
use Rattle.chord_world.specs.declared.fate.Fate.{Fate}
use Rattle.chord_world.specs.declared.fate.Fate.TheVariants as fate
use Rattle.chord_world.specs.State.{WorldState, fate_of, is_crashed}
use Rattle.chord_world.specs.Members.{is_out, is_dead, is_gone, links_unless, member_links, members_of, id_of_node, ids_of, ring_with}

-- ---- lists

pub get_pushed : {A : Type 0} (xs : List A) (place : ℕ) (x : A) → place < length xs → slice_get (xs ++ x ∷ []) place ≡ slice_get xs place
get_pushed [] place x within = absurd (omega arith)
get_pushed (y ∷ xs) zero x within = refl
get_pushed (y ∷ xs) (suc place) x within = get_pushed xs place x (omega arith)

-- the fate of a node that crashed has an index in the list
pub fate_within : (p : Fate → Bool) (fates : List Fate) (place : ℕ) → p fate.Well ≡ false → p (slice_index_or fates place fate.Well) ≡ true → place < length fates
fate_within p [] place well e = absurd (true≢false (sym e ∙ well))
fate_within p (one ∷ fates) zero well e = omega arith
fate_within p (one ∷ fates) (suc place) well e = let rest = fate_within p fates place well e in omega arith

pub fate_pushed : (fates : List Fate) (place : ℕ) → slice_index_or (fates ++ fate.Well ∷ []) place fate.Well ≡ slice_index_or fates place fate.Well
fate_pushed [] zero = refl
fate_pushed [] (suc place) = refl
fate_pushed (one ∷ fates) zero = refl
fate_pushed (one ∷ fates) (suc place) = fate_pushed fates place

pub fate_here : (fates : List Fate) (place : ℕ) (after : Fate) → place < length fates → slice_index_or (set fates place after) place fate.Well ≡ after
fate_here [] place after within = absurd (omega arith)
fate_here (one ∷ fates) zero after within = refl
fate_here (one ∷ fates) (suc place) after within = fate_here fates place after (omega arith)

pub fate_other : (fates : List Fate) (place other : ℕ) (after : Fate) → (other ≡ place) ⊎ (slice_index_or (set fates place after) other fate.Well ≡ slice_index_or fates other fate.Well)
fate_other [] zero other after = inr refl
fate_other [] (suc place) other after = inr refl
fate_other (one ∷ fates) zero zero after = inl refl
fate_other (one ∷ fates) zero (suc other) after = inr refl
fate_other (one ∷ fates) (suc place) zero after = inr refl
fate_other (one ∷ fates) (suc place) (suc other) after = elim (fate_other fates place other after) [
  | inl same ↦ inl (ap suc same)
  | inr same ↦ inr same
]

-- a fate like the one that is set stays like it
pub fate_set : (p : Fate → Bool) (fates : List Fate) (place other : ℕ) (after : Fate) → p fate.Well ≡ false → p after ≡ true → p (slice_index_or fates other fate.Well) ≡ true
    → p (slice_index_or (set fates place after) other fate.Well) ≡ true
fate_set p fates place other after well is e = elim (fate_other fates place other after) [
  | inl same ↦ ap (λ n. p (slice_index_or (set fates place after) n fate.Well)) same
      ∙ ap p (fate_here fates place after (fate_within p fates place well (ap (λ n. p (slice_index_or fates n fate.Well)) (sym same) ∙ e))) ∙ is
  | inr same ↦ ap p same ∙ e
]

-- a node that is not dead for the ring takes steps
pub alive_runs : (one : Fate) → is_dead one ≡ false → is_out one ≡ false
alive_runs fate.Well e = refl
alive_runs fate.Crashed e = cc
alive_runs fate.Rescued e = cc

pub out_dead : (one : Fate) → is_out one ≡ true → is_dead one ≡ true
out_dead fate.Well e = cc
out_dead fate.Crashed e = refl
out_dead fate.Rescued e = refl

-- what the code reads of the fates
pub fate_view : (p : Fate → Bool) (number : ℕ) (view : WorldState) (read : List Fate) (result : Bool) {value : Bool} → read ≡ view.fates → result ≡ p (slice_index_or read number fate.Well) → result ≡ value → p (fate_of number view) ≡ value
fate_view p number view read result same is e = ap (λ fates. p (slice_index_or fates number fate.Well)) (sym same) ∙ sym is ∙ e

pub fate_old : (number : ℕ) (view old : WorldState) (read : List Fate) (result : Bool) {value : Bool} → view ≡ old → read ≡ view.fates → result ≡ is_out (slice_index_or read number fate.Well) → result ≡ value → is_crashed number old ≡ value
fate_old number view old read result viewed same is e = ap (is_crashed number) (sym viewed) ∙ fate_view is_out number view read result same is e

-- ---- identifiers

pub ids_length : (nodes : List Node) → length (ids_of nodes) ≡ length nodes
unfolding ids_of
ids_length nodes = length-map nodes id_of_node

pub ids_are : (nodes : List Node) → map id_of_node nodes ≡ ids_of nodes
unfolding ids_of
ids_are nodes = refl

pub ids_pushed : (nodes : List Node) (node : Node) → ids_of (nodes ++ node ∷ []) ≡ ids_of nodes ++ node.links.me.id.number ∷ []
unfolding ids_of
ids_pushed [] node = refl
ids_pushed (other ∷ nodes) node = ap (λ ids. other.links.me.id.number ∷ ids) (ids_pushed nodes node)

pub ids_same : (place : ℕ) (node after : Node) (nodes : List Node) → slice_get nodes place ≡ Some node → after.links.me ≡ node.links.me → ids_of (set nodes place after) ≡ ids_of nodes
unfolding ids_of
ids_same place node after [] here e = cc
ids_same zero node after (other ∷ nodes) here e =
    let same : other ≡ node = cc in
    ap (λ id. id ∷ ids_of nodes) (ap (λ me. me.id.number) e ∙ ap (λ (n : Node). n.links.me.id.number) (sym same))
ids_same (suc place) node after (other ∷ nodes) here e = ap (λ ids. other.links.me.id.number ∷ ids) (ids_same place node after nodes here e)

-- ---- members

pub members_length : (nodes : List Node) (fates : List Fate) → length fates ≡ length nodes → length (members_of nodes fates) ≡ length nodes
unfolding members_of
members_length [] fates e = refl
members_length (node ∷ nodes) [] e = absurd (omega arith)
members_length (node ∷ nodes) (one ∷ fates) e = let rest = members_length nodes fates (omega arith) in omega arith

pub member_at : (place : ℕ) (nodes : List Node) (fates : List Fate) (node : Node) → length fates ≡ length nodes → slice_get nodes place ≡ Some node
    → links_of (members_of nodes fates) place ≡ member_links (is_dead (slice_index_or fates place fate.Well)) node
unfolding members_of
member_at place [] fates node e here = cc
member_at place (other ∷ nodes) [] node e here = absurd (omega arith)
member_at zero (other ∷ nodes) (one ∷ fates) node e here = let same : other ≡ node = cc in ap (member_links (is_dead one)) same
member_at (suc place) (other ∷ nodes) (one ∷ fates) node e here = member_at place nodes fates node (omega arith) here

pub member_past : (place : ℕ) (nodes : List Node) (fates : List Fate) → length fates ≡ length nodes → length nodes ≤ place → links_of (members_of nodes fates) place ≡ None
member_past place nodes fates e past = get_or_past (members_of nodes fates) place None (let same = members_length nodes fates e in omega arith)

pub members_set : (place : ℕ) (after : Node) (nodes : List Node) (fates : List Fate) → length fates ≡ length nodes
    → members_of (set nodes place after) fates ≡ set (members_of nodes fates) place (member_links (is_dead (slice_index_or fates place fate.Well)) after)
unfolding members_of
members_set zero after [] fates e = refl
members_set (suc place) after [] fates e = refl
members_set place after (other ∷ nodes) [] e = absurd (omega arith)
members_set zero after (other ∷ nodes) (one ∷ fates) e = refl
members_set (suc place) after (other ∷ nodes) (one ∷ fates) e = ap (λ ms. member_links (is_dead one) other ∷ ms) (members_set place after nodes fates (omega arith))

pub members_same : (place : ℕ) (node after : Node) (nodes : List Node) (fates : List Fate) → length fates ≡ length nodes → slice_get nodes place ≡ Some node
    → member_links (is_dead (slice_index_or fates place fate.Well)) after ≡ member_links (is_dead (slice_index_or fates place fate.Well)) node → members_of (set nodes place after) fates ≡ members_of nodes fates
unfolding members_of
members_same place node after [] fates e here links = cc
members_same place node after (other ∷ nodes) [] e here links = absurd (omega arith)
members_same zero node after (other ∷ nodes) (one ∷ fates) e here links =
    let same : other ≡ node = cc in ap (λ l. l ∷ members_of nodes fates) (links ∙ ap (member_links (is_dead one)) (sym same))
members_same (suc place) node after (other ∷ nodes) (one ∷ fates) e here links =
    ap (λ ms. member_links (is_dead one) other ∷ ms) (members_same place node after nodes fates (omega arith) here links)

pub members_pushed : (node : Node) (nodes : List Node) (fates : List Fate) → length fates ≡ length nodes
    → members_of (nodes ++ node ∷ []) (fates ++ fate.Well ∷ []) ≡ members_of nodes fates ++ member_links false node ∷ []
unfolding members_of
members_pushed node [] [] e = refl
members_pushed node [] (one ∷ fates) e = absurd (omega arith)
members_pushed node (other ∷ nodes) [] e = absurd (omega arith)
members_pushed node (other ∷ nodes) (one ∷ fates) e = ap (λ ms. member_links (is_dead one) other ∷ ms) (members_pushed node nodes fates (omega arith))

pub members_crash : (place : ℕ) (nodes : List Node) (fates : List Fate) → length fates ≡ length nodes
    → members_of nodes (set fates place fate.Crashed) ≡ set (members_of nodes fates) place None
unfolding members_of
members_crash zero [] fates e = refl
members_crash (suc place) [] fates e = refl
members_crash place (other ∷ nodes) [] e = absurd (omega arith)
members_crash zero (other ∷ nodes) (one ∷ fates) e = refl
members_crash (suc place) (other ∷ nodes) (one ∷ fates) e = ap (λ ms. member_links (is_dead one) other ∷ ms) (members_crash place nodes fates (omega arith))

-- a node that is dead for the ring stays so when it is rescued
pub members_rescue : (place : ℕ) (nodes : List Node) (fates : List Fate) → is_dead (slice_index_or fates place fate.Well) ≡ true → members_of nodes (set fates place fate.Rescued) ≡ members_of nodes fates
unfolding members_of
members_rescue place [] fates e = refl
members_rescue zero (other ∷ nodes) [] e = refl
members_rescue (suc place) (other ∷ nodes) [] e = refl
members_rescue zero (other ∷ nodes) (one ∷ fates) e = ap (λ dead. member_links dead other ∷ members_of nodes fates) (sym e)
members_rescue (suc place) (other ∷ nodes) (one ∷ fates) e = ap (λ ms. member_links (is_dead one) other ∷ ms) (members_rescue place nodes fates e)

-- ---- who is a member

-- the links of a node that did not depart
pub links_shown : (out : Bool) (links shown : NodeLinks) → links_unless out links ≡ Some shown → (out ≡ false) × (links ≡ shown)
links_shown true links shown e = cc
links_shown false links shown e = (refl, cc)

-- a member is neither dead for the ring nor gone
pub member_is : (dead : Bool) (node : Node) (links : NodeLinks) → member_links dead node ≡ Some links → (dead ≡ false) × (is_gone node.phase ≡ false) × (node.links ≡ links)
member_is true node links e = cc
member_is false node links e = let shown = links_shown (is_gone node.phase) node.links links e in (refl, shown.0, shown.1)

-- the member of this number, as a node
pub record MemberNode (number : ℕ) (nodes : List Node) (fates : List Fate) (links : NodeLinks) : Type 0 where
  pub node : Node
  pub here : slice_get nodes number ≡ Some node
  pub running : is_dead (slice_index_or fates number fate.Well) ≡ false
  pub staying : is_gone node.phase ≡ false
  pub links_are : node.links ≡ links

pub member_node : (number : ℕ) (nodes : List Node) (fates : List Fate) (links : NodeLinks) → length fates ≡ length nodes
    → links_of (members_of nodes fates) number ≡ Some links → MemberNode number nodes fates links
unfolding members_of
member_node number [] fates links e is = cc
member_node number (node ∷ nodes) [] links e is = absurd (omega arith)
member_node zero (node ∷ nodes) (one ∷ fates) links e is =
    let shown = member_is (is_dead one) node links is in record { node = node; here = refl; running = shown.0; staying = shown.1; links_are = shown.2 }
member_node (suc number) (node ∷ nodes) (one ∷ fates) links e is =
    let rest = member_node number nodes fates links (omega arith) is in record { node = rest.node; here = rest.here; running = rest.running; staying = rest.staying; links_are = rest.links_are }

-- ---- the ring after a node changed

-- the links of a member are replaced
pub ring_relinked : (place : ℕ) (node : Node) (links : NodeLinks) (nodes : List Node) (fates : List Fate) → length fates ≡ length nodes → slice_get nodes place ≡ Some node
    → is_dead (slice_index_or fates place fate.Well) ≡ false → is_gone node.phase ≡ false → links.me ≡ node.links.me
    → ring_with (set nodes place (record node { links = links })) fates ≡ with_links (ring_with nodes fates) place links
ring_relinked place node links nodes fates e here running staying me =
    let ids = ids_same place node (record node { links = links }) nodes here me in
    let members = members_set place (record node { links = links }) nodes fates e
    ∙ ap (λ out. set (members_of nodes fates) place (links_unless (out || is_gone node.phase) links)) running
    ∙ ap (λ gone. set (members_of nodes fates) place (links_unless gone links)) staying in
    λ i. record { ids = ids i; members = members i }

-- a node is gone
pub ring_departed : (place : ℕ) (node after : Node) (nodes : List Node) (fates : List Fate) → length fates ≡ length nodes → slice_get nodes place ≡ Some node
    → is_gone after.phase ≡ true → after.links.me ≡ node.links.me → ring_with (set nodes place after) fates ≡ ring_without (ring_with nodes fates) place
ring_departed place node after nodes fates e here gone me =
    let out = is_dead (slice_index_or fates place fate.Well) in
    let ids = ids_same place node after nodes here me in
    let members = members_set place after nodes fates e ∙ ap (λ b. set (members_of nodes fates) place (links_unless (out || b) after.links)) gone
    ∙ ap (λ l. set (members_of nodes fates) place l) (no_links out after.links) in
    λ i. record { ids = ids i; members = members i }
  where
    no_links : (out : Bool) (links : NodeLinks) → links_unless (out || true) links ≡ None
    no_links true links = refl
    no_links false links = refl
