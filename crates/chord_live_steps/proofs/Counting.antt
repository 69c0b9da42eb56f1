-- Numbers below the next one, and what the register has of them.
use Rattle.std.proofs.Common.{◌≡◌, ℕ, zero, suc, ◌+◌, ◌<◌, ◌≤◌, Bool, true, false, List, [], ◌∷◌, ◌++◌, All, map, refl, sym, ap, ◌∙◌, subst, arith, length}
use Rattle.std.proofs.lemmas.List.Elements.{All-contains, All-nil, All-weaker, All-push}
use Rattle.std.proofs.lemmas.List.{length-map, length_push, map-append}
use Rattle.std.specs.Prelude.{◌≢◌, ◌^◌, Contains, slice_index_or}
use Rattle.chord_caller.specs.Answers.{new_caller}
use Rattle.chord_caller.specs.Caller.{Caller}
use Rattle.chord_ident.specs.Circle.{IsBetween}
use Rattle.chord_ident.specs.declared.id.Id.{Id}
use Rattle.chord_links.specs.NodeLinks.{NodeLinks, alone, first_entry}
use Rattle.chord_live_steps.specs.Counts.{numbers_below}
use Rattle.chord_live_steps.specs.Registered.{IsRegister}
use Rattle.chord_model.specs.declared.phase.Phase.TheVariants.{Gone}
use Rattle.chord_model.specs.Node.{Node, founder, newborn}
use Rattle.chord_ring.specs.Steps.{joined_links}
use Rattle.chord_table.specs.Views.{MayFound, MayJoin, MayOpen, Register}

-- there are no numbers below 0
pub none_below : [] ≡ numbers_below 0
unfolding numbers_below
none_below = refl

-- with the next number added they are those below the one after it
pub below_next : (numbers : List ℕ) (count number : ℕ) → number ≡ count → numbers ≡ numbers_below count → numbers ++ number ∷ [] ≡ numbers_below (count + 1)
unfolding numbers_below
below_next numbers count number same are =
    ap (λ ns. ns ++ number ∷ []) are ∙ ap (λ n. numbers_below count ++ n ∷ []) same ∙ ap numbers_below (let e : suc count ≡ count + 1 = omega arith in e)

-- all of them are below it
all_below : (count : ℕ) → All (λ n. n < count) (numbers_below count)
unfolding numbers_below
all_below zero = All-nil (λ n. n < 0)
all_below (suc count) =
    All-push (λ n. n < suc count) (numbers_below count) count
    (All-weaker (λ n. n < count) (λ n. n < suc count) (λ n less. omega (arith, less)) (numbers_below count) (all_below count)) (omega arith)

-- so the next one is none of them
pub next_is_new : (numbers : List ℕ) (count number : ℕ) → numbers ≡ numbers_below count → number ≡ count → Contains numbers number → ⊥
next_is_new numbers count number are same there =
    let low : number < count = All-contains (λ n. n < count) (numbers_below count) number (all_below count) (subst (λ (ns : List ℕ). Contains ns number) are there) in
    omega (arith, low, same)

pub count_below : (count : ℕ) → length (numbers_below count) ≡ count
unfolding numbers_below
count_below zero = refl
count_below (suc count) = length_push (numbers_below count) count ∙ ap (λ n. n + 1) (count_below count) ∙ (let e : count + 1 ≡ suc count = omega arith in e)

-- ---- identifiers

abbrev number_in : Id → ℕ
number_in id = id.number

indexed : (ids : List Id) (k : ℕ) (id : Id) → slice_index_or (map number_in ids) k id.number ≡ (slice_index_or ids k id).number
indexed [] k id = refl
indexed (first ∷ ids) zero id = refl
indexed (first ∷ ids) (suc k) id = indexed ids k id

-- an identifier is used if its number is
pub contains_id : (ids : List Id) (id : Id) → Contains (map number_in ids) id.number → Contains ids id
contains_id ids id (k, within, is) =
    (k, subst (λ n. k < n) (length-map ids number_in) within, (let same : (slice_index_or ids k id).number ≡ id.number = sym (indexed ids k id) ∙ is in ap (λ n. record { number = n }) same))

-- ---- the register

-- a caller under the next number may be admitted
pub open_may : (callers : List ℕ) (number window : ℕ) (core : Caller) → callers ≡ numbers_below number → 1 ≤ window → window ≤ 16 → core ≡ new_caller number window → MayOpen callers core
open_may callers number window core are some small made =
    subst (λ (c : Caller). MayOpen callers c) (sym made) ((λ there. next_is_new callers number number are refl there), (window, some, small, refl))

-- nobody is registered yet
pub none_registered : IsRegister 0 [] true (record { nodes = []; callers = []; ids = []; premise = true; principals = [] })
none_registered = record { nodes_are = none_below; callers_are = none_below; ids_are = refl; premised = refl }

-- with the next node
pub node_registered : (old new : Register) (callers number : ℕ) (ids : List Id) (premise : Bool) (id : Id) → IsRegister callers ids premise old → number ≡ length ids
    → new ≡ record old { nodes = old.nodes ++ number ∷ []; ids = old.ids ++ id.number ∷ [] } → IsRegister callers (ids ++ id ∷ []) premise new
node_registered old new callers number ids premise id was same is =
    subst (λ (r : Register). IsRegister callers (ids ++ id ∷ []) premise r) (sym is)
    (record {
      nodes_are = below_next old.nodes (length ids) number same was.nodes_are ∙ ap numbers_below (sym (length_push ids id));
      callers_are = was.callers_are;
      ids_are = ap (λ all. all ++ id.number ∷ []) was.ids_are ∙ sym (map-append number_in ids (id ∷ []));
      premised = was.premised;
    })

-- with the next caller
pub caller_registered : (old new : Register) (callers number : ℕ) (ids : List Id) (premise : Bool) → IsRegister callers ids premise old → number ≡ callers
    → new ≡ record old { callers = old.callers ++ number ∷ [] } → IsRegister (callers + 1) ids premise new
caller_registered old new callers number ids premise was same is =
    subst (λ (r : Register). IsRegister (callers + 1) ids premise r) (sym is)
    (record {
      nodes_are = was.nodes_are;
      callers_are = below_next old.callers callers number same was.callers_are;
      ids_are = was.ids_are;
      premised = was.premised;
    })

-- without the premise
pub broken_register : (old new : Register) (callers : ℕ) (ids : List Id) (premise : Bool) → IsRegister callers ids premise old
    → new ≡ record old { premise = false } → IsRegister callers ids false new
broken_register old new callers ids premise was is =
    subst (λ (r : Register). IsRegister callers ids false r) (sym is)
    (record { nodes_are = was.nodes_are; callers_are = was.callers_are; ids_are = was.ids_are; premised = refl })

-- ---- nodes that are admitted

-- a first node may be
pub founder_may : (nodes : List ℕ) (count : ℕ) (node : Node) (id : Id) (r limit : ℕ) → nodes ≡ numbers_below count → count ≡ 0 → id.number < 2 ^ 128 → 2 ≤ r
    → node ≡ founder (alone (record { number = 0; id = id }) r) limit → MayFound nodes node
founder_may nodes count node id r limit are none low some is =
    (are ∙ ap numbers_below none ∙ sym none_below, (id.number, r, limit, low, omega (arith, some), is))

-- a later one may be, behind a member
pub join_may : (register : Register) (pred node : Node) (callers : ℕ) (ids : List Id) (premise : Bool) (links : NodeLinks) (limit : ℕ) → IsRegister callers ids premise register
    → links.me.number ≡ length ids → links.me.id.number < 2 ^ 128 → (Contains ids links.me.id → ⊥) → pred.phase ≢ Gone
    → IsBetween pred.links.me.id.number links.me.id.number (first_entry pred.links).id.number → links ≡ joined_links links.me pred.links → node ≡ newborn links limit → MayJoin register pred node
join_may register pred node callers ids premise links limit was next low unused live between behind is =
    subst (λ (n : Node). MayJoin register pred n) (sym is)
    (record {
      limit = limit;
      live = live;
      new = next_is_new register.nodes (length ids) links.me.number was.nodes_are next;
      next = next ∙ sym (ap length was.ids_are ∙ length-map ids number_in);
      is_id = low;
      is_unused = λ there. unused (contains_id ids links.me.id (subst (λ (all : List ℕ). Contains all links.me.id.number) was.ids_are there));
      is_between = between;
      is = ap (λ (l : NodeLinks). newborn l limit) behind;
    })
