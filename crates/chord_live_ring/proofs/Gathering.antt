-- How many nodes and callers are among sights, with one more behind them.
use Rattle.std.proofs.Common.{◌≡◌, ℕ, Bool, List, [], ◌∷◌, ◌++◌, ◌+◌, length, refl, sym, ap, ◌∙◌, append-nil}
use Rattle.std.proofs.lemmas.List.{length_push}
use Rattle.chord_caller.specs.Caller.{Caller}
use Rattle.chord_live_steps.proofs.Counting.{count_below}
use Rattle.chord_live_steps.specs.Counts.{numbers_below}
use Rattle.chord_model.specs.declared.message.Message.{Message}
use Rattle.chord_model.specs.Node.{Node}
use Rattle.chord_table.specs.Seen.{Actor, OfNode, OfCaller, Sight}
use Rattle.chord_table.specs.Views.{Assembled, IsWhole, with_node, with_caller, nodes_among, callers_among}

-- what is put in front of the first part is in front of both
node_in_front : (actor : Actor) (xs ys : List Node)
    → with_node actor (xs ++ ys) ≡ with_node actor xs ++ ys
node_in_front (OfNode node crashed) xs ys = refl
node_in_front (OfCaller caller) xs ys = refl

caller_in_front : (actor : Actor) (xs ys : List Caller)
    → with_caller actor (xs ++ ys) ≡ with_caller actor xs ++ ys
caller_in_front (OfNode node crashed) xs ys = refl
caller_in_front (OfCaller caller) xs ys = refl

nodes_joined : (xs ys : List Sight) → nodes_among (xs ++ ys) ≡ nodes_among xs ++ nodes_among ys
nodes_joined [] ys = refl
nodes_joined (x ∷ xs) ys =
    ap (λ nodes. with_node x.actor nodes) (nodes_joined xs ys)
    ∙ node_in_front x.actor (nodes_among xs) (nodes_among ys)

callers_joined : (xs ys : List Sight)
    → callers_among (xs ++ ys) ≡ callers_among xs ++ callers_among ys
callers_joined [] ys = refl
callers_joined (x ∷ xs) ys =
    ap (λ callers. with_caller x.actor callers) (callers_joined xs ys)
    ∙ caller_in_front x.actor (callers_among xs) (callers_among ys)

-- a node behind the others, crashed or not
module _ (taken : List Sight) (node : Node) (crashed : Bool) (messages : List Message) where
  abbrev with_node_behind : List Sight
  with_node_behind = taken ++ record { actor = OfNode node crashed; messages = messages } ∷ []

  pub one_node_more : length (nodes_among with_node_behind) ≡ length (nodes_among taken) + 1
  one_node_more =
      ap length (nodes_joined taken (record { actor = OfNode node crashed; messages = messages } ∷ []))
      ∙ length_push (nodes_among taken) node

  pub callers_without : callers_among with_node_behind ≡ callers_among taken
  callers_without =
      callers_joined taken (record { actor = OfNode node crashed; messages = messages } ∷ [])
      ∙ append-nil (callers_among taken)

-- a caller behind the others
module _ (taken : List Sight) (caller : Caller) (messages : List Message) where
  abbrev with_caller_behind : List Sight
  with_caller_behind = taken ++ record { actor = OfCaller caller; messages = messages } ∷ []

  pub callers_with : callers_among with_caller_behind ≡ callers_among taken ++ caller ∷ []
  callers_with =
      callers_joined taken (record { actor = OfCaller caller; messages = messages } ∷ [])

  pub one_caller_more :
      length (callers_among with_caller_behind) ≡ length (callers_among taken) + 1
  one_caller_more = ap length callers_with ∙ length_push (callers_among taken) caller

  pub nodes_without : nodes_among with_caller_behind ≡ nodes_among taken
  nodes_without =
      nodes_joined taken (record { actor = OfCaller caller; messages = messages } ∷ [])
      ∙ append-nil (nodes_among taken)

-- as many nodes and callers as are registered are all of them
pub whole_counted : (a : Assembled) (nodes callers : ℕ) → a.register.nodes ≡ numbers_below nodes
    → a.register.callers ≡ numbers_below callers → length (nodes_among a.taken) ≡ nodes
    → length (callers_among a.taken) ≡ callers → IsWhole a
whole_counted a nodes callers numbers calling counted called = record {
  nodes = record { nodes = counted ∙ sym (ap length numbers ∙ count_below nodes) };
  callers = called ∙ sym (ap length calling ∙ count_below callers);
}
