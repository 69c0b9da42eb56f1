-- Statement 4 of 15: executed calls, and when a list of them is the history of one map of sets.
use Rattle.std.specs.Prelude.{◌≡◌, ℕ, ◌&&◌, ◌==◌, Option, None, Some, List, [], ◌∷◌, find}
use Rattle.chord_map.specs.declared.pair.Pair.{Pair}
use Rattle.chord_map.specs.Map.{reply_to, pairs_after}
use Rattle.chord_map.specs.declared.done.Done.{Done}

-- the pairs after these calls, executed one after another
abbrev pub replay : List Pair → List Done → List Pair
replay pairs [] = pairs
replay pairs (done ∷ rest) = replay (pairs_after done.request pairs) rest

-- each reply is the one that the map gives at that point of the list
abbrev pub Replies : List Pair → List Done → Type 0
Replies pairs [] = Unit {0}
Replies pairs (done ∷ rest) = (done.reply ≡ reply_to done.request pairs) × Replies (pairs_after done.request pairs) rest

-- the entry of a call in the list, if the list has the call
unfoldable pub done_at : ℕ → ℕ → List Done → Option Done
done_at caller number dones = find (λ (done : Done). (done.caller == caller) && (done.number == number)) dones

-- no call is in the list twice
abbrev pub EachOnce : List Done → Type 0
EachOnce [] = Unit {0}
EachOnce (done ∷ rest) = (done_at done.caller done.number rest ≡ None) × EachOnce rest

-- one map of sets, empty at first, could have had this history
pub record IsLegal (history : List Done) : Type 0 where
  pub replies : Replies [] history
  pub once : EachOnce history

-- the list has the call with this request and this reply
abbrev pub StandsIn : List Done → Done → Type 0
StandsIn dones done = done_at done.caller done.number dones ≡ Some done
