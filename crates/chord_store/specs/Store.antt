-- What a store answers to an insert and to a put of many pairs, and what it then has.
use Rattle.std.specs.Prelude.{◌≡◌, ◌+◌, ◌<◌, ◌≤◌, ℕ, List, length, Result, Ok, Err}
use Rattle.chord_map.specs.declared.pair.Pair.{Pair}
use Rattle.chord_map.specs.declared.reply.Reply.{Reply}
use Rattle.chord_map.specs.declared.reply.Reply.TheVariants as reply
use Rattle.chord_map.specs.declared.request.Request.{Request}
use Rattle.chord_map.specs.declared.request.Request.TheVariants.{Insert}
use Rattle.chord_map.specs.Map.{reply_to, pairs_after, put_all, values_at}
use Rattle.chord_store.specs.declared.outcome.Inserted.{Inserted}
use Rattle.chord_store.specs.declared.outcome.Inserted.TheVariants.{Added, Present, SetFull}
use Rattle.chord_store.specs.declared.outcome.StoreFault.{StoreFault}
use Rattle.chord_store.specs.declared.outcome.StoreFault.TheVariants.{Full, Memory}

-- the request that adds the pair
abbrev pub insertion : Pair → Request
insertion pair = Insert pair.key pair.value

-- the reply that says what an insert did
abbrev pub reply_for : Inserted → Reply
reply_for Added = reply.Added
reply_for Present = reply.Present
reply_for SetFull = reply.SetFull

-- The insert did what the map replies, and left the pairs that the map then has; or the pair had to
-- be added, memory ran out, and nothing changed.
abbrev pub AddIs : {E : Type 0} → Pair → List Pair → Result Inserted E → List Pair → Type 0
AddIs pair pairs (Ok did) pairs' = (reply_to (insertion pair) pairs ≡ reply_for did) × (pairs' ≡ pairs_after (insertion pair) pairs)
AddIs pair pairs (Err e) pairs' = (reply_to (insertion pair) pairs ≡ reply.Added) × (pairs' ≡ pairs)

-- The insert did what the map replies, and left the pairs that the map then has. Or the pair had to
-- be added and nothing changed: the store was full, else memory ran out.
abbrev pub InsertIs : Pair → List Pair → ℕ → Result Inserted StoreFault → List Pair → Type 0
InsertIs pair pairs limit (Ok did) pairs' =
    (reply_to (insertion pair) pairs ≡ reply_for did) × (did ≡ Added → length pairs < limit) × (pairs' ≡ pairs_after (insertion pair) pairs)
InsertIs pair pairs limit (Err Full) pairs' =
    (reply_to (insertion pair) pairs ≡ reply.Added) × (limit ≤ length pairs) × (pairs' ≡ pairs)
InsertIs pair pairs limit (Err Memory) pairs' =
    (reply_to (insertion pair) pairs ≡ reply.Added) × (length pairs < limit) × (pairs' ≡ pairs)

-- All the pairs were put in; or none was: they would exceed the limit, else memory ran out.
abbrev pub PutAllIs : {A : Type 0} → List Pair → List Pair → ℕ → Result A StoreFault → List Pair → Type 0
PutAllIs more pairs limit (Ok done) pairs' = (length pairs + length more ≤ limit) × (pairs' ≡ put_all more pairs)
PutAllIs more pairs limit (Err Full) pairs' = (limit < length pairs + length more) × (pairs' ≡ pairs)
PutAllIs more pairs limit (Err Memory) pairs' = (length pairs + length more ≤ limit) × (pairs' ≡ pairs)

-- each key has at most 1,000 values
abbrev pub HasFew : List Pair → Type 0
HasFew pairs = (key : List ℕ) → length (values_at key pairs) ≤ 1000
