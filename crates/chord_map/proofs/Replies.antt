-- When the map gives each reply, and the map after it.
use Rattle.std.proofs.Common.{◌≡◌, ℕ, ◌<◌, ◌≤◌, Bool, true, false, cond, leb, List, [], ◌∷◌, length, refl, sym, ap, ◌∙◌, arith}
use Rattle.std.proofs.lemmas.Bool.{lt-ltb}
use Rattle.std.proofs.lemmas.Bool.Decides.{nat_tests}
use Rattle.chord_map.specs.Checked.{takes_memory}
use Rattle.chord_map.specs.Copies.{AreFew}
use Rattle.chord_map.specs.declared.pair.Pair.{Pair}
use Rattle.chord_map.specs.declared.request.Request.{Request}
use Rattle.chord_map.specs.declared.request.Request.TheVariants.{Insert, Retrieve, Remove}
use Rattle.chord_map.specs.declared.reply.Reply.{Reply}
use Rattle.chord_map.specs.declared.reply.Reply.TheVariants.{Added, Present, SetFull, Values, Removed, Absent}
use Rattle.chord_map.specs.Map.{has_pair, values_at, remove_pair, reply_to, pairs_by, pairs_after}
use Rattle.chord_map.proofs.MapLemmas.{pair_of}
use Rattle.chord_map.proofs.Placed.{remove_absent}

pub due_present : (key value : List ℕ) (pairs : List Pair) → has_pair (pair_of key value) pairs ≡ true → reply_to (Insert key value) pairs ≡ Present
unfolding reply_to
due_present key value pairs there = ap (λ b. cond b Present (cond (leb 1000 (length (values_at key pairs))) SetFull Added)) there

pub due_full : (key value : List ℕ) (pairs : List Pair) → has_pair (pair_of key value) pairs ≡ false → 1000 ≤ length (values_at key pairs) → reply_to (Insert key value) pairs ≡ SetFull
unfolding reply_to
due_full key value pairs absent full =
    let test : leb 1000 (length (values_at key pairs)) ≡ true = grind (arith, nat_tests) in
    ap (λ b. cond b Present (cond (leb 1000 (length (values_at key pairs))) SetFull Added)) absent ∙ ap (λ b. cond b SetFull Added) test

pub due_added : (key value : List ℕ) (pairs : List Pair) → has_pair (pair_of key value) pairs ≡ false → length (values_at key pairs) < 1000 → reply_to (Insert key value) pairs ≡ Added
unfolding reply_to
due_added key value pairs absent room =
    let test : leb 1000 (length (values_at key pairs)) ≡ false = grind (arith, nat_tests) in
    ap (λ b. cond b Present (cond (leb 1000 (length (values_at key pairs))) SetFull Added)) absent ∙ ap (λ b. cond b SetFull Added) test

pub due_values : (key : List ℕ) (pairs : List Pair) → reply_to (Retrieve key) pairs ≡ Values (values_at key pairs)
unfolding reply_to
due_values key pairs = refl

pub due_removed : (key value : List ℕ) (pairs : List Pair) (b : Bool) → b ≡ has_pair (pair_of key value) pairs → reply_to (Remove key value) pairs ≡ cond b Removed Absent
unfolding reply_to
due_removed key value pairs b e = ap (λ t. cond t Removed Absent) (sym e)

-- the map after a reply that it gave
pub after_reply : (request : Request) (reply : Reply) (pairs : List Pair) → reply_to request pairs ≡ reply → pairs_after request pairs ≡ pairs_by request reply pairs
unfolding pairs_after
after_reply request reply pairs due = ap (λ r. pairs_by request r pairs) due

-- a remove leaves the map without the pair, whether it was there or not
pub after_remove : (key value : List ℕ) (pairs : List Pair) (b : Bool) → b ≡ has_pair (pair_of key value) pairs → pairs_after (Remove key value) pairs ≡ remove_pair (pair_of key value) pairs
after_remove key value pairs true e = after_reply (Remove key value) Removed pairs (due_removed key value pairs true e)
after_remove key value pairs false e =
    after_reply (Remove key value) Absent pairs (due_removed key value pairs false e) ∙ sym (remove_absent (pair_of key value) pairs (sym e))

-- a reply that the map gave, with its change
pub applied : (request : Request) (reply : Reply) (pairs pairs' : List Pair) → reply_to request pairs ≡ reply → pairs' ≡ pairs_by request reply pairs
    → (reply ≡ reply_to request pairs) × (pairs' ≡ pairs_after request pairs)
applied request reply pairs pairs' due change = (sym due, change ∙ sym (after_reply request reply pairs due))

-- values that are not few need memory
pub many_take : (values : List (List ℕ)) → ¬ AreFew values → takes_memory (Values values) ≡ true
many_take [] many = absurd (many tt)
many_take (value ∷ []) many = lt-ltb 24 (length value) (omega (arith, many))
many_take (value ∷ other ∷ values) many = refl
