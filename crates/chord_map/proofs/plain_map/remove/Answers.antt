use Rattle.std.proofs.Common.{◌≡◌, ◌∙◌, ap, ap₂, sym, List, ℕ, Bool, true, false}
use Rattle.chord_map.specs.declared.pair.Pair.{Pair}
use Rattle.chord_map.specs.declared.request.Request.TheVariants.{Remove}
use Rattle.chord_map.specs.Map.{has_pair, remove_pair, pairs_after}
use Rattle.chord_map.proofs.MapLemmas.{pair_of}
use Rattle.chord_map.proofs.Replies.{due_removed, after_remove}
use Rattle.chord_map.proofs.plain_map.remove.Goals as goal

-- a test of the pair, by its bytes
seen : (pairs : List Pair) (key value key' value' : List ℕ) (b b' : Bool) → key' ≡ key → value' ≡ value → b ≡ has_pair (pair_of key' value') pairs → b ≡ b' → b' ≡ has_pair (pair_of key value) pairs
seen pairs key value key' value' b b' k v told is = sym is ∙ told ∙ ap (λ (p : Pair). has_pair p pairs) (ap₂ pair_of k v)

changed : (ps new : List Pair) (key value key' value' : List ℕ) (b b' : Bool) → key' ≡ key → value' ≡ value → b ≡ has_pair (pair_of key' value') ps → new ≡ remove_pair (pair_of key' value') ps → b ≡ b'
    → new ≡ pairs_after (Remove key value) ps
changed ps new key value key' value' b b' k v told change is =
    change ∙ ap (λ (p : Pair). remove_pair p ps) (ap₂ pair_of k v) ∙ sym (after_remove key value ps b' (seen ps key value key' value' b b' k v told is))

pub returns-then-remove-clause-reply : goal.returns-then-remove-clause-reply
returns-then-remove-clause-reply c =
    sym (due_removed c.args.key.now c.args.value.now c.args.pairs.now true
    (seen _ _ _ _ _ _ true c.as_slice.ensures c.as_slice-2.ensures c.remove.ensures.was_there c.if-remove.true))

pub returns-else-remove-clause-reply : goal.returns-else-remove-clause-reply
returns-else-remove-clause-reply c =
    sym (due_removed c.args.key.now c.args.value.now c.args.pairs.now false
    (seen _ _ _ _ _ _ false c.as_slice.ensures c.as_slice-2.ensures c.remove.ensures.was_there c.if-remove.false))

pub returns-then-remove-clause-change : goal.returns-then-remove-clause-change
returns-then-remove-clause-change c =
    changed c.args.pairs.now _ c.args.key.now c.args.value.now _ _ _ true c.as_slice.ensures c.as_slice-2.ensures c.remove.ensures.was_there c.remove.ensures.change c.if-remove.true

pub returns-else-remove-clause-change : goal.returns-else-remove-clause-change
returns-else-remove-clause-change c =
    changed c.args.pairs.now _ c.args.key.now c.args.value.now _ _ _ false c.as_slice.ensures c.as_slice-2.ensures c.remove.ensures.was_there c.remove.ensures.change c.if-remove.false
