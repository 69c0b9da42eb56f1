use Rattle.std.proofs.Common.{◌≡◌, ◌∙◌, ap, ap₂, sym, refl, List, ℕ, Bool, true, false, length, arith}
use Rattle.chord_map.specs.declared.pair.Pair.{Pair}
use Rattle.chord_map.specs.declared.request.Request.TheVariants.{Insert}
use Rattle.chord_map.specs.declared.reply.Reply.TheVariants.{Added, Present, SetFull}
use Rattle.std.proofs.lemmas.Result.{err_from_is_err_and}
use Rattle.chord_map.specs.Checked.{takes_memory}
use Rattle.chord_map.specs.Map.{has_pair, insert_pair, values_at}
use Rattle.chord_map.proofs.MapLemmas.{pair_of}
use Rattle.chord_map.proofs.Replies.{applied, due_present, due_full, due_added}
use Rattle.chord_map.proofs.plain_map.insert.Goals as goal

-- a test of the pair, by its bytes
seen : (pairs : List Pair) (key value key' value' : List ℕ) (b b' : Bool) → key' ≡ key → value' ≡ value → b ≡ has_pair (pair_of key' value') pairs → b ≡ b' → has_pair (pair_of key value) pairs ≡ b'
seen pairs key value key' value' b b' k v told is = ap (λ (p : Pair). has_pair p pairs) (ap₂ pair_of (sym k) (sym v)) ∙ sym told ∙ is

-- how many values are under the key, by its bytes
count_is : (ps : List Pair) (count : ℕ) (key key' : List ℕ) → key' ≡ key → count ≡ length (values_at key' ps) → count ≡ length (values_at key ps)
count_is ps count key key' same is = is ∙ ap (λ (k : List ℕ). length (values_at k ps)) same

pub returns-then-contains : goal.returns-then-contains
returns-then-contains c =
    let there = seen c.args.pairs.now c.args.key.now c.args.value.now _ _ _ true c.as_slice-key.ensures c.as_slice-value.ensures c.contains.ensures c.if-contains.true in
    applied (Insert c.args.key.now c.args.value.now) Present c.args.pairs.now c.args.pairs.now (due_present c.args.key.now c.args.value.now c.args.pairs.now there) refl

pub returns-then-count_under-ge-SET_VALUES : goal.returns-then-count_under-ge-SET_VALUES
returns-then-count_under-ge-SET_VALUES c =
    let absent = seen c.args.pairs.now c.args.key.now c.args.value.now _ _ _ false c.as_slice-key.ensures c.as_slice-value.ensures c.contains.ensures c.if-contains.false in
    let many = count_is c.args.pairs.now c.count_under.result c.args.key.now _ c.as_slice-key.ensures c.count_under.ensures in
    applied (Insert c.args.key.now c.args.value.now) SetFull c.args.pairs.now c.args.pairs.now (due_full c.args.key.now c.args.value.now c.args.pairs.now absent (omega (arith, many, c.if-count_under-ge-SET_VALUES.true))) refl

pub returns : goal.returns
returns c =
    let absent = seen c.args.pairs.now c.args.key.now c.args.value.now _ _ _ false c.as_slice-key.ensures c.as_slice-value.ensures c.contains.ensures c.if-contains.false in
    let many = count_is c.args.pairs.now c.count_under.result c.args.key.now _ c.as_slice-key.ensures c.count_under.ensures in
    applied (Insert c.args.key.now c.args.value.now) Added c.args.pairs.now c.insert.new.self (due_added c.args.key.now c.args.value.now c.args.pairs.now absent (omega (arith, many, c.if-count_under-ge-SET_VALUES.false)))
    (c.in_ok-insert.ensures.ok ∙ ap (λ (p : Pair). insert_pair p c.args.pairs.now) (ap₂ pair_of c.as_slice-key.ensures c.as_slice-value.ensures))

pub returns-in_err-insert : goal.returns-in_err-insert
returns-in_err-insert c =
    let absent = seen c.args.pairs.now c.args.key.now c.args.value.now _ _ _ false c.as_slice-key.ensures c.as_slice-value.ensures c.contains.ensures c.if-contains.false in
    let many = count_is c.args.pairs.now c.count_under.result c.args.key.now _ c.as_slice-key.ensures c.count_under.ensures in
    let due = due_added c.args.key.now c.args.value.now c.args.pairs.now absent (omega (arith, many, c.if-count_under-ge-SET_VALUES.false)) in
    let p = err_from_is_err_and c.from_residual.result c.from_residual.ensures.1 in
    rw p.1 (ap takes_memory due, c.in_err-insert.ensures.err)
