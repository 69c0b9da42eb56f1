use Rattle.std.proofs.Common.{◌≡◌, ◌++◌, ◌∷◌, [], ℕ, ◌+◌, ◌<◌, List, length, take, drop, get_or, append_assoc, take-append-drop, sym, ◌∙◌, ap, subst}
use Rattle.std.proofs.lemmas.List.{take_all, take_more}
use Rattle.chord_map.specs.declared.pair.Pair.{Pair}
use Rattle.chord_handover.specs.Payload.{IsPayload}
use Rattle.chord_handover.specs.Passed.{HasPassed}
use Rattle.chord_handover.proofs.PassRules.{front}
use Rattle.chord_handover.proofs.pair_scan.PairScan.walk.Goals as goal

-- one more pair
further : (passed pairs : List Pair) (i : ℕ) (pair : Pair) → i < length pairs → pair ≡ get_or pairs i pair → (passed ++ take i pairs) ++ pair ∷ [] ≡ passed ++ take (i + 1) pairs
further passed pairs i pair within is =
    append_assoc passed (take i pairs) (pair ∷ []) ∙ ap (λ ps. passed ++ ps) (ap (λ p. take i pairs ++ p ∷ []) is ∙ sym (take_more pairs i pair within))

pub returns-in-None : goal.returns-in-None
returns-in-None c = λ passed has rules.
    let pairs = c.args.pairs.now in
    let i = c.loop-pair.pair-index in
    let more = further passed pairs i c.pair-item.result c.loop-pair-test.true c.pair-item.is in
    let whole : passed ++ pairs ≡ (passed ++ take (i + 1) pairs) ++ drop (i + 1) pairs =
    ap (λ ps. passed ++ ps) (sym (take-append-drop (i + 1) pairs)) ∙ sym (append_assoc passed (take (i + 1) pairs) (drop (i + 1) pairs)) in
    let upto = front c.args.segment.now.segment (passed ++ take (i + 1) pairs) (drop (i + 1) pairs)
    (subst (λ (ps : List Pair). IsPayload (record { segment = c.args.segment.now.segment; pairs = ps })) whole rules) in
    c.in-None.ensures (passed ++ take i pairs) (c.loop-pair.invariant passed has)
    (subst (λ (ps : List Pair). IsPayload (record { segment = c.args.segment.now.segment; pairs = ps })) (sym more) upto)

pub loop-pair-preserved : goal.loop-pair-preserved
loop-pair-preserved c = λ passed has.
    let pairs = c.args.pairs.now in
    let i = c.loop-pair.pair-index in
    let more = further passed pairs i c.pair-item.result c.loop-pair-test.true c.pair-item.is in
    subst (λ (ps : List Pair). HasPassed c.args.segment.now.segment ps c.in-Some.next) more
    (c.in-Some.ensures (passed ++ take i pairs) (c.loop-pair.invariant passed has))

pub returns : goal.returns
returns c = λ passed has.
    let pairs = c.args.pairs.now in
    subst (λ (ps : List Pair). HasPassed c.args.segment.now.segment (passed ++ ps) c.loop-pair.run) (take_all c.loop-pair.pair-index pairs c.loop-pair-test.false) (c.loop-pair.invariant passed has)
