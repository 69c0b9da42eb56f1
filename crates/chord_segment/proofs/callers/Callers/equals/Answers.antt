use Rattle.std.proofs.Common.{◌≡◌, ◌<◌, ◌≤◌, List, length, get_or, arith, ap, sym, subst, ◌∙◌}
use Rattle.std.proofs.lemmas.Bool.{true≢false}
use Rattle.chord_segment.specs.Callers.{OfCaller, IsGrouped, IsTwin}
use Rattle.chord_segment.proofs.Telling.{alike_at, alike_from, alike_passed, alike_back, first_ends, second_ends, is_eq}
use Rattle.chord_segment.proofs.callers.Callers.equals.Goals as goal
use Rattle.chord_segment.proofs.callers.Callers.equals.Goals.{then-i-len-via-then-i-len, then-i-len-via-else-i-len+then-j-len}

pub returns-then-i-len-2 : goal.returns-then-i-len-2
returns-then-i-len-2 c =
    let xs = c.args.self.now in
    let ys = c.args.other.now in
    let first = ap (λ (zs : List OfCaller). length zs) c.self.view_is in
    let second = ap (λ (zs : List OfCaller). length zs) c.other.view_is in
    let k = c.next_shown-i.result in
    let l = c.next_shown-j.result in
    let s : length xs ≤ k = omega (arith, c.len-then-i-len.ensures, c.if-i-len-2.true) in
    let n : c.len-then-i-len-2.result ≡ length ys = omega (arith, c.len-then-i-len-2.ensures) in
    first_ends xs ys c.loop-i.i c.loop-i.j k l c.next_shown-i.ensures c.next_shown-j.ensures s c.loop-i.invariant.rest c.loop-i.invariant.whole c.len-then-i-len-2.result n

pub returns-else-i-len-2 : goal.returns-else-i-len-2
returns-else-i-len-2 c =
    let xs = c.args.self.now in
    let ys = c.args.other.now in
    let first = ap (λ (zs : List OfCaller). length zs) c.self.view_is in
    let second = ap (λ (zs : List OfCaller). length zs) c.other.view_is in
    let k = c.next_shown-i.result in
    let l = c.next_shown-j.result in
    let ni = c.next_shown-i.ensures.in_range in
    let s : k < length xs = omega (arith, c.len-then-i-len.ensures, c.if-i-len-2.false) in
    let t : length ys ≤ l = elim c.then-i-len.branch [
      | then-i-len-via-then-i-len w ↦ absurd (omega (arith, c.len.ensures, w.if-i-len.true))
      | then-i-len-via-else-i-len+then-j-len w ↦ omega (arith, w.len-else-i-len.ensures, w.if-j-len.true)
    ] in (
      λ yes. let y = is_eq k c.len-then-i-len.result yes in absurd (omega (arith, c.if-i-len-2.false)),
      λ a. absurd (second_ends xs ys c.loop-i.i c.loop-i.j k l c.next_shown-i.ensures c.next_shown-j.ensures s t c.loop-i.invariant.rest a),
    )

pub returns-then-not-equals : goal.returns-then-not-equals
returns-then-not-equals c =
    let xs = c.args.self.now in
    let ys = c.args.other.now in
    let first = ap (λ (zs : List OfCaller). length zs) c.self.view_is in
    let second = ap (λ (zs : List OfCaller). length zs) c.other.view_is in
    let k = c.next_shown-i.result in
    let l = c.next_shown-j.result in
    let g : IsGrouped xs = subst IsGrouped c.self.view_is c.self.invariant in
    let h : IsGrouped ys = subst IsGrouped c.other.view_is c.other.invariant in
    let ni = c.next_shown-i.ensures.in_range in
    let nj = c.next_shown-j.ensures.in_range in
    let s : k < length xs = omega (arith, c.len.ensures, c.if-i-len.false) in
    let t : l < length ys = omega (arith, c.len-else-i-len.ensures, c.if-j-len.false) in
    let d = c.index.result.now in
    let e = c.index-in-loop-i.result.now in
    let is : d ≡ get_or xs k d = c.index.ensures ∙ ap (λ (zs : List OfCaller). get_or zs k d) c.self.view_is in
    let is' : e ≡ get_or ys l e = c.index-in-loop-i.ensures ∙ ap (λ (zs : List OfCaller). get_or zs l e) c.other.view_is in
    let f = c.next_shown-i.ensures.is_shown s d in
    let f' = c.next_shown-j.ensures.is_shown t e in (
      λ yes. absurd (true≢false (sym yes)),
      λ a.
          let twin : IsTwin (get_or xs k d) (get_or ys l e) = (alike_at xs ys k l d e g h s t f f' (alike_passed xs ys c.loop-i.i c.loop-i.j k l c.next_shown-i.ensures c.next_shown-j.ensures (c.loop-i.invariant.rest a))).twin in
          absurd (true≢false (sym (c.equals.ensures.1 (subst (λ (o : OfCaller). IsTwin o e) (sym is) (subst (IsTwin (get_or xs k d)) (sym is') twin))) ∙ c.if-not-equals.true)),
    )

pub loop-i-preserved : goal.loop-i-preserved
loop-i-preserved c =
    let xs = c.args.self.now in
    let ys = c.args.other.now in
    let first = ap (λ (zs : List OfCaller). length zs) c.self.view_is in
    let second = ap (λ (zs : List OfCaller). length zs) c.other.view_is in
    let k = c.next_shown-i.result in
    let l = c.next_shown-j.result in
    let g : IsGrouped xs = subst IsGrouped c.self.view_is c.self.invariant in
    let h : IsGrouped ys = subst IsGrouped c.other.view_is c.other.invariant in
    let ni = c.next_shown-i.ensures.in_range in
    let nj = c.next_shown-j.ensures.in_range in
    let s : k < length xs = omega (arith, c.len.ensures, c.if-i-len.false) in
    let t : l < length ys = omega (arith, c.len-else-i-len.ensures, c.if-j-len.false) in
    let d = c.index.result.now in
    let e = c.index-in-loop-i.result.now in
    let is : d ≡ get_or xs k d = c.index.ensures ∙ ap (λ (zs : List OfCaller). get_or zs k d) c.self.view_is in
    let is' : e ≡ get_or ys l e = c.index-in-loop-i.ensures ∙ ap (λ (zs : List OfCaller). get_or zs l e) c.other.view_is in
    let f = c.next_shown-i.ensures.is_shown s d in
    let f' = c.next_shown-j.ensures.is_shown t e in
    let own : IsTwin d e = c.equals.ensures.0 c.if-not-equals.false in
    let twin : IsTwin (get_or xs k d) (get_or ys l e) = subst (λ (o : OfCaller). IsTwin o (get_or ys l e)) is (subst (IsTwin d) is' own) in
    record {
      first = omega arith;
      second = omega arith;
      rest = λ a. (alike_at xs ys k l d e g h s t f f' (alike_passed xs ys c.loop-i.i c.loop-i.j k l c.next_shown-i.ensures c.next_shown-j.ensures (c.loop-i.invariant.rest a))).rest;
      whole = λ a. c.loop-i.invariant.whole (alike_back xs ys c.loop-i.i c.loop-i.j k l c.next_shown-i.ensures c.next_shown-j.ensures (alike_from xs ys k l d e s t f f' twin a));
    }
