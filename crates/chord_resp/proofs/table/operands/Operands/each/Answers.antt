use Rattle.std.proofs.Common.{◌∷◌, [], List, ℕ, length, ap, sym, ◌∙◌, arith, length-append}
use Rattle.chord_resp.specs.declared.reading.word.Word.{Word}
use Rattle.chord_resp.specs.Table.{each}
use Rattle.chord_resp.proofs.TableLaws.{with_front, one_more}
use Rattle.chord_resp.proofs.table.operands.Operands.each.Goals as goal

pub loop-word-preserved : goal.loop-word-preserved
loop-word-preserved c =
    let o = c.args.operand in
    let front = c.loop-word.values in
    let fewer = ap (λ (words : List Word). length words) c.in-Some.ensures in
    let more = ap (λ (all : List (List ℕ)). length all) c.in_ok-push.ensures.ok in
    record {
      read = rw c.in_ok-push.ensures.ok (one_more o front c.in-Some.word c.next.new.self c.in_ok-bytes_of.field-0 (sym c.in_ok-bytes_of.ensures)
          ∙ ap (λ (words : List Word). with_front front (each o words)) (sym c.in-Some.ensures) ∙ c.loop-word.invariant.read);
      count = omega (arith, c.loop-word.invariant.count, fewer, more, length-append front (c.in_ok-bytes_of.field-0 ∷ []));
    }
