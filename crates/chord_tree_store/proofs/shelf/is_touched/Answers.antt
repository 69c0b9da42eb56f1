use Rattle.std.proofs.Common.{rules, ◌+◌, ◌-◌, ◌%◌, ◌^◌, ap, sym, ◌∙◌}
use Rattle.std.proofs.lemmas.Bool.{true≢false}
use Rattle.std.proofs.lemmas.List.{get_or_default}
use Rattle.chord_ident.specs.Circle.{Meet}
use Rattle.chord_ident.specs.declared.span.Span.{Span}
use Rattle.chord_tree_store.specs.declared.shard.Shard.{Shard}
use Rattle.chord_tree_store.specs.Shelf.{first_of}
use Rattle.chord_tree_store.proofs.Touched.{untouched}
use Rattle.chord_tree_store.proofs.shelf.is_touched.Goals as goal

pub returns-clause-apart : goal.returns-clause-apart
returns-clause-apart c = λ d apart.
    let shard = c.index-shards-place.result in
    let at = get_or_default c.args.shards.now c.args.place d shard c.requires.place ∙ sym c.index-shards-place.is in
    let mine = c.new.result in
    untouched c.args.span.now c.args.shards.now c.requires.in_place c.requires.placed c.args.place d c.requires.place mine.after.number mine.upto.number
    (ap (λ (s : Span). s.after.number) c.new.ensures ∙ c.new-before.ensures ∙ ap (λ (s : Shard). (first_of s + (2 ^ 128 - 1)) % 2 ^ 128) (sym at))
    (λ more. ap (λ (s : Span). s.upto.number) c.new.ensures ∙ c.new-end.ensures ∙ c.range_end.ensures.next d more)
    (λ none. ap (λ (s : Span). s.upto.number) c.new.ensures ∙ c.new-end.ensures ∙ c.range_end.ensures.last none)
    (search rules)
    (λ (m : Meet mine.after.number mine.upto.number c.args.span.now.after.number c.args.span.now.upto.number). true≢false (sym (c.meets.ensures.1 m) ∙ apart))
