use Rattle.std.proofs.Common.{rules, ℕ, List, max, ltb, filter, ap, ap₂, ◌∙◌}
use Rattle.std.proofs.lemmas.Fn.{filter_same}
use Rattle.chord_map.specs.declared.done.Done.{Done}
use Rattle.chord_segment.specs.Callers.{OfCaller}
use Rattle.chord_segment.proofs.caller_replies.CallerReplies.raise.Goals as goal

pub returns-clause-kept : goal.returns-clause-kept
returns-clause-kept c =
    let test = λ (done : Done). ltb c.max-lowest.result done.number in
    filter_same _ test _ (λ x b f called. (search rules, search rules)) _ _ c.retain.ensures.filtered
    ∙ ap₂ (λ (n : ℕ) (dones : List Done). filter (λ (done : Done). ltb n done.number) dones)
    (c.max-lowest.ensures ∙ ap (λ (own : OfCaller). max own.floor c.args.floor) c.self.view_is) (ap (λ (own : OfCaller). own.kept) c.self.view_is)
