use Rattle.chord_map.specs.declared.done.Done.{Done}
use Rattle.chord_map.proofs.Each.{Each}
use Rattle.std.proofs.Common.{◌≡◌, ℕ, sym, subst, ◌∙◌}
use Rattle.chord_segment.specs.Callers.{calls_in}
use Rattle.chord_segment.proofs.Twice.{twice_own, twice_none}
use Rattle.chord_segment.proofs.callers.Callers.keeps_any.Goals as goal

pub returns-in-Some : goal.returns-in-Some
returns-in-Some c =
    let own = subst (λ (k : ℕ). Each (λ (d : Done). d.caller ≡ k) c.args.other.now.kept) (sym c.caller.ensures) c.requires.own_calls in
    c.any_twice.ensures ∙ twice_own c.caller.result (calls_in c.args.self.now) c.in-Some.own.now.kept c.args.other.now.kept c.in-Some.ensures.1 own

pub returns-in-None : goal.returns-in-None
returns-in-None c =
    let own = subst (λ (k : ℕ). Each (λ (d : Done). d.caller ≡ k) c.args.other.now.kept) (sym c.caller.ensures) c.requires.own_calls in
    twice_none c.caller.result (calls_in c.args.self.now) c.args.other.now.kept c.in-None.ensures.1 own
