-- A node is still stocked after a call.
use Rattle.std.proofs.Common.{◌≡◌, ℕ, Bool, true, false, cond, ◌||◌, Option, None, Some, List, [], ◌∷◌, refl, sym, subst}
use Rattle.std.specs.Prelude.{Result, Ok, Err}
use Rattle.std.specs.declared.alloc.AllocError.{AllocError}
use Rattle.chord_ident.specs.Circle.{in_span}
use Rattle.chord_map.specs.Map.{reply_to}
use Rattle.chord_caller.specs.declared.ask.Ask.{Ask}
use Rattle.chord_model.proofs.Events.{count-append_at}
use Rattle.chord_node.specs.declared.asks.answered.Answered.{Answered}
use Rattle.chord_node.specs.Asked.{done_in, ask_done, after_done, AskRecords}
use Rattle.chord_model.specs.Node.{Node, segment_with, done_of}
use Rattle.chord_model.specs.Stock.{holds, IsStocked}
use Rattle.chord_map.specs.declared.done.Done.{Done}
use Rattle.chord_segment.specs.Segment.{Segment, id_of}
use Rattle.chord_model.proofs.Stocking.{stocked_after, holds_same}

held_if : (ask : Ask) (old : Node) (o : Option Segment) (done : Done) → done_in o ask old ≡ Some done → (segment : Segment) × (o ≡ Some segment)
held_if ask old None done e = cc
held_if ask old (Some segment) done e = (segment, refl)

found_step : (b rest : Bool) (segment : Segment) (o : Option Segment) (found : Segment) → cond b (Some segment) o ≡ Some found → (o ≡ Some found → rest ≡ true) → (b || rest) ≡ true
found_step true rest segment o found e next = refl
found_step false rest segment o found e next = next e

found_holds : (x : ℕ) (held : List Segment) (found : Segment) → segment_with x held ≡ Some found → holds x held ≡ true
unfolding segment_with
found_holds x [] found e = cc
found_holds x (segment ∷ held) found e = found_step (in_span segment.span x) (holds x held) segment (segment_with x held) found e (found_holds x held found)

after_stocked : (ask : Ask) (old : Node) (did : Option Done) → ask_done ask old ≡ did → IsStocked old.held old.entries
    → IsStocked (after_done did ask old).held (after_done did ask old).entries
unfolding ask_done
after_stocked ask old None e stock = stock
after_stocked ask old (Some done) e stock =
    let there = held_if ask old (segment_with (id_of ask.request) old.held) done e in
    stocked_after old.held _ ask.request old.entries
    (λ x x_in. holds_same x old.held _ (count-append_at x (id_of ask.request) (done_of ask (reply_to ask.request old.entries)) ask.floor old.held))
    (found_holds (id_of ask.request) old.held there.0 there.1) stock

-- what a node answers to a call keeps its stock
pub asked_stocked : (ask : Ask) (recording : Bool) (old : Node) (result : Result (Answered × Option Done) AllocError) (new : Node) → AskRecords ask recording old result new
    → IsStocked old.held old.entries → IsStocked new.held new.entries
asked_stocked ask recording old (Err fault) new h stock = subst (λ (n : Node). IsStocked n.held n.entries) (sym h.1) stock
asked_stocked ask recording old (Ok both) new h stock = subst (λ (n : Node). IsStocked n.held n.entries) (sym h.0.1) (after_stocked ask old (ask_done ask old) refl stock)
