-- What a floor is at or above when a call is executed is not executed behind that call.
use Rattle.std.proofs.Common.{◌≡◌, ◌<◌, ◌≤◌, ◌⊎◌, inl, inr, ⊎_elim, sym, ◌∙◌, ap, subst, arith, List, ◌++◌, Some}
use Rattle.chord_caller.specs.declared.ask.Ask.{Ask}
use Rattle.chord_floor.proofs.Raised.{OneHolder, Execution, execution, added}
use Rattle.chord_floor.proofs.Rising.{has_floor}
use Rattle.chord_floor.proofs.Since.{history_grows, none_below}
use Rattle.chord_floor.proofs.Steps.{carried_reached}
use Rattle.chord_floor.specs.Floors.{AreAbove, executed_since, ask_executed_in}
use Rattle.chord_ident.proofs.Digest.{key_id-below}
use Rattle.chord_map.proofs.HistoryLemmas.{done_left, done_right, stands_has, stands_pushed}
use Rattle.chord_map.proofs.Lists.{Has, by_option, each_all}
use Rattle.chord_map.specs.declared.done.Done.{Done}
use Rattle.chord_map.specs.History.{StandsIn, done_at}
use Rattle.chord_map.specs.Map.{key_of}
use Rattle.chord_model.specs.declared.message.Message.TheVariants.{Ask as AskMessage}
use Rattle.chord_model.specs.Node.{done_of}
use Rattle.chord_model.specs.World.{World, WorldStep, Run, Reached}
use Rattle.chord_model.specs.World.Run.{Goes_on}
use Rattle.chord_segment.specs.Segment.{id_of}

stands_cases : (dones more : List Done) (done : Done) → StandsIn (dones ++ more) done → StandsIn dones done ⊎ Has more done
stands_cases dones more done e =
    by_option (done_at done.caller done.number dones)
    (λ none. inr (stands_has more done (sym (done_right done.caller done.number dones more none) ∙ e)))
    (λ other some. inl (some ∙ (sym (done_left done.caller done.number dones more other some) ∙ e)))

module _ (old new later : World) (reached : Reached old) (one : OneHolder old) (step : WorldStep old new) (ask : Ask) (is : ask_executed_in step ≡ Some ask) (run : Run new later) where
  by_ask : Execution old new ask
  by_ask = execution old new reached one step ask is

  pub none_behind : AreAbove (id_of ask.request) ask.caller ask.floor (executed_since new later)
  none_behind =
      none_below (id_of ask.request) (key_id-below (key_of ask.request)) ask.caller ask.floor new later (Goes_on reached step) run by_ask.some
      (has_floor (id_of ask.request) (key_id-below (key_of ask.request)) ask.caller ask.floor new by_ask.low)

  pub only_before : (done : Done) → StandsIn later.history done → done.caller ≡ ask.caller → id_of done.request ≡ id_of ask.request → done.number ≤ ask.floor → StandsIn old.history done
  only_before done stands of_caller of_id low =
      let call = added old new step ask is in
      let above : ask.floor < ask.number = (carried_reached old reached).messages (AskMessage ask) by_ask.was in
      ⊎_elim
      (λ there. ⊎_elim (λ before. before)
      (λ e. let number : ask.number ≡ done.number = ap (λ (d : Done). d.number) e in absurd (omega arith))
      (stands_pushed old.history (done_of ask call.0) done (subst (λ ds. StandsIn ds done) call.1 there)))
      (λ behind.
      let high : ask.floor < done.number =
      each_all (λ (d : Done). d.caller ≡ ask.caller → id_of d.request ≡ id_of ask.request → ask.floor < d.number) (executed_since new later) none_behind done behind of_caller of_id in
      absurd (omega arith))
      (stands_cases new.history (executed_since new later) done (subst (λ ds. StandsIn ds done) (history_grows new later run) stands))
