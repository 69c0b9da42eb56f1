-- What a caller had settled at some time is not executed behind a call for the same identifier that
-- it submitted later.
use Rattle.std.proofs.Common.{◌≡◌, ◌≢◌, ℕ, ◌<◌, ◌≤◌, inl, inr, ⊎_elim, refl, sym, ◌∙◌, ap, subst, arith, List, [], ◌∷◌, ◌++◌, length, Some, None, le_trans}
use Rattle.std.proofs.lemmas.Bool.{cases_eq}
use Rattle.std.proofs.lemmas.Option.{same_Some}
use Rattle.chord_caller.specs.Caller.{Caller, floor_of}
use Rattle.chord_caller.specs.declared.ask.Ask.{Ask}
use Rattle.chord_floor.proofs.Asked.{Asked, Passed, Sends, asked_reached, grows, passes, sends_ask}
use Rattle.chord_floor.proofs.Carried.{has_one}
use Rattle.chord_floor.proofs.Raised.{Execution, OneHolder, added, execution, nothing}
use Rattle.chord_floor.proofs.Rising.{has_floor}
use Rattle.chord_floor.proofs.Since.{none_below, rises, runs_on, since_is, stays}
use Rattle.chord_floor.specs.Floors.{AreAbove, HasFloor, SettledFirst, ask_executed_in, executed_since}
use Rattle.chord_ident.proofs.Digest.{key_id-below}
use Rattle.chord_map.proofs.Lists.{Each, Has, all_each, by_option, each_all, has_pushed}
use Rattle.chord_map.specs.declared.done.Done.{Done}
use Rattle.chord_map.specs.Map.{key_of}
use Rattle.chord_model.proofs.CallerLemmas.{Grown, caller_left, floor_grown}
use Rattle.chord_model.proofs.Numbered.{callers_by}
use Rattle.chord_model.specs.declared.message.Message.TheVariants.{Ask as AskMessage}
use Rattle.chord_model.specs.Letters.{letter_sent}
use Rattle.chord_model.specs.Node.{done_of}
use Rattle.chord_model.specs.World.{World, WorldStep, Run, Reached, empty_world, caller_at, put_caller}
use Rattle.chord_model.specs.World.Run.{Stays, Goes_on}
use Rattle.chord_segment.specs.Marks.{mark_of}
use Rattle.chord_segment.specs.Segment.{id_of}

module _ (one : (world : World) → Reached world → OneHolder world) (number : ℕ) (first : Caller) where
  -- a call of the caller that it submitted since
  abbrev IsNew : Done → Type 0
  IsNew done = (done.caller ≡ number) × (length first.submitted < done.number)

  -- a call is not one of the caller's, for the identifier, at or below its floor of then
  abbrev IsAbove : ℕ → Done → Type 0
  IsAbove x other = other.caller ≡ number → id_of other.request ≡ x → floor_of first < other.number

  abbrev Apart : List Done → Type 0
  Apart [] = Unit {0}
  Apart (done ∷ rest) = (IsNew done → Each (IsAbove (id_of done.request)) rest) × Apart rest

  apart_pushed : (dones : List Done) (last : Done) → Apart dones → ((done : Done) → Has dones done → IsNew done → IsAbove (id_of done.request) last) → Apart (dones ++ last ∷ [])
  apart_pushed [] last apart above = ((λ new other h. absurd h), tt)
  apart_pushed (done ∷ rest) last apart above = (
    (λ new other h. ⊎_elim (λ there. apart.0 new other there) (λ e. subst (IsAbove (id_of done.request)) e (above done (inl refl) new)) (has_pushed rest last other h)),
    apart_pushed rest last apart.1 (λ other h. above other (inr h)),
  )

  apart_none : (dones : List Done) → ((done : Done) → Has dones done → IsNew done → ⊥) → Apart dones
  apart_none [] none = tt
  apart_none (done ∷ rest) none = ((λ new. absurd (none done (inl refl) new)), apart_none rest (λ other h. none other (inr h)))

  apart_split : (before behind : List Done) (done : Done) → Apart (before ++ done ∷ behind) → IsNew done → Each (IsAbove (id_of done.request)) behind
  apart_split [] behind done apart new = apart.0 new
  apart_split (other ∷ before) behind done apart new = apart_split before behind done apart.1 new

  record Past (world : World) : Type 0 where
    now : Caller
    is_now : caller_at number world.callers ≡ Some now
    risen : floor_of first ≤ floor_of now
    asks : (ask : Ask) → Has world.sent (AskMessage ask) → ask.caller ≡ number → length first.submitted < ask.number → floor_of first ≤ ask.floor
    covered : (done : Done) → Has world.history done → IsNew done → (world.nodes ≢ []) × HasFloor world (id_of done.request) number (floor_of first)
    apart : Apart world.history

  -- at first nothing of it was submitted
  past_first : (world : World) → Reached world → caller_at number world.callers ≡ Some first → Past world
  past_first world reached here =
      let asked : Asked world.callers world.sent world.history = asked_reached world reached in
      let low : (caller place : ℕ) (found : Caller) → caller_at caller world.callers ≡ Some found → place ≤ length found.submitted → caller ≡ number → length first.submitted < place → ⊥ =
      λ caller place found at within same high.
      let is : found ≡ first = same_Some found first (sym at ∙ ap (λ n. caller_at n world.callers) same ∙ here) in
      let e : length found.submitted ≡ length first.submitted = ap (λ (c : Caller). length c.submitted) is in
      omega arith in
      let none : (done : Done) → Has world.history done → IsNew done → ⊥ =
      λ done h new. let s = asked.dones done h in low done.caller done.number s.caller s.is_caller s.within new.0 new.1 in
      record {
        now = first;
        is_now = here;
        risen = omega arith;
        asks = λ ask h of_caller high. let s = asked.asks ask h in absurd (low ask.caller ask.number s.caller s.is_caller s.within of_caller high);
        covered = λ done h new. absurd (none done h new);
        apart = apart_none world.history none;
      }

  -- the caller after a step
  record Now (world : World) : Type 0 where
    caller : Caller
    is_caller : caller_at number world.callers ≡ Some caller
    risen : floor_of first ≤ floor_of caller

  now_after : (old new : World) → Past old → WorldStep old new → Now new
  now_after old new past (WorldStep.Creates links limit id_in none) = record { caller = past.now; is_caller = past.is_now; risen = past.risen }
  now_after old new past (WorldStep.Joins links limit id_in some is_new) = record { caller = past.now; is_caller = past.is_now; risen = past.risen }
  now_after old new past (WorldStep.Opens at window low high is_new) =
      record { caller = past.now; is_caller = caller_left number old.callers _ past.now past.is_now; risen = past.risen }
  now_after old new past (WorldStep.Calls at caller after taken sent here was step) =
      let grown : Grown caller after = grows caller after taken sent step in
      let is_number : after.number ≡ at = grown.number ∙ callers_by.number at old.callers caller here in
      ⊎_elim
      (λ same.
      let is : caller ≡ past.now = same_Some caller past.now (sym here ∙ ap (λ n. caller_at n old.callers) (sym same) ∙ past.is_now) in
      let own : caller_at after.number old.callers ≡ Some caller = ap (λ n. caller_at n old.callers) is_number ∙ here in
      record {
        caller = after;
        is_caller = ap (λ n. caller_at n (put_caller after old.callers)) (same ∙ sym is_number) ∙ callers_by.put_same after old.callers caller own;
        risen = le_trans (subst (λ (c : Caller). floor_of first ≤ floor_of c) (sym is) past.risen) (floor_grown caller after grown);
      })
      (λ apart. record { caller = past.now; is_caller = callers_by.put_apart after old.callers number (λ e. apart (e ∙ is_number)) ∙ past.is_now; risen = past.risen })
      (cases_eq number at)
  now_after old new past (WorldStep.Acts at node after taken sent call here was step) = record { caller = past.now; is_caller = past.is_now; risen = past.risen }

  asks_after : (old new : World) → Past old → WorldStep old new → (ask : Ask) → Has new.sent (AskMessage ask) → ask.caller ≡ number → length first.submitted < ask.number → floor_of first ≤ ask.floor
  asks_after old new past (WorldStep.Calls at caller after taken sent here was step) ask h of_caller high =
      ⊎_elim
      (λ there. past.asks ask there of_caller high)
      (λ e.
      let s : Sends caller after ask = sends_ask caller after taken sent step ask e in
      let same : at ≡ number = sym (callers_by.number at old.callers caller here) ∙ sym s.own ∙ of_caller in
      let is : caller ≡ past.now = same_Some caller past.now (sym here ∙ ap (λ n. caller_at n old.callers) same ∙ past.is_now) in
      let low : floor_of first ≤ floor_of caller = subst (λ (c : Caller). floor_of first ≤ floor_of c) (sym is) past.risen in
      omega (arith, s.floor))
      (has_one old.sent (letter_sent sent) (AskMessage ask) h)
  asks_after old new past (WorldStep.Acts at node after taken sent call here was step) ask h of_caller high =
      ⊎_elim
      (λ there. past.asks ask there of_caller high)
      (λ e.
      let p : Passed old.sent ask.caller ask.number ask.floor = passes old.sent node after taken sent call was step ask e in
      let low : floor_of first ≤ p.ask.floor = past.asks p.ask p.was (p.same_caller ∙ of_caller) (omega (arith, p.same_number)) in
      omega (arith, p.same_floor))
      (has_one old.sent sent (AskMessage ask) h)
  asks_after old new past step ask h of_caller high = past.asks ask h of_caller high

  -- the calls after a step

  module _ (old new : World) (reached : Reached old) (past : Past old) (step : WorldStep old new) where
    one_step : Run old new
    one_step = Goes_on Stays step

    -- a call that was covered still is
    still : (done : Done) → Has old.history done → IsNew done → (new.nodes ≢ []) × HasFloor new (id_of done.request) number (floor_of first)
    still done h is_new =
        let before = past.covered done h is_new in
        let id_in = key_id-below (key_of done.request) in (
          stays (id_of done.request) id_in number (floor_of first) old new reached one_step before.0 before.1,
          rises (id_of done.request) id_in number (floor_of first) old new reached one_step before.0 before.1,
        )

    past_quiet : ask_executed_in step ≡ None → Past new
    past_quiet none =
        let same : new.history ≡ old.history = nothing old new step none in
        let now : Now new = now_after old new past step in
        record {
          now = now.caller;
          is_now = now.is_caller;
          risen = now.risen;
          asks = asks_after old new past step;
          covered = λ done h. still done (subst (λ ds. Has ds done) same h);
          apart = subst Apart (sym same) past.apart;
        }

    past_executed : (ask : Ask) → ask_executed_in step ≡ Some ask → Past new
    past_executed ask is =
        let call = added old new step ask is in
        let last : Done = done_of ask call.0 in
        let by : Execution old new ask = execution old new reached (one old reached) step ask is in
        let now : Now new = now_after old new past step in
        let only : executed_since old new ≡ last ∷ [] = since_is old new (last ∷ []) call.1 in
        record {
          now = now.caller;
          is_now = now.is_caller;
          risen = now.risen;
          asks = asks_after old new past step;
          covered = λ done h. ⊎_elim
              (λ there. still done there)
              (λ e. subst (λ (d : Done). IsNew d → (new.nodes ≢ []) × HasFloor new (id_of d.request) number (floor_of first)) e
              (λ is_new. (
                by.some,
                (λ segment pairs holds inside.
                    let high : floor_of first ≤ ask.floor = past.asks ask by.was is_new.0 is_new.1 in
                    let floor : ask.floor ≤ mark_of ask.caller segment.floors =
                    has_floor (id_of ask.request) (key_id-below (key_of ask.request)) ask.caller ask.floor new by.low segment pairs holds inside in
                    subst (λ n. floor_of first ≤ mark_of n segment.floors) is_new.0 (le_trans high floor)),
              )))
              (has_pushed old.history last done (subst (λ ds. Has ds done) call.1 h));
          apart = subst Apart (sym call.1) (apart_pushed old.history last past.apart
              (λ done h is_new.
              let before = past.covered done h is_new in
              let above : AreAbove (id_of done.request) number (floor_of first) (last ∷ []) =
              subst (AreAbove (id_of done.request) number (floor_of first)) only
              (none_below (id_of done.request) (key_id-below (key_of done.request)) number (floor_of first) old new reached one_step before.0 before.1) in
              each_all (IsAbove (id_of done.request)) (last ∷ []) above last (inl refl)));
        }

    past_step : Past new
    past_step = by_option (ask_executed_in step) past_quiet past_executed

  past_run : (earlier later : World) → Reached earlier → caller_at number earlier.callers ≡ Some first → Run earlier later → Past later
  past_run earlier later reached here Stays = past_first earlier reached here
  past_run earlier later reached here (Goes_on {middle = middle} run step) =
      past_step middle later (runs_on empty_world earlier middle reached run) (past_run earlier middle reached here run) step

  pub above_behind : (earlier later : World) → Reached earlier → caller_at number earlier.callers ≡ Some first → Run earlier later
      → (done : Done) (before behind : List Done) → later.history ≡ before ++ done ∷ behind → IsNew done → AreAbove (id_of done.request) number (floor_of first) behind
  above_behind earlier later reached here run done before behind split is_new =
      all_each (IsAbove (id_of done.request)) behind (apart_split before behind done (subst Apart split (past_run earlier later reached here run).apart) is_new)

pub settled_first : ((world : World) → Reached world → OneHolder world) → (earlier later : World) → Reached earlier → Run earlier later → SettledFirst earlier later
settled_first one earlier later reached run number caller done before behind here split own high =
    above_behind one number caller earlier later reached here run done before behind split (own, high)
