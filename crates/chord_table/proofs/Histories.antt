-- Which calls are in a history, for callers as they were at some time.
use Rattle.std.proofs.Common.{◌≡◌, ℕ, zero, suc, eqb, false, inl, inr, ⊎_elim, refl, sym, ap, ◌∙◌, subst, List, [], ◌∷◌, ◌++◌, take, Option, Some, None, is_some, All}
use Rattle.std.proofs.lemmas.Bool.{true≢false, eq-eqb, cond-true, cond-false}
use Rattle.std.proofs.lemmas.Option.{none-some, same_Some}
use Rattle.chord_caller.specs.Caller.{Caller, Submission, submission_at, seen_at}
use Rattle.chord_map.proofs.HistoryLemmas.{done_is, done_left, done_right}
use Rattle.chord_map.proofs.Lists.{by_test, by_option, Has, Each, has_left, has_right, has_cases, all_each, each_all, finds}
use Rattle.chord_map.specs.declared.done.Done.{Done}
use Rattle.chord_map.specs.History.{done_at, EachOnce, StandsIn}
use Rattle.chord_model.proofs.CallerLemmas.{submission_left}
use Rattle.chord_model.specs.Headline.{OneHistory, request_with, submitted_by}
use Rattle.chord_model.specs.World.{World, caller_at}
use Rattle.chord_table.specs.Later.{IsLater, WasThere}
use Rattle.chord_table.specs.Shown.{IsIn, latest_callers, taken_by_all}

-- what is true of all of a list is true of all of a prefix
all_left : {A : Type 0} (P : A → Type 0) (xs more longer : List A) → longer ≡ xs ++ more → All P longer → All P xs
all_left P xs more longer is all = all_each P xs (λ x h. each_all P (xs ++ more) (subst (λ l. All P l) is all) x (has_left xs more x h))

-- a prefix of a list without a call is without it too
none_left : (caller number : ℕ) (dones more : List Done) → done_at caller number (dones ++ more) ≡ None → done_at caller number dones ≡ None
none_left caller number dones more none =
    by_option (done_at caller number dones)
    (λ e. e)
    (λ call some. absurd (none-some call (sym none ∙ done_left caller number dones more call some)))

once_left : (dones more : List Done) → EachOnce (dones ++ more) → EachOnce dones
once_left [] more once = tt
once_left (first ∷ dones) more once = (none_left first.caller first.number dones more once.0, once_left dones more once.1)

-- a list has each call once if two parts do that share no call
once_both : (dones more : List Done) → EachOnce dones → EachOnce more → Each (λ call. done_at call.caller call.number more ≡ None) dones → EachOnce (dones ++ more)
once_both [] more once others apart = others
once_both (first ∷ dones) more once others apart = (
  done_right first.caller first.number dones more once.0 ∙ apart first (inl refl),
  once_both dones more once.1 others (λ call h. apart call (inr h)),
)

-- what is among the first n of a list is among the first n of a longer one
has_earlier : {A : Type 0} (n : ℕ) (xs more : List A) (x : A) → Has (take n xs) x → Has (take n (xs ++ more)) x
has_earlier zero xs more x h = h
has_earlier (suc n) [] more x h = absurd h
has_earlier (suc n) (y ∷ xs) more x (inl same) = inl same
has_earlier (suc n) (y ∷ xs) more x (inr h) = inr (has_earlier n xs more x h)

seen_later : (old new : Caller) → IsLater old new → (submission : Submission) (x : Done) → Has (seen_at old submission) x → Has (seen_at new submission) x
seen_later old new later submission x h =
    let mine : Has (take submission.mine_seen old.mine) x → Has (take submission.mine_seen new.mine) x =
    λ a. subst (λ l. Has (take submission.mine_seen l) x) (sym (later.mine).1) (has_earlier submission.mine_seen old.mine (later.mine).0 x a) in
    let told : Has (take submission.told_seen old.told) x → Has (take submission.told_seen new.told) x =
    λ b. subst (λ l. Has (take submission.told_seen l) x) (sym (later.told).1) (has_earlier submission.told_seen old.told (later.told).0 x b) in
    ⊎_elim
    (λ a. has_left (take submission.mine_seen new.mine) (take submission.told_seen new.told) x (mine a))
    (λ b. has_right (take submission.mine_seen new.mine) (take submission.told_seen new.told) x (told b))
    (has_cases (take submission.mine_seen old.mine) (take submission.told_seen old.told) x h)

-- what is true of a caller now is true of the caller as it was
pub was_in : (world : World) → OneHistory world → (caller : Caller) → WasThere world caller → IsIn world.history caller
was_in world one caller (now, at, later) = record {
  mine = all_left (λ call. (call.caller ≡ caller.number) × StandsIn world.history call) caller.mine (later.mine).0 now.mine (later.mine).1 (one.mine caller.number now at);
  once = once_left caller.mine (later.mine).0 (subst EachOnce (later.mine).1 (one.once caller.number now at));
  told = all_left (StandsIn world.history) caller.told (later.told).0 now.told (later.told).1 (one.told caller.number now at);
  made = λ number submission call is_submission stands its_caller its_number.
      let is_now : caller_at call.caller world.callers ≡ Some now = ap (λ n. caller_at n world.callers) its_caller ∙ at in
      let there : submission_at call.number now.submitted ≡ Some submission =
      ap (λ n. submission_at n now.submitted) its_number ∙ ap (submission_at number) (later.submitted).1
      ∙ submission_left number caller.submitted (later.submitted).0 submission is_submission in
      same_Some call.request submission.request
      (sym (one.made call stands) ∙ ap (λ (c : Option Caller). submitted_by c call.number) is_now ∙ ap request_with there);
  in_order = λ number submission before behind call is_submission split its_caller its_number.
      let all : All (StandsIn before) (seen_at now submission) =
      one.in_order now number submission before behind call
      (subst (λ n. caller_at n world.callers ≡ Some now) (sym later.number) at)
      (ap (submission_at number) (later.submitted).1 ∙ submission_left number caller.submitted (later.submitted).0 submission is_submission)
      split (its_caller ∙ sym later.number) its_number in
      all_each (StandsIn before) (seen_at caller submission) (λ x h. each_all (StandsIn before) (seen_at now submission) all x (seen_later caller now later submission x h));
}

-- ---- all callers

-- the two facts about a single caller that the rest needs
abbrev IsOwn : Caller → Type 0
IsOwn caller = EachOnce caller.mine × Each (λ call. call.caller ≡ caller.number) caller.mine

-- each call taken by these callers was taken by one of them
from_one : (callers : List Caller) (call : Done) → Has (taken_by_all (latest_callers callers)) call → (caller : Caller) × Has callers caller × Has caller.mine call
from_one [] call h = absurd h
from_one (first ∷ rest) call h =
    by_test (is_some (caller_at first.number rest))
    (λ t.
    let r = from_one rest call (subst (λ l. Has (taken_by_all l) call) (cond-true (is_some (caller_at first.number rest)) (latest_callers rest) (first ∷ latest_callers rest) t) h) in
    (r.0, inr r.1, r.2))
    (λ f. ⊎_elim
    (λ a. (first, inl refl, a))
    (λ b. let r = from_one rest call b in (r.0, inr r.1, r.2))
    (has_cases first.mine (taken_by_all (latest_callers rest)) call
    (subst (λ l. Has (taken_by_all l) call) (cond-false (is_some (caller_at first.number rest)) (latest_callers rest) (first ∷ latest_callers rest) f) h)))

not_at : (number : ℕ) (callers : List Caller) (caller : Caller) → is_some (caller_at number callers) ≡ false → Has callers caller → caller.number ≡ number → ⊥
unfolding caller_at
not_at number callers caller none h same =
    let (other, some) = finds (λ (c : Caller). eqb c.number number) callers caller h (eq-eqb caller.number number same) in
    true≢false (sym (ap is_some some) ∙ none)

-- two callers have no call in common
others_apart : (first : Caller) (rest : List Caller) → IsOwn first → Each IsOwn rest → is_some (caller_at first.number rest) ≡ false
    → Each (λ call. done_at call.caller call.number (taken_by_all (latest_callers rest)) ≡ None) first.mine
others_apart first rest own others none call h =
    by_option (done_at call.caller call.number (taken_by_all (latest_callers rest)))
    (λ e. e)
    (λ more some.
    let (its_caller, its_number, there) = done_is call.caller call.number (taken_by_all (latest_callers rest)) more some in
    let (caller, listed, taken) = from_one rest more there in
    absurd (not_at first.number rest caller none listed (sym ((others caller listed).1 more taken) ∙ its_caller ∙ own.1 call h)))

once_all : (callers : List Caller) → Each IsOwn callers → EachOnce (taken_by_all (latest_callers callers))
once_all [] each = tt
once_all (first ∷ rest) each =
    let others = once_all rest (λ c h. each c (inr h)) in
    by_test (is_some (caller_at first.number rest))
    (λ t. subst (λ l. EachOnce (taken_by_all l)) (sym (cond-true (is_some (caller_at first.number rest)) (latest_callers rest) (first ∷ latest_callers rest) t)) others)
    (λ f. subst (λ l. EachOnce (taken_by_all l)) (sym (cond-false (is_some (caller_at first.number rest)) (latest_callers rest) (first ∷ latest_callers rest) f))
    (once_both first.mine (taken_by_all (latest_callers rest)) (each first (inl refl)).0 others (others_apart first rest (each first (inl refl)) (λ c h. each c (inr h)) f)))

-- no call was taken by two of the callers
pub once_in_all : (history : List Done) (callers : List Caller) → All (IsIn history) callers → EachOnce (taken_by_all (latest_callers callers))
once_in_all history callers all = once_all callers (λ caller h. own caller (each_all (IsIn history) callers all caller h))
  where
    own : (caller : Caller) → IsIn history caller → IsOwn caller
    own caller is = (is.once, λ call h. (each_all (λ (d : Done). (d.caller ≡ caller.number) × StandsIn history d) caller.mine is.mine call h).0)
