-- What a caller knew comes in the history before what it submits later: over runs of steps.
use Rattle.std.proofs.Common.{◌≡◌, ℕ, zero, suc, ◌<◌, ◌≤◌, ◌⊎◌, inl, inr, ⊎_elim, refl, sym, ◌∙◌, ap, subst, arith, List, [], ◌∷◌, ◌++◌, length, take, Option, Some, append_assoc, length-append}
use Rattle.std.proofs.lemmas.Bool.{cases_eq}
use Rattle.std.proofs.lemmas.Option.{same_Some, none-some, slice_get_within}
use Rattle.chord_caller.specs.Caller.{Submission, Caller, submission_at, known_calls, seen_at, CallerStep, Letter}
use Rattle.chord_map.proofs.Lists.{Has, has_cases, has_contained, has_left, has_right, each_all}
use Rattle.chord_model.proofs.CallerLemmas.{Grown, nothing_more, grown_itself, caller_left}
use Rattle.chord_model.proofs.CallerSteps.{submission_pushed, among_with}
use Rattle.chord_model.proofs.Growth.{once_stands}
use Rattle.chord_model.proofs.HolderTie.{holder_facts}
use Rattle.chord_model.proofs.Invariant.{Good}
use Rattle.chord_model.proofs.Main.{reached_good}
use Rattle.chord_model.specs.Headline.{SeenFirst}
use Rattle.chord_model.specs.World.{World, WorldStep, Run, Reached, empty_world, caller_at, put_caller}
use Rattle.chord_model.specs.World.Run.{Stays, Goes_on}
use Rattle.chord_map.specs.History.{StandsIn}
use Rattle.chord_model.proofs.Numbered.{callers_by}

pub grown_twice : (first second third : Caller) → Grown first second → Grown second third → Grown first third
grown_twice first second third one other = record {
  number = other.number ∙ one.number;
  window = other.window ∙ one.window;
  submitted = (
    (one.submitted).0 ++ (other.submitted).0,
    (other.submitted).1 ∙ ap (λ xs. xs ++ (other.submitted).0) (one.submitted).1 ∙ append_assoc first.submitted (one.submitted).0 (other.submitted).0,
  );
  mine = ((one.mine).0 ++ (other.mine).0, (other.mine).1 ∙ ap (λ xs. xs ++ (other.mine).0) (one.mine).1 ∙ append_assoc first.mine (one.mine).0 (other.mine).0);
  told = ((one.told).0 ++ (other.told).0, (other.told).1 ∙ ap (λ xs. xs ++ (other.told).0) (one.told).1 ∙ append_assoc first.told (one.told).0 (other.told).0);
  given_up = λ place given. other.given_up place (one.given_up place given);
}

-- each submission is an old one, or counts all that its caller knew
abbrev NotesAll : Caller → Caller → Type 0
NotesAll old new = (place : ℕ) (submission : Submission) → submission_at place new.submitted ≡ Some submission
    → (submission_at place old.submitted ≡ Some submission) ⊎ ((submission.mine_seen ≡ length old.mine) × (submission.told_seen ≡ length old.told))

notes_itself : (caller : Caller) → NotesAll caller caller
notes_itself caller place submission is = inl is

-- one step of a caller
step_grows : (old new : Caller) (taken sent : Option Letter) → CallerStep old taken new sent → Grown old new × NotesAll old new
step_grows old new taken sent (CallerStep.Submits request ask bound sends) = (
  record { number = refl; window = refl; submitted = (_, refl); mine = nothing_more old.mine; told = nothing_more old.told; given_up = λ place given. given },
  (λ place submission is. ⊎_elim (λ there. inl there)
      (λ e. inr (ap (λ (s : Submission). s.mine_seen) (sym e), ap (λ (s : Submission). s.told_seen) (sym e)))
      (submission_pushed old.submitted (record { request = request; mine_seen = length old.mine; told_seen = length old.told }) place submission is)),
)
step_grows old new taken sent (CallerStep.Repeats place submission ask is pending sends) = (grown_itself old, notes_itself old)
step_grows old new taken sent (CallerStep.Takes told request fresh) = (
  record { number = refl; window = refl; submitted = nothing_more old.submitted; mine = (_, refl); told = nothing_more old.told; given_up = λ place given. given },
  (λ place submission is. inl is),
)
step_grows old new taken sent (CallerStep.Gives_up given submission is pending) = (
  record {
    number = refl;
    window = refl;
    submitted = nothing_more old.submitted;
    mine = nothing_more old.mine;
    told = nothing_more old.told;
    given_up = λ place e. among_with place given old.given_up e;
  },
  (λ place submission is. inl is),
)
step_grows old new taken sent (CallerStep.Ignores told none) = (grown_itself old, notes_itself old)
step_grows old new taken sent (CallerStep.Hears_full caller place) = (grown_itself old, notes_itself old)
step_grows old new taken sent CallerStep.Shows = (grown_itself old, notes_itself old)
step_grows old new taken sent (CallerStep.Meets note) = (
  record { number = refl; window = refl; submitted = nothing_more old.submitted; mine = nothing_more old.mine; told = (_, refl); given_up = λ place given. given },
  (λ place submission is. inl is),
)

-- a caller some steps later: it grew, and each submission since counts at least what it knew before
record Since (callers : List Caller) (number : ℕ) (old : Caller) : Type 0 where
  new : Caller
  is_caller : caller_at number callers ≡ Some new
  grown : Grown old new
  notes : (place : ℕ) (submission : Submission) → length old.submitted < place → submission_at place new.submitted ≡ Some submission
      → (length old.mine ≤ submission.mine_seen) × (length old.told ≤ submission.told_seen)

none_beyond : (submitted : List Submission) (place : ℕ) (submission : Submission) → length submitted < place → submission_at place submitted ≡ Some submission → ⊥
none_beyond submitted zero submission high is = none-some submission is
none_beyond submitted (suc place) submission high is = omega (arith, slice_get_within submitted place submission is)

longer : (old new : Caller) → Grown old new → (length old.mine ≤ length new.mine) × (length old.told ≤ length new.told)
longer old new grown =
    (omega (arith, ap length (grown.mine).1 ∙ length-append old.mine (grown.mine).0), omega (arith, ap length (grown.told).1 ∙ length-append old.told (grown.told).0))

-- one more step of that caller
since_step : (callers : List Caller) (number : ℕ) (old : Caller) (since : Since callers number old) (after : Caller) → Grown since.new after → NotesAll since.new after
    → Since (put_caller after callers) number old
since_step callers number old since after grown notes =
    let is_number : after.number ≡ number = grown.number ∙ callers_by.number number callers since.new since.is_caller in
    let at : caller_at after.number callers ≡ Some since.new = ap (λ n. caller_at n callers) is_number ∙ since.is_caller in
    let low = longer old since.new since.grown in
    record {
      new = after;
      is_caller = ap (λ n. caller_at n (put_caller after callers)) (sym is_number) ∙ callers_by.put_same after callers since.new at;
      grown = grown_twice old since.new after since.grown grown;
      notes = λ place submission high is. ⊎_elim (λ there. since.notes place submission high there) (λ e. (omega (arith, e.0, low.0), omega (arith, e.1, low.1)))
          (notes place submission is);
    }

world_since : (middle last : World) (number : ℕ) (old : Caller) → Since middle.callers number old → WorldStep middle last → Since last.callers number old
world_since middle last number old since (WorldStep.Creates links limit id_in none) = since
world_since middle last number old since (WorldStep.Joins links limit id_in some is_new) = since
world_since middle last number old since (WorldStep.Opens at window low high is_new) =
    record {
      new = since.new;
      is_caller = caller_left number middle.callers (record { number = at; window = window; submitted = []; mine = []; told = []; given_up = [] } ∷ []) since.new since.is_caller;
      grown = since.grown;
      notes = since.notes;
    }
world_since middle last number old since (WorldStep.Calls at caller after taken sent here was step) =
    let r = step_grows caller after taken sent step in
    ⊎_elim
    (λ same.
    let is : caller ≡ since.new = same_Some caller since.new (sym here ∙ ap (λ n. caller_at n middle.callers) (sym same) ∙ since.is_caller) in
    since_step middle.callers number old since after (subst (λ c. Grown c after) is r.0) (subst (λ c. NotesAll c after) is r.1))
    (λ apart.
    record {
      new = since.new;
      is_caller = callers_by.put_apart after middle.callers number (λ e. apart (e ∙ r.0.number ∙ callers_by.number at middle.callers caller here)) ∙ since.is_caller;
      grown = since.grown;
      notes = since.notes;
    })
    (cases_eq number at)
world_since middle last number old since (WorldStep.Acts at node after taken sent call here was step) = since

run_since : (first last : World) (number : ℕ) (old : Caller) → caller_at number first.callers ≡ Some old → Run first last → Since last.callers number old
run_since first last number old here Stays = record {
  new = old;
  is_caller = here;
  grown = grown_itself old;
  notes = λ place submission high is. absurd (none_beyond old.submitted place submission high is);
}
run_since first last number old here (Goes_on {middle = middle} run step) = world_since middle last number old (run_since first middle number old here run) step

pub runs_on : (first middle last : World) → Run first middle → Run middle last → Run first last
runs_on first middle last run Stays = run
runs_on first middle last run (Goes_on {middle = between} more step) = Goes_on (runs_on first middle between run more) step

has_front : {A : Type 0} (n : ℕ) (front more : List A) (x : A) → length front ≤ n → Has front x → Has (take n (front ++ more)) x
has_front zero [] more x low h = absurd h
has_front zero (y ∷ front) more x low h = absurd (omega arith)
has_front (suc n) [] more x low h = absurd h
has_front (suc n) (y ∷ front) more x low (inl e) = inl e
has_front (suc n) (y ∷ front) more x low (inr h) = inr (has_front n front more x (omega arith) h)

pub seen_first : (earlier later : World) → Reached earlier → Run earlier later → SeenFirst earlier later
seen_first earlier later reached run number caller seen done before behind here knows split is_caller above =
    let good : Good later = reached_good holder_facts later (runs_on empty_world earlier later reached run) in
    let since : Since later.callers number caller = run_since earlier later number caller here run in
    let new : Caller = since.new in
    let there : Has later.history done = subst (λ ds. Has ds done) (sym split) (has_right before (done ∷ behind) done (inl refl)) in
    let s = (good.executed done (once_stands later.history done good.legal.once there)).submitted in
    let is : s.caller ≡ new = same_Some s.caller new (sym s.is_caller ∙ ap (λ n. caller_at n later.callers) is_caller ∙ since.is_caller) in
    let submission : submission_at done.number new.submitted ≡ Some s.submission = ap (λ (c : Caller). submission_at done.number c.submitted) (sym is) ∙ s.is_submission in
    let seen_before = since.notes done.number s.submission above submission in
    let own_number : new.number ≡ number = callers_by.number number later.callers new since.is_caller in
    let grown : Grown caller new = since.grown in
    each_all (StandsIn before) (seen_at new s.submission)
    (good.in_order new done.number s.submission before behind done (ap (λ n. caller_at n later.callers) own_number ∙ since.is_caller) submission split (is_caller ∙ sym own_number) refl)
    seen
    (⊎_elim
    (λ a. has_left (take s.submission.mine_seen new.mine) (take s.submission.told_seen new.told) seen
    (subst (λ ds. Has (take s.submission.mine_seen ds) seen) (sym (grown.mine).1) (has_front s.submission.mine_seen caller.mine (grown.mine).0 seen seen_before.0 a)))
    (λ b. has_right (take s.submission.mine_seen new.mine) (take s.submission.told_seen new.told) seen
    (subst (λ ds. Has (take s.submission.told_seen ds) seen) (sym (grown.told).1) (has_front s.submission.told_seen caller.told (grown.told).0 seen seen_before.1 b)))
    (has_cases caller.mine caller.told seen (has_contained (known_calls caller) seen knows)))
