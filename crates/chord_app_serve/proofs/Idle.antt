-- The floor of a caller with nothing pending is its last number, so its next session begins with no
-- request.
use Rattle.std.proofs.Common.{◌≡◌, ℕ, zero, suc, ◌<◌, ◌≤◌, true, false, [], length, refl, arith}
use Rattle.std.proofs.lemmas.List.{length-map}
use Rattle.std.proofs.Math.ListN.{drop_of_length-le}
use Rattle.std.specs.Prelude.{is_some}
use Rattle.chord_app_serve.specs.Asked.{asked_by, asked_since}
use Rattle.chord_caller.specs.Answers.{is_pending}
use Rattle.chord_caller.specs.Caller.{Caller, Submission, submission_at, floor_of, floor_upto, is_settled}
use Rattle.chord_caller.proofs.Waiting.{got_within}
use Rattle.chord_table.specs.Views.{CallerSight}

-- a submitted request that is not pending is settled
settled_if_idle : (caller : Caller) (place : ℕ) → place < length caller.submitted → is_pending (suc place) caller ≡ false → is_settled caller (suc place) ≡ true
settled_if_idle caller place within idle =
    let there : is_some (submission_at (suc place) caller.submitted) ≡ true = got_within caller.submitted place within in
    grind (arith, there, idle)

all_upto : (caller : Caller) → ((number : ℕ) → is_pending number caller ≡ false) → (n : ℕ) → n ≤ length caller.submitted → floor_upto caller n ≡ n
unfolding floor_upto
all_upto caller idle zero within = refl
all_upto caller idle (suc n) within =
    let below : floor_upto caller n ≡ n = all_upto caller idle n (omega (arith, within)) in
    let settled : is_settled caller (suc n) ≡ true = settled_if_idle caller n (omega (arith, within)) (idle (suc n)) in
    grind (arith, below, settled)

-- the floor of an idle caller is how many requests it submitted
pub idle_floor : (caller : Caller) → ((number : ℕ) → is_pending number caller ≡ false) → floor_of caller ≡ length caller.submitted
idle_floor caller idle = all_upto caller idle (length caller.submitted) (omega arith)

-- no request was asked after that floor
pub idle_begins : (before : ℕ) (sight : CallerSight) → ((number : ℕ) → is_pending number sight.caller ≡ false) → before ≡ floor_of sight.caller → asked_since before sight ≡ []
idle_begins before sight idle floor =
    let all = idle_floor sight.caller idle in
    let same = length-map sight.caller.submitted (λ (s : Submission). s.request) in
    drop_of_length-le (asked_by sight) (omega (arith, all, same, floor))
