-- Giving up the requests of a caller up to a number.
use Rattle.std.proofs.Common.{◌≡◌, ℕ, ◌<◌, ◌≤◌, Bool, true, false, not, ◌&&◌, ◌||◌, eqb, List, length, is_some, None, Some, refl, sym, ap, ◌∙◌, arith}
use Rattle.std.proofs.lemmas.Bool.{ne_eqb}
use Rattle.chord_caller.specs.Answers.{is_pending, PendingIs}
use Rattle.chord_caller.specs.Caller.{Caller, Submission, is_taken, is_among, is_settled, submission_at, with_given_up, with_number}
use Rattle.chord_caller.proofs.GivenUp.{among_more}
use Rattle.chord_live_steps.specs.Asking.{GaveUpSome, GiveUpIs}
use Rattle.chord_map.specs.History.{done_at}
use Rattle.chord_app_serve.specs.Answered.{SettlesTo}
use Rattle.chord_app_serve.specs.Asked.{asked_since}
use Rattle.chord_table.specs.Views.{CallerSight}

-- a greater number stays as it was
others_stay : (caller : Caller) (number other : ℕ) → number < other → is_pending other (with_given_up number caller) ≡ is_pending other caller
unfolding is_settled is_taken
others_stay caller number other less =
    let apart : eqb number other ≡ false = ne_eqb number other (λ e. absurd (omega (arith, e, less))) in
    let same : is_among other (with_given_up number caller).given_up ≡ is_among other caller.given_up =
    among_more other number caller.given_up ∙ ap (λ b. b || is_among other caller.given_up) apart in
    ap (λ b. is_some (submission_at other caller.submitted) && not (is_some (done_at caller.number other caller.mine) || b)) same

module _ (upto : ℕ) (old : CallerSight) where
  -- what holds while requests up to the number are given up
  pub record Settling (new : CallerSight) : Type 0 where
    pub given : GaveUpSome old new
    pub above : (number : ℕ) → upto < number → is_pending number new.caller ≡ is_pending number old.caller

  pub begun : Settling old
  begun = record { given = (old.caller.given_up, refl); above = λ number less. refl }

  pub one_more : (number : ℕ) (mid new : CallerSight) → number ≤ upto → Settling mid → GiveUpIs number mid true new → Settling new
  one_more number mid new within s (pending, gone) = record {
    given = (with_number number s.given.0, gone ∙ ap (λ (x : CallerSight). record x { caller = with_given_up number x.caller }) s.given.1);
    above = λ other less. ap (λ (x : CallerSight). is_pending other x.caller) gone ∙ others_stay mid.caller number other (omega (arith, within, less)) ∙ s.above other less;
  }

  -- none is left
  pub all_settled : (new : CallerSight) → Settling new → PendingIs new.caller None → SettlesTo upto old new
  all_settled new s none = record { given = s.given; below = λ number within. none number; above = s.above }

  -- or those that are left are above the number
  pub low_settled : (least : ℕ) (new : CallerSight) → Settling new → PendingIs new.caller (Some least) → upto < least → SettlesTo upto old new
  low_settled least new s first less = record { given = s.given; below = λ number within. first.1 number (omega (arith, within, less)); above = s.above }

-- what was asked stays
pub asked_stays : (before floor : ℕ) (old new : CallerSight) → SettlesTo floor old new → asked_since before new ≡ asked_since before old
asked_stays before floor old new s = ap (λ (x : CallerSight). asked_since before x) s.given.1

pub as_many : (floor : ℕ) (old new : CallerSight) → SettlesTo floor old new → length new.caller.submitted ≡ length old.caller.submitted
as_many floor old new s = ap (λ (x : CallerSight). length x.caller.submitted) s.given.1
