-- A caller's fields after a taken reply, and after a request was given up.
use Rattle.std.proofs.Common.{◌≡◌, ◌≢◌, ℕ, zero, suc, ◌<◌, ◌≤◌, true, Some, List, [], ◌∷◌, ◌++◌, map, length, length-set, slice_get, slice_set, ⊎_elim, refl, sym, ◌∙◌, ap, ap₂, subst, arith}
use Rattle.std.proofs.lemmas.Bool.{true≢false, cases_lt}
use Rattle.std.proofs.lemmas.Option.{none-some}
use Rattle.chord_map.specs.declared.request.Request.{Request}
use Rattle.chord_map.specs.declared.done.Done.{Done}
use Rattle.chord_map.proofs.Equal.{same_or_not}
use Rattle.chord_caller.specs.declared.submitted.RequestProgress.{RequestProgress}
use Rattle.chord_caller.specs.declared.submitted.RequestProgress.TheVariants.{Pending, Taken, GivenUp}
use Rattle.chord_caller.specs.declared.submitted.Submitted.{Submitted}
use Rattle.chord_caller.specs.declared.told.Told.{Told}
use Rattle.chord_caller.specs.Caller.{Submission, with_reply, with_number, with_given_up}
use Rattle.chord_caller.specs.Submitted.{progress_of, progress_at, was_given_up, is_over, AreSettled, IsFloor, IsTied, IsCaller, Settles, GivesUp, request_in, request_of, submission_of, given_up_from, caller_of}
use Rattle.chord_caller.proofs.GivenUp.{given_up_same, given_up_more}
use Rattle.chord_caller.proofs.Places.{got_left, got_last, got_pushed, got_set_same, got_set_other, map_agree, map-set_same}

-- the entry after its reply was taken into the end of these calls
abbrev pub over_entry : List Done → Submitted → Submitted
over_entry mine entry = record entry { progress = Taken (length mine) }

-- a pending request at an index, and the call that its reply makes of it
pub record IsHere (caller : ℕ) (submitted : List Submitted) (place : ℕ) (entry : Submitted) (done : Done) : Type 0 where
  pub entry_is : slice_get submitted place ≡ Some entry
  pub waits : entry.progress ≡ Pending done.request
  pub caller_is : done.caller ≡ caller
  pub number_is : done.number ≡ suc place

progress_here : (submitted : List Submitted) (mine : List Done) (place : ℕ) (entry : Submitted) → slice_get submitted place ≡ Some entry
    → progress_of (slice_get (slice_set submitted place (over_entry mine entry)) place) ≡ Some (Taken (length mine))
progress_here submitted mine place entry e = ap progress_of (got_set_same submitted place entry (over_entry mine entry) e)

progress_there : (submitted : List Submitted) (mine : List Done) (place : ℕ) (entry : Submitted) (other : ℕ) → other ≢ place
    → progress_of (slice_get (slice_set submitted place (over_entry mine entry)) other) ≡ progress_of (slice_get submitted other)
progress_there submitted mine place entry other apart = ap progress_of (got_set_other submitted place other (over_entry mine entry) apart)

-- a request that was over is still over, if one that is over takes the place of another
pub over_stays : (submitted : List Submitted) (place : ℕ) (entry after : Submitted) → slice_get submitted place ≡ Some entry → is_over (Some after.progress) ≡ true → (floor : ℕ)
    → AreSettled floor submitted → AreSettled floor (slice_set submitted place after)
over_stays submitted place entry after e over floor all zero low high = absurd (omega arith)
over_stays submitted place entry after e over floor all (suc other) low high =
    ⊎_elim
    (λ (here : other ≡ place).
    ap (λ p. is_over (progress_of (slice_get (slice_set submitted place after) p))) here ∙ ap (λ o. is_over (progress_of o)) (got_set_same submitted place entry after e) ∙ over)
    (λ (there : other ≢ place). ap (λ o. is_over (progress_of o)) (got_set_other submitted place other after there) ∙ all (suc other) low high)
    (same_or_not other place)

stands_after : (caller : ℕ) (submitted : List Submitted) (mine : List Done) (place : ℕ) (entry : Submitted) (done : Done) → IsHere caller submitted place entry done → IsTied caller submitted mine
    → (number into : ℕ) → progress_at number (slice_set submitted place (over_entry mine entry)) ≡ Some (Taken into)
    → (d : Done) × (slice_get (mine ++ done ∷ []) into ≡ Some d) × (d.caller ≡ caller) × (d.number ≡ number)
stands_after caller submitted mine place entry done h ties zero into e = absurd (none-some (Taken into) e)
stands_after caller submitted mine place entry done h ties (suc other) into e =
    ⊎_elim
    (λ (here : other ≡ place).
    let at_place : progress_of (slice_get (slice_set submitted place (over_entry mine entry)) place) ≡ Some (Taken into) = subst (λ p. progress_of (slice_get (slice_set submitted place (over_entry mine entry)) p) ≡ Some (Taken into)) here e in
    let both : Some (Taken (length mine)) ≡ Some (Taken into) = sym (progress_here submitted mine place entry h.entry_is) ∙ at_place in
    let last : length mine ≡ into = cc in
    (done, ap (slice_get (mine ++ done ∷ [])) (sym last) ∙ got_last mine done, h.caller_is, h.number_is ∙ ap suc (sym here)))
    (λ (there : other ≢ place).
    let old = ties.stands (suc other) into (sym (progress_there submitted mine place entry other there) ∙ e) in
    (old.0, got_left mine (done ∷ []) into old.0 old.1, old.2, old.3))
    (same_or_not other place)

taken_after : (caller : ℕ) (submitted : List Submitted) (mine : List Done) (place : ℕ) (entry : Submitted) (request : Request) → slice_get submitted place ≡ Some entry → entry.progress ≡ Pending request
    → (number into : ℕ) → progress_at number submitted ≡ Some (Taken into) → progress_at number (slice_set submitted place (over_entry mine entry)) ≡ Some (Taken into)
taken_after caller submitted mine place entry request e waits zero into t = absurd (none-some (Taken into) t)
taken_after caller submitted mine place entry request e waits (suc other) into t =
    ⊎_elim
    (λ (here : other ≡ place).
    let pending : progress_of (slice_get submitted place) ≡ Some (Pending request) = ap progress_of e ∙ ap Some waits in
    let taken : progress_of (slice_get submitted place) ≡ Some (Taken into) = subst (λ p. progress_of (slice_get submitted p) ≡ Some (Taken into)) here t in
    let both : Some (Pending request) ≡ Some (Taken into) = sym pending ∙ taken in
    cc)
    (λ (there : other ≢ place). progress_there submitted mine place entry other there ∙ t)
    (same_or_not other place)

-- the entries and the taken calls still agree
pub tied_after : (caller : ℕ) (submitted : List Submitted) (mine : List Done) (place : ℕ) (entry : Submitted) (done : Done) → IsHere caller submitted place entry done → IsTied caller submitted mine
    → IsTied caller (slice_set submitted place (over_entry mine entry)) (mine ++ done ∷ [])
tied_after caller submitted mine place entry done h ties = record {
  stands = stands_after caller submitted mine place entry done h ties;
  taken = λ into d e.
      ⊎_elim
      (λ old. taken_after caller submitted mine place entry done.request h.entry_is h.waits d.number into (ties.taken into d old))
      (λ (new : (into ≡ length mine) × (done ≡ d)).
      let number : d.number ≡ suc place = ap (λ (x : Done). x.number) (sym new.1) ∙ h.number_is in
      ap (λ n. progress_at n (slice_set submitted place (over_entry mine entry))) number ∙ progress_here submitted mine place entry h.entry_is ∙ ap (λ n. Some (Taken n)) (sym new.0))
      (got_pushed mine done into d e);
}

-- the floor is not lowered
floor_rises : (old new : ℕ) (submitted : List Submitted) → AreSettled old submitted → IsFloor new submitted → old ≤ new
floor_rises old new submitted all h =
    ⊎_elim
    (λ (below : new < old). absurd (true≢false (sym (all (suc new) (omega arith) below) ∙ h.next)))
    (λ rises. rises)
    (cases_lt new old)

-- a caller keeps its rules when it takes a reply
pub take_keeps : (caller window floor floor' : ℕ) (submitted : List Submitted) (mine : List Done) (place : ℕ) (entry : Submitted) (done : Done) → IsHere caller submitted place entry done
    → IsCaller caller window floor submitted mine → IsFloor floor' (slice_set submitted place (over_entry mine entry))
    → IsCaller caller window floor' (slice_set submitted place (over_entry mine entry)) (mine ++ done ∷ [])
take_keeps caller window floor floor' submitted mine place entry done here h risen =
    let rises = floor_rises floor floor' (slice_set submitted place (over_entry mine entry)) (over_stays submitted place entry (over_entry mine entry) here.entry_is refl floor (h.floor_is).settled) risen in
    let near = h.near in
    record {
      some_window = h.some_window;
      small_window = h.small_window;
      floor_is = risen;
      near = simp length-set (omega arith);
      tied = tied_after caller submitted mine place entry done here h.tied;
    }

-- the old requests are unchanged, though more was taken
same_requests : (caller : ℕ) (submitted : List Submitted) (mine more : List Done) → IsTied caller submitted mine
    → map (submission_of (mine ++ more)) submitted ≡ map (submission_of mine) submitted
same_requests caller submitted mine more ties =
    map_agree (submission_of (mine ++ more)) (submission_of mine) submitted
    (λ place entry e. ap (λ (request : Request). record { request = request; mine_seen = entry.mine_seen; told_seen = entry.told_seen }) (by_progress place entry e entry.progress refl))
  where
    by_progress : (place : ℕ) (entry : Submitted) → slice_get submitted place ≡ Some entry → (progress : RequestProgress) → entry.progress ≡ progress → request_of (mine ++ more) progress ≡ request_of mine progress
    by_progress place entry e (Pending request) is = refl
    by_progress place entry e (GivenUp request) is = refl
    by_progress place entry e (Taken into) is =
        let stands = ties.stands (suc place) into (ap progress_of e ∙ ap Some is) in
        ap request_in (got_left mine more into stands.0 stands.1) ∙ sym (ap request_in stands.1)

-- the fields after a reply was taken are those of the caller with that reply
pub taken_is : (caller window : ℕ) (submitted : List Submitted) (mine told : List Done) (place : ℕ) (entry : Submitted) (done : Done) → IsHere caller submitted place entry done → IsTied caller submitted mine
    → caller_of caller window (slice_set submitted place (over_entry mine entry)) (mine ++ done ∷ []) told
    ≡ (let old = caller_of caller window submitted mine told in record old { mine = mine ++ done ∷ [] })
taken_is caller window submitted mine told place entry done here ties =
    let f = submission_of (mine ++ done ∷ []) in
    let request : request_of (mine ++ done ∷ []) (Taken (length mine)) ≡ request_of (mine ++ done ∷ []) entry.progress =
    ap request_in (got_last mine done) ∙ sym (ap (request_of (mine ++ done ∷ [])) here.waits) in
    let image : f (over_entry mine entry) ≡ f entry = ap (λ (r : Request). record { request = r; mine_seen = entry.mine_seen; told_seen = entry.told_seen }) request in
    let gone : given_up_from 0 (slice_set submitted place (over_entry mine entry)) ≡ given_up_from 0 submitted =
    given_up_same 0 submitted place entry (over_entry mine entry) here.entry_is (sym (ap (λ p. was_given_up (Some p)) here.waits)) in
    ap₂ (λ (all : List Submission) (numbers : List ℕ). record { number = caller; window = window; submitted = all; mine = mine ++ done ∷ []; told = told; given_up = numbers })
    (map-set_same f submitted place entry (over_entry mine entry) here.entry_is image ∙ same_requests caller submitted mine (done ∷ []) ties) gone

-- the call that a reply makes of a pending request
abbrev done_of : Told → Request → Done
done_of told request = record { caller = told.caller; number = told.number; request = request; reply = told.reply }

here_of : (caller : ℕ) (submitted : List Submitted) (mine : List Done) (submitted' : List Submitted) (mine' : List Done) (told : Told) → told.caller ≡ caller
    → (h : Settles told submitted mine submitted' mine') → IsHere caller submitted h.place h.entry (done_of told h.request)
here_of caller submitted mine submitted' mine' told own h = record { entry_is = h.entry_is; waits = h.waits; caller_is = own; number_is = h.number_is }

-- a caller keeps its rules when a reply is settled
pub settled_keeps : (caller window floor floor' : ℕ) (submitted : List Submitted) (mine : List Done) (submitted' : List Submitted) (mine' : List Done) (told : Told) → told.caller ≡ caller
    → Settles told submitted mine submitted' mine' → IsCaller caller window floor submitted mine → IsFloor floor' submitted' → IsCaller caller window floor' submitted' mine'
settled_keeps caller window floor floor' submitted mine submitted' mine' told own h old risen =
    let kept = take_keeps caller window floor floor' submitted mine h.place h.entry (done_of told h.request) (here_of caller submitted mine submitted' mine' told own h) old
    (subst (λ (all : List Submitted). IsFloor floor' all) h.submitted_is risen) in
    subst (λ (all : List Submitted). IsCaller caller window floor' all mine') (sym h.submitted_is)
    (subst (λ (all : List Done). IsCaller caller window floor' (slice_set submitted h.place (over_entry mine h.entry)) all) (sym h.mine_is) kept)

-- the caller that settled a reply is the one that took it
pub settled_is : (caller window : ℕ) (submitted : List Submitted) (mine heard : List Done) (submitted' : List Submitted) (mine' : List Done) (told : Told) → told.caller ≡ caller
    → (h : Settles told submitted mine submitted' mine') → IsTied caller submitted mine
    → caller_of caller window submitted' mine' heard ≡ with_reply told h.request (caller_of caller window submitted mine heard)
settled_is caller window submitted mine heard submitted' mine' told own h ties =
    ap₂ (λ (all : List Submitted) (dones : List Done). caller_of caller window all dones heard) h.submitted_is h.mine_is
    ∙ taken_is caller window submitted mine heard h.place h.entry (done_of told h.request) (here_of caller submitted mine submitted' mine' told own h) ties

-- ---- a request that is given up

-- the entry after its request was given up
abbrev pub gone_entry : Request → Submitted → Submitted
gone_entry request entry = record entry { progress = GivenUp request }

-- the entries and the taken calls still agree
gone_tied : (caller : ℕ) (submitted : List Submitted) (mine : List Done) (place : ℕ) (entry : Submitted) (request : Request) → slice_get submitted place ≡ Some entry → entry.progress ≡ Pending request
    → IsTied caller submitted mine → IsTied caller (slice_set submitted place (gone_entry request entry)) mine
gone_tied caller submitted mine place entry request e waits ties = record {
  stands = λ number into at. ties.stands number into (before number into at);
  taken = λ into d at. after d.number into (ties.taken into d at);
}
  where
    before : (number into : ℕ) → progress_at number (slice_set submitted place (gone_entry request entry)) ≡ Some (Taken into) → progress_at number submitted ≡ Some (Taken into)
    before zero into at = absurd (none-some (Taken into) at)
    before (suc other) into at =
        ⊎_elim
        (λ (here : other ≡ place).
        let gone : progress_of (slice_get (slice_set submitted place (gone_entry request entry)) place) ≡ Some (GivenUp request) = ap progress_of (got_set_same submitted place entry (gone_entry request entry) e) in
        let is : progress_of (slice_get (slice_set submitted place (gone_entry request entry)) place) ≡ Some (Taken into) =
        subst (λ p. progress_of (slice_get (slice_set submitted place (gone_entry request entry)) p) ≡ Some (Taken into)) here at in
        let both : Some (GivenUp request) ≡ Some (Taken into) = sym gone ∙ is in
        cc)
        (λ (there : other ≢ place). sym (ap progress_of (got_set_other submitted place other (gone_entry request entry) there)) ∙ at)
        (same_or_not other place)

    after : (number into : ℕ) → progress_at number submitted ≡ Some (Taken into) → progress_at number (slice_set submitted place (gone_entry request entry)) ≡ Some (Taken into)
    after zero into at = absurd (none-some (Taken into) at)
    after (suc other) into at =
        ⊎_elim
        (λ (here : other ≡ place).
        let pending : progress_of (slice_get submitted place) ≡ Some (Pending request) = ap progress_of e ∙ ap Some waits in
        let is : progress_of (slice_get submitted place) ≡ Some (Taken into) = subst (λ p. progress_of (slice_get submitted p) ≡ Some (Taken into)) here at in
        let both : Some (Pending request) ≡ Some (Taken into) = sym pending ∙ is in
        cc)
        (λ (there : other ≢ place). ap progress_of (got_set_other submitted place other (gone_entry request entry) there) ∙ at)
        (same_or_not other place)

-- what was settled still is
pub gone_settled : (number : ℕ) (submitted submitted' : List Submitted) → GivesUp number submitted submitted' → (floor : ℕ) → AreSettled floor submitted → AreSettled floor submitted'
gone_settled number submitted submitted' h floor all =
    subst (λ (all : List Submitted). AreSettled floor all) (sym h.submitted_is) (over_stays submitted h.place h.entry (gone_entry h.request h.entry) h.entry_is refl floor all)

-- a caller keeps its rules when it gives a request up
pub gone_keeps : (caller window floor floor' number : ℕ) (submitted submitted' : List Submitted) (mine : List Done) → GivesUp number submitted submitted'
    → IsCaller caller window floor submitted mine → IsFloor floor' submitted' → IsCaller caller window floor' submitted' mine
gone_keeps caller window floor floor' number submitted submitted' mine h old risen =
    let rises = floor_rises floor floor' submitted' (gone_settled number submitted submitted' h floor (old.floor_is).settled) risen in
    let near = old.near in
    let count : length submitted' ≡ length submitted = ap (λ (all : List Submitted). length all) h.submitted_is ∙ length-set submitted h.place (gone_entry h.request h.entry) in
    record {
      some_window = old.some_window;
      small_window = old.small_window;
      floor_is = risen;
      near = omega arith;
      tied = subst (λ (all : List Submitted). IsTied caller all mine) (sym h.submitted_is) (gone_tied caller submitted mine h.place h.entry h.request h.entry_is h.waits old.tied);
    }

-- the fields after a request was given up are those of the caller that gave it up
pub gone_is : (caller window number : ℕ) (submitted submitted' : List Submitted) (mine told : List Done) → GivesUp number submitted submitted'
    → caller_of caller window submitted' mine told ≡ with_given_up number (caller_of caller window submitted mine told)
gone_is caller window number submitted submitted' mine told h =
    let f = submission_of mine in
    let image : f (gone_entry h.request h.entry) ≡ f h.entry =
    ap (λ (r : Request). record { request = r; mine_seen = (h.entry).mine_seen; told_seen = (h.entry).told_seen }) (ap (request_of mine) (sym h.waits)) in
    let requests : map f (slice_set submitted h.place (gone_entry h.request h.entry)) ≡ map f submitted = map-set_same f submitted h.place h.entry (gone_entry h.request h.entry) h.entry_is image in
    let gone : given_up_from 0 (slice_set submitted h.place (gone_entry h.request h.entry)) ≡ with_number (suc h.place) (given_up_from 0 submitted) =
    given_up_more submitted h.place h.entry (gone_entry h.request h.entry) h.entry_is (ap (λ p. was_given_up (Some p)) h.waits) refl in
    ap (λ (all : List Submitted). caller_of caller window all mine told) h.submitted_is
    ∙ ap₂ (λ (all : List Submission) (numbers : List ℕ). record { number = caller; window = window; submitted = all; mine = mine; told = told; given_up = numbers }) requests gone
    ∙ ap (λ n. with_given_up n (caller_of caller window submitted mine told)) (sym h.number_is)
