-- Marks that are raised, and calls inserted among those of their callers.
use Rattle.std.proofs.Common.{◌≡◌, ◌≢◌, ℕ, ◌≤◌, max, Bool, true, false, cond, eqb, ltb, ◌⊎◌, inl, inr, ⊎_elim, refl, sym, ◌∙◌, ap, subst, arith, List, [], ◌∷◌, ◌++◌}
use Rattle.std.specs.Prelude.{filter}
use Rattle.std.proofs.lemmas.Bool.{ltb-true, lt-ltb, cond-true, cond-false, cases_lt, cases_eq}
use Rattle.chord_map.proofs.Lists.{by_test, Has, has_filter, has_cases}
use Rattle.chord_map.specs.declared.done.Done.{Done}
use Rattle.chord_segment.specs.declared.mark.Mark.{Mark}
use Rattle.chord_segment.specs.Marks.{mark_of, lift, lift_all}
use Rattle.chord_segment.specs.Segment.{insert_call, insert_calls}
use Rattle.chord_segment.proofs.SegmentLemmas.{at_head, past_head, max_keeps, grows_by, EachMark}

-- ---- marks

-- a filter that keeps all marks of an owner keeps its number
kept_mark : (owner : ℕ) (p : Mark → Bool) (marks more : List Mark) → ((mark : Mark) → mark.owner ≡ owner → p mark ≡ true)
    → mark_of owner more ≡ 0 → mark_of owner (filter p marks ++ more) ≡ mark_of owner marks
unfolding mark_of
kept_mark owner p [] more keeps none = none
kept_mark owner p (mark ∷ marks) more keeps none =
    ⊎_elim
    (λ same. ap (λ ms. mark_of owner (ms ++ more)) (cond-true (p mark) (mark ∷ filter p marks) (filter p marks) (keeps mark same))
    ∙ at_head owner mark (filter p marks ++ more) same ∙ sym (at_head owner mark marks same))
    (λ apart. by_test (p mark)
    (λ t. ap (λ ms. mark_of owner (ms ++ more)) (cond-true (p mark) (mark ∷ filter p marks) (filter p marks) t)
    ∙ past_head owner mark (filter p marks ++ more) apart ∙ kept_mark owner p marks more keeps none ∙ sym (past_head owner mark marks apart))
    (λ f. ap (λ ms. mark_of owner (ms ++ more)) (cond-false (p mark) (mark ∷ filter p marks) (filter p marks) f)
    ∙ kept_mark owner p marks more keeps none ∙ sym (past_head owner mark marks apart)))
    (cases_eq mark.owner owner)

-- a filter that drops all marks of an owner leaves what is behind them
dropped_mark : (owner : ℕ) (p : Mark → Bool) (marks more : List Mark) → ((mark : Mark) → p mark ≡ true → mark.owner ≢ owner)
    → mark_of owner (filter p marks ++ more) ≡ mark_of owner more
unfolding mark_of
dropped_mark owner p [] more drops = refl
dropped_mark owner p (mark ∷ marks) more drops =
    by_test (p mark)
    (λ t. ap (λ ms. mark_of owner (ms ++ more)) (cond-true (p mark) (mark ∷ filter p marks) (filter p marks) t)
    ∙ past_head owner mark (filter p marks ++ more) (drops mark t) ∙ dropped_mark owner p marks more drops)
    (λ f. ap (λ ms. mark_of owner (ms ++ more)) (cond-false (p mark) (mark ∷ filter p marks) (filter p marks) f) ∙ dropped_mark owner p marks more drops)

nothing_behind : (owner : ℕ) (marks : List Mark) → mark_of owner (marks ++ []) ≡ mark_of owner marks
unfolding mark_of
nothing_behind owner [] = refl
nothing_behind owner (mark ∷ marks) = ap (cond (eqb mark.owner owner) mark.number) (nothing_behind owner marks)

no_mark : (owner : ℕ) → mark_of owner [] ≡ 0
unfolding mark_of
no_mark owner = refl

abbrev lesser : ℕ → Mark → Bool
lesser owner mark = ltb mark.owner owner

abbrev greater : ℕ → Mark → Bool
greater owner mark = ltb owner mark.owner

pub mark_lifted : (owner number : ℕ) (marks : List Mark) → mark_of owner (lift owner number marks) ≡ max (mark_of owner marks) number
unfolding lift
mark_lifted owner number marks =
    dropped_mark owner (lesser owner) marks (record { owner = owner; number = max (mark_of owner marks) number } ∷ filter (greater owner) marks)
    (λ mark t same. let l = ltb-true mark.owner owner t in omega arith)
    ∙ at_head owner (record { owner = owner; number = max (mark_of owner marks) number }) (filter (greater owner) marks) refl

pub lifted_other : (owner other number : ℕ) (marks : List Mark) → owner ≢ other → mark_of owner (lift other number marks) ≡ mark_of owner marks
unfolding lift
lifted_other owner other number marks apart =
    let new : Mark = record { owner = other; number = max (mark_of other marks) number } in
    let rest : List Mark = filter (greater other) marks in
    let past : mark_of owner (new ∷ rest) ≡ mark_of owner rest = past_head owner new rest (λ e. apart (sym e)) in
    let whole : mark_of owner rest ≡ mark_of owner (rest ++ []) = sym (nothing_behind owner rest) in
    ⊎_elim
    (λ low.
    kept_mark owner (lesser other) marks (new ∷ rest) (λ mark e. lt-ltb mark.owner other (omega arith))
    (past ∙ whole ∙ dropped_mark owner (greater other) marks [] (λ mark t same. let l = ltb-true other mark.owner t in omega arith) ∙ no_mark owner))
    (λ high.
    dropped_mark owner (lesser other) marks (new ∷ rest) (λ mark t same. let l = ltb-true mark.owner other t in omega arith)
    ∙ past ∙ whole ∙ kept_mark owner (greater other) marks [] (λ mark e. lt-ltb other mark.owner (omega arith)) (no_mark owner))
    (cases_lt owner other)

pub lift_grows : (owner other number : ℕ) (marks : List Mark) → mark_of owner marks ≤ mark_of owner (lift other number marks)
lift_grows = grows_by lift mark_lifted lifted_other

pub lift_all_grows : (owner : ℕ) (more marks : List Mark) → mark_of owner marks ≤ mark_of owner (lift_all more marks)
unfolding lift_all
lift_all_grows owner [] marks = omega arith
lift_all_grows owner (mark ∷ more) marks =
    omega (arith, lift_grows owner mark.owner mark.number marks, lift_all_grows owner more (lift mark.owner mark.number marks))

pub lift_all_reaches : (owner : ℕ) (more marks : List Mark) → mark_of owner more ≤ mark_of owner (lift_all more marks)
unfolding lift_all mark_of
lift_all_reaches owner [] marks = omega arith
lift_all_reaches owner (mark ∷ more) marks =
    ⊎_elim
    (λ same.
    let lifted : mark_of owner (lift mark.owner mark.number marks) ≡ max (mark_of owner marks) mark.number = subst (λ o. mark_of owner (lift o mark.number marks) ≡ max (mark_of owner marks) mark.number) (sym same) (mark_lifted owner mark.number marks) in
    omega (arith, at_head owner mark more same, lifted, lift_all_grows owner more (lift mark.owner mark.number marks)))
    (λ apart. omega (arith, past_head owner mark more apart, lift_all_reaches owner more (lift mark.owner mark.number marks)))
    (cases_eq mark.owner owner)

-- what holds of each mark holds of an owner's number, if that is not 0
mark_or_none : (P : ℕ → ℕ → Type 0) (owner : ℕ) (marks : List Mark) → EachMark P marks → (mark_of owner marks ≡ 0) ⊎ P owner (mark_of owner marks)
unfolding mark_of
mark_or_none P owner [] each = inl refl
mark_or_none P owner (mark ∷ marks) each =
    ⊎_elim
    (λ same. inr (subst (P owner) (sym (at_head owner mark marks same)) (subst (λ o. P o mark.number) same (each mark (inl refl)))))
    (λ apart. subst (λ n. (n ≡ 0) ⊎ P owner n) (sym (past_head owner mark marks apart)) (mark_or_none P owner marks (λ m k. each m (inr k))))
    (cases_eq mark.owner owner)

pub lift_each : (P : ℕ → ℕ → Type 0) (owner number : ℕ) (marks : List Mark) → P owner number → EachMark P marks → EachMark P (lift owner number marks)
unfolding lift
lift_each P owner number marks here each mark h =
    let new : Mark = record { owner = owner; number = max (mark_of owner marks) number } in
    let there : P owner (max (mark_of owner marks) number) =
    ⊎_elim
    (λ none. let e : number ≡ max (mark_of owner marks) number = omega arith in subst (P owner) e here)
    (λ some. max_keeps (P owner) (mark_of owner marks) number some here)
    (mark_or_none P owner marks each) in
    ⊎_elim
    (λ a. each mark (has_filter (lesser owner) marks mark a).0)
    (λ b. ⊎_elim (λ e. subst (λ (m : Mark). P m.owner m.number) e there) (λ c. each mark (has_filter (greater owner) marks mark c).0) b)
    (has_cases (filter (lesser owner) marks) (new ∷ filter (greater owner) marks) mark h)

pub lift_all_each : (P : ℕ → ℕ → Type 0) (more marks : List Mark) → EachMark P more → EachMark P marks → EachMark P (lift_all more marks)
unfolding lift_all
lift_all_each P [] marks em each = each
lift_all_each P (mark ∷ more) marks em each =
    lift_all_each P more (lift mark.owner mark.number marks) (λ m k. em m (inr k)) (lift_each P mark.owner mark.number marks (em mark (inl refl)) each)

-- ---- calls

placed_step : (b : Bool) (done other : Done) (dones rest : List Done) (x : Done) → Has (cond b (done ∷ other ∷ dones) (other ∷ rest)) x → (Has rest x → Has dones x ⊎ (done ≡ x)) → Has (other ∷ dones) x ⊎ (done ≡ x)
placed_step true done other dones rest x h next = ⊎_elim (λ e. inr e) (λ more. inl more) h
placed_step false done other dones rest x h next = ⊎_elim (λ e. inl (inl e)) (λ more. ⊎_elim (λ a. inl (inr a)) (λ e. inr e) (next more)) h

pub placed_has : (done : Done) (dones : List Done) (x : Done) → Has (insert_call done dones) x → Has dones x ⊎ (done ≡ x)
unfolding insert_call
placed_has done [] x h = ⊎_elim (λ e. inr e) (λ n. absurd n) h
placed_has done (other ∷ dones) x h = placed_step (ltb done.caller other.caller) done other dones (insert_call done dones) x h (placed_has done dones x)

has_step : (b : Bool) (done other : Done) (dones rest : List Done) (x : Done) → Has (other ∷ dones) x → (Has dones x → Has rest x) → Has (cond b (done ∷ other ∷ dones) (other ∷ rest)) x
has_step true done other dones rest x h next = inr h
has_step false done other dones rest x h next = ⊎_elim (λ e. inl e) (λ more. inr (next more)) h

pub has_placed : (done : Done) (dones : List Done) (x : Done) → Has dones x → Has (insert_call done dones) x
unfolding insert_call
has_placed done [] x h = absurd h
has_placed done (other ∷ dones) x h = has_step (ltb done.caller other.caller) done other dones (insert_call done dones) x h (has_placed done dones x)

itself_step : (b : Bool) (done other : Done) (dones rest : List Done) → Has rest done → Has (cond b (done ∷ other ∷ dones) (other ∷ rest)) done
itself_step true done other dones rest h = inl refl
itself_step false done other dones rest h = inr h

pub placed_itself : (done : Done) (dones : List Done) → Has (insert_call done dones) done
unfolding insert_call
placed_itself done [] = inl refl
placed_itself done (other ∷ dones) = itself_step (ltb done.caller other.caller) done other dones (insert_call done dones) (placed_itself done dones)

pub placed_all_has : (more dones : List Done) (x : Done) → Has (insert_calls more dones) x → Has dones x ⊎ Has more x
unfolding insert_calls
placed_all_has [] dones x h = inl h
placed_all_has (done ∷ more) dones x h =
    ⊎_elim (λ a. ⊎_elim (λ there. inl there) (λ e. inr (inl e)) (placed_has done dones x a)) (λ b. inr (inr b)) (placed_all_has more (insert_call done dones) x h)

pub has_placed_all : (more dones : List Done) (x : Done) → Has dones x → Has (insert_calls more dones) x
unfolding insert_calls
has_placed_all [] dones x h = h
has_placed_all (done ∷ more) dones x h = has_placed_all more (insert_call done dones) x (has_placed done dones x h)

pub placed_all_itself : (more dones : List Done) (x : Done) → Has more x → Has (insert_calls more dones) x
unfolding insert_calls
placed_all_itself [] dones x h = absurd h
placed_all_itself (done ∷ more) dones x h =
    ⊎_elim (λ e. has_placed_all more (insert_call done dones) x (subst (Has (insert_call done dones)) e (placed_itself done dones)))
    (λ rest. placed_all_itself more (insert_call done dones) x rest) h
