-- One caller's calls after another's, as one list of calls.
use Rattle.std.proofs.Common.{◌≡◌, ℕ, ◌<◌, ◌≤◌, Bool, true, false, cond, ltb, refl, sym, ◌∙◌, ap, subst, arith, List, [], ◌∷◌, ◌++◌, append-nil}
use Rattle.std.specs.Prelude.{filter}
use Rattle.std.proofs.lemmas.Bool.{lt-ltb, le-ltb, ltb-true, ltb-false, cond-true, cond-false}
use Rattle.chord_map.proofs.Lists.{by_test}
use Rattle.chord_map.proofs.Each.{Each, Each-append, Each-map, Each-filter, Each_any, Each_filter_with}
use Rattle.chord_map.specs.declared.done.Done.{Done}
use Rattle.chord_segment.specs.declared.mark.Mark.{Mark}
use Rattle.chord_segment.specs.Marks.{mark_of, lift, lift_all}
use Rattle.chord_segment.specs.Segment.{insert_call, insert_calls, calls_above}
use Rattle.chord_segment.specs.Callers.{OfCaller, mark_in, marks_in, calls_in, IsOwn, IsGrouped}
use Rattle.chord_segment.proofs.SegmentRules.{Each_placed}
use Rattle.chord_segment.proofs.Grouped.{owned, calls_each, calls-append, marks-append}

-- ---- calls that rise by caller

abbrev pub Rising : List Done → Type 0
Rising [] = Unit {0}
Rising (x ∷ xs) = Each (λ (y : Done). x.caller ≤ y.caller) xs × Rising xs

rising_own : (caller : ℕ) (xs ys : List Done) → Each (λ (x : Done). x.caller ≡ caller) xs → Each (λ (y : Done). caller < y.caller) ys → Rising ys → Rising (xs ++ ys)
rising_own caller [] ys o h r = r
rising_own caller (x ∷ xs) ys o h r = (
  Each-append (λ (y : Done). x.caller ≤ y.caller) xs ys
      (Each-map (λ (y : Done). y.caller ≡ caller) (λ (y : Done). x.caller ≤ y.caller) (λ y e. let f = o.0 in omega arith) xs o.1)
      (Each-map (λ (y : Done). caller < y.caller) (λ (y : Done). x.caller ≤ y.caller) (λ y l. let f = o.0 in omega arith) ys h),
  rising_own caller xs ys o.1 h r,
)

pub rising : (xs : List OfCaller) → IsGrouped xs → Rising (calls_in xs)
rising [] g = tt
rising (x ∷ xs) g = rising_own x.caller x.kept (calls_in xs) (g.0).own_calls (calls_each (λ n. x.caller < n) xs (owned xs g.2) g.1) (rising xs g.2)

front : (done : Done) (ys : List Done) → Each (λ (y : Done). done.caller < y.caller) ys → insert_call done ys ≡ done ∷ ys
unfolding insert_call
front done [] h = refl
front done (y ∷ ys) h = cond-true (ltb done.caller y.caller) (done ∷ y ∷ ys) (y ∷ insert_call done ys) (lt-ltb done.caller y.caller h.0)

past : (done y : Done) (ys : List Done) → ltb done.caller y.caller ≡ false → insert_call done (y ∷ ys) ≡ y ∷ insert_call done ys
unfolding insert_call
past done y ys f = cond-false (ltb done.caller y.caller) (done ∷ y ∷ ys) (y ∷ insert_call done ys) f

before : (done y : Done) (ys : List Done) → ltb done.caller y.caller ≡ true → insert_call done (y ∷ ys) ≡ done ∷ y ∷ ys
unfolding insert_call
before done y ys t = cond-true (ltb done.caller y.caller) (done ∷ y ∷ ys) (y ∷ insert_call done ys) t

above_all : (done y : Done) (ys : List Done) → ltb done.caller y.caller ≡ true → Each (λ (z : Done). y.caller ≤ z.caller) ys → Each (λ (z : Done). done.caller < z.caller) (y ∷ ys)
above_all done y ys t h =
    let l = ltb-true done.caller y.caller t in
    (l, Each-map (λ (z : Done). y.caller ≤ z.caller) (λ (z : Done). done.caller < z.caller) (λ z k. omega arith) ys h)

pub rising_placed : (done : Done) (ys : List Done) → Rising ys → Rising (insert_call done ys)
unfolding insert_call
rising_placed done [] r = (tt, tt)
rising_placed done (y ∷ ys) r =
    by_test (ltb done.caller y.caller)
    (λ t. subst Rising (sym (before done y ys t))
    (Each-map (λ (z : Done). done.caller < z.caller) (λ (z : Done). done.caller ≤ z.caller) (λ z l. omega arith) (y ∷ ys) (above_all done y ys t r.0), r))
    (λ f. let l = ltb-false done.caller y.caller f in
    subst Rising (sym (past done y ys f)) (Each_placed (λ (z : Done). y.caller ≤ z.caller) ys done r.0 (omega arith), rising_placed done ys r.1))

pub rising_placed_all : (dones ys : List Done) → Rising ys → Rising (insert_calls dones ys)
unfolding insert_calls
rising_placed_all [] ys r = r
rising_placed_all (done ∷ dones) ys r = rising_placed_all dones (insert_call done ys) (rising_placed done ys r)

rising_step : (b : Bool) (x : Done) (xs : List Done) → Each (λ (y : Done). x.caller ≤ y.caller) xs → Rising xs → Rising (cond b (x ∷ xs) xs)
rising_step true x xs h r = (h, r)
rising_step false x xs h r = r

rising_filter : (p : Done → Bool) (xs : List Done) → Rising xs → Rising (filter p xs)
rising_filter p [] r = tt
rising_filter p (x ∷ xs) r = rising_step (p x) x (filter p xs) (Each-filter (λ (y : Done). x.caller ≤ y.caller) p xs r.0) (rising_filter p xs r.1)

-- ---- what passes a test, of calls that were placed

yes : (p : Done → Bool) (x : Done) (xs : List Done) → p x ≡ true → filter p (x ∷ xs) ≡ x ∷ filter p xs
yes p x xs t = cond-true (p x) (x ∷ filter p xs) (filter p xs) t

no : (p : Done → Bool) (x : Done) (xs : List Done) → p x ≡ false → filter p (x ∷ xs) ≡ filter p xs
no p x xs f = cond-false (p x) (x ∷ filter p xs) (filter p xs) f

filter_placed_yes : (p : Done → Bool) (done : Done) (ys : List Done) → Rising ys → p done ≡ true → filter p (insert_call done ys) ≡ insert_call done (filter p ys)
unfolding insert_call
filter_placed_yes p done [] r t = yes p done [] t
filter_placed_yes p done (y ∷ ys) r t =
    by_test (ltb done.caller y.caller)
    (λ less. ap (filter p) (before done y ys less) ∙ yes p done (y ∷ ys) t
    ∙ sym (front done (filter p (y ∷ ys)) (Each-filter (λ (z : Done). done.caller < z.caller) p (y ∷ ys) (above_all done y ys less r.0))))
    (λ more. ap (filter p) (past done y ys more)
    ∙ by_test (p y)
    (λ here. yes p y (insert_call done ys) here ∙ ap (λ (zs : List Done). y ∷ zs) (filter_placed_yes p done ys r.1 t)
    ∙ sym (past done y (filter p ys) more) ∙ ap (insert_call done) (sym (yes p y ys here)))
    (λ gone. no p y (insert_call done ys) gone ∙ filter_placed_yes p done ys r.1 t ∙ ap (insert_call done) (sym (no p y ys gone))))

filter_placed_no : (p : Done → Bool) (done : Done) (ys : List Done) → p done ≡ false → filter p (insert_call done ys) ≡ filter p ys
unfolding insert_call
filter_placed_no p done [] f = no p done [] f
filter_placed_no p done (y ∷ ys) f =
    by_test (ltb done.caller y.caller)
    (λ less. ap (filter p) (before done y ys less) ∙ no p done (y ∷ ys) f)
    (λ more. ap (filter p) (past done y ys more)
    ∙ by_test (p y)
    (λ here. yes p y (insert_call done ys) here ∙ ap (λ (zs : List Done). y ∷ zs) (filter_placed_no p done ys f) ∙ sym (yes p y ys here))
    (λ gone. no p y (insert_call done ys) gone ∙ filter_placed_no p done ys f ∙ sym (no p y ys gone)))

filter_placed_all : (p : Done → Bool) (dones ys : List Done) → Rising ys → filter p (insert_calls dones ys) ≡ insert_calls (filter p dones) (filter p ys)
unfolding insert_calls
filter_placed_all p [] ys r = refl
filter_placed_all p (done ∷ dones) ys r =
    filter_placed_all p dones (insert_call done ys) (rising_placed done ys r)
    ∙ by_test (p done)
    (λ t. ap (insert_calls (filter p dones)) (filter_placed_yes p done ys r t) ∙ ap (λ (zs : List Done). insert_calls zs (filter p ys)) (sym (yes p done dones t)))
    (λ f. ap (insert_calls (filter p dones)) (filter_placed_no p done ys f) ∙ ap (λ (zs : List Done). insert_calls zs (filter p ys)) (sym (no p done dones f)))

-- filtering by a weaker test first changes nothing
filter_within : (p q : Done → Bool) (xs : List Done) → ((x : Done) → q x ≡ false → p x ≡ false) → filter p (filter q xs) ≡ filter p xs
filter_within p q [] less = refl
filter_within p q (x ∷ xs) less =
    by_test (q x)
    (λ t. ap (filter p) (yes q x xs t)
    ∙ by_test (p x)
    (λ here. yes p x (filter q xs) here ∙ ap (λ (zs : List Done). x ∷ zs) (filter_within p q xs less) ∙ sym (yes p x xs here))
    (λ gone. no p x (filter q xs) gone ∙ filter_within p q xs less ∙ sym (no p x xs gone)))
    (λ f. ap (filter p) (no q x xs f) ∙ filter_within p q xs less ∙ sym (no p x xs (less x f)))

-- ---- one entry after another

lift_all-append : (more others marks : List Mark) → lift_all (more ++ others) marks ≡ lift_all others (lift_all more marks)
unfolding lift_all
lift_all-append [] others marks = refl
lift_all-append (mark ∷ more) others marks = lift_all-append more others (lift mark.owner mark.number marks)

placed_all-append : (more others dones : List Done) → insert_calls (more ++ others) dones ≡ insert_calls others (insert_calls more dones)
unfolding insert_calls
placed_all-append [] others dones = refl
placed_all-append (done ∷ more) others dones = placed_all-append more others (insert_call done dones)

-- the marks after one more entry
pub marks_more : (first : List Mark) (more : List OfCaller) (own : OfCaller) (old new : List Mark) → old ≡ lift_all (marks_in more) first
    → new ≡ lift_all (mark_in own) old → new ≡ lift_all (marks_in (more ++ own ∷ [])) first
marks_more first more own old new e f =
    f ∙ ap (lift_all (mark_in own)) e ∙ sym (lift_all-append (marks_in more) (mark_in own) first)
    ∙ ap (λ (ms : List Mark). lift_all ms first) (ap (λ (ms : List Mark). marks_in more ++ ms) (sym (append-nil (mark_in own))) ∙ sym (marks-append more (own ∷ [])))

-- the calls after one more entry
pub calls_more : (first : List Done) (more : List OfCaller) (own : OfCaller) (marks new_marks : List Mark) (old new : List Done) → Rising first
    → ((owner : ℕ) → mark_of owner marks ≤ mark_of owner new_marks)
    → old ≡ calls_above marks (insert_calls (calls_in more) first) → new ≡ calls_above new_marks (insert_calls own.kept old)
    → new ≡ calls_above new_marks (insert_calls (calls_in (more ++ own ∷ [])) first)
unfolding calls_above
calls_more first more own marks new_marks old new r grows e f =
    let p : Done → Bool = λ x. ltb (mark_of x.caller new_marks) x.number in
    let q : Done → Bool = λ x. ltb (mark_of x.caller marks) x.number in
    let all : List Done = insert_calls (calls_in more) first in
    let r' : Rising all = rising_placed_all (calls_in more) first r in
    let less : (x : Done) → q x ≡ false → p x ≡ false =
    λ x low. let l = ltb-false (mark_of x.caller marks) x.number low in let g = grows x.caller in le-ltb (mark_of x.caller new_marks) x.number (omega arith) in
    f ∙ ap (λ (ds : List Done). filter p (insert_calls own.kept ds)) e
    ∙ filter_placed_all p own.kept (filter q all) (rising_filter q all r')
    ∙ ap (insert_calls (filter p own.kept)) (filter_within p q all less)
    ∙ sym (filter_placed_all p own.kept all r')
    ∙ ap (filter p) (sym (placed_all-append (calls_in more) own.kept first))
    ∙ ap (λ (ds : List Done). filter p (insert_calls ds first)) (ap (λ (ds : List Done). calls_in more ++ ds) (sym (append-nil own.kept)) ∙ sym (calls-append more (own ∷ [])))

-- the calls that `calls_above` leaves are above the floors
pub are_above : (marks : List Mark) (dones : List Done) → Each (λ (done : Done). mark_of done.caller marks < done.number) (calls_above marks dones)
unfolding calls_above
are_above marks dones =
    Each_filter_with (λ (done : Done). Unit {0}) (λ (done : Done). mark_of done.caller marks < done.number) (λ (done : Done). ltb (mark_of done.caller marks) done.number)
    (λ done u t. ltb-true (mark_of done.caller marks) done.number t) dones (Each_any dones)

-- if all calls are above the floors, `calls_above` drops none
pub all_above : (marks : List Mark) (dones : List Done) → Each (λ (done : Done). mark_of done.caller marks < done.number) dones → dones ≡ calls_above marks dones
unfolding calls_above
all_above marks [] h = refl
all_above marks (x ∷ xs) h = ap (λ (zs : List Done). x ∷ zs) (all_above marks xs h.1) ∙ sym (yes (λ (done : Done). ltb (mark_of done.caller marks) done.number) x xs (lt-ltb (mark_of x.caller marks) x.number h.0))

-- a shown entry has one mark
pub lift_shown : (own : OfCaller) (marks : List Mark) → own.shown ≡ true → lift own.caller own.floor marks ≡ lift_all (mark_in own) marks
unfolding lift_all
lift_shown own marks e = rw e refl

-- an entry that is not shown changes nothing
pub marks_hidden : (own : OfCaller) (marks : List Mark) → own.shown ≡ false → marks ≡ lift_all (mark_in own) marks
unfolding lift_all
marks_hidden own marks e = rw e refl

pub calls_hidden : (own : OfCaller) (marks : List Mark) (dones : List Done) → IsOwn own → own.shown ≡ false
    → Each (λ (done : Done). mark_of done.caller marks < done.number) dones → dones ≡ calls_above (lift_all (mark_in own) marks) (insert_calls own.kept dones)
unfolding insert_calls
calls_hidden own marks dones o e h =
    all_above marks dones h ∙ ap (λ (ms : List Mark). calls_above ms dones) (marks_hidden own marks e)
    ∙ ap (λ (ds : List Done). calls_above (lift_all (mark_in own) marks) (insert_calls ds dones)) (sym (o.no_calls e))
