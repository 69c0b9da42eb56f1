-- The entries of callers as one list of marks and one of calls.
use Rattle.std.proofs.Common.{◌≡◌, ◌≢◌, ℕ, zero, suc, ◌<◌, ◌≤◌, Bool, true, false, cond, eqb, leb, ◌&&◌, inl, inr, refl, sym, ◌∙◌, ap, subst, arith, List, [], ◌∷◌, ◌++◌, Some, None, length, get_or, set, take, drop, append_assoc, Result, Ok, Err, ◌⊎◌}
use Rattle.std.specs.Prelude.{is_ok, if◌then◌else◌}
use Rattle.std.specs.Prelude.{find, insert}
use Rattle.std.proofs.lemmas.List.{take-append-drop}
use Rattle.std.proofs.lemmas.Bool.{ne_eqb, le-leb, cond-true, cond-false}
use Rattle.chord_map.proofs.Each.{Each, Each-append, Each-map, Each-set, Each-insert}
use Rattle.chord_map.specs.declared.done.Done.{Done}
use Rattle.chord_segment.specs.declared.mark.Mark.{Mark}
use Rattle.chord_map.specs.History.{done_at}
use Rattle.chord_segment.specs.Marks.{mark_of}
use Rattle.chord_segment.specs.Segment.{Segment, past_of, past_at}
use Rattle.chord_segment.specs.Segment.Past.{Seen}
use Rattle.chord_segment.specs.Callers.{OfCaller, mark_in, marks_in, calls_in, IsOwn, IsGrouped, IsGapAt}
use Rattle.chord_segment.proofs.SegmentLemmas.{at_head, past_head}

-- ---- callers below and above one

abbrev pub Below : ℕ → List OfCaller → Type 0
Below caller callers = Each (λ (own : OfCaller). own.caller < caller) callers

abbrev pub Above : ℕ → List OfCaller → Type 0
Above caller callers = Each (λ (own : OfCaller). caller < own.caller) callers

pub each_at : (P : OfCaller → Type 0) (xs : List OfCaller) (i : ℕ) (d : OfCaller) → Each P xs → i < length xs → P (get_or xs i d)
each_at P [] i d h s = absurd (omega arith)
each_at P (x ∷ xs) zero d h s = h.0
each_at P (x ∷ xs) (suc i) d h s = each_at P xs i d h.1 (omega arith)

pub each_take : (P : OfCaller → Type 0) (i : ℕ) (xs : List OfCaller) → Each P xs → Each P (take i xs)
each_take P zero xs h = tt
each_take P (suc i) [] h = tt
each_take P (suc i) (x ∷ xs) h = (h.0, each_take P i xs h.1)

pub each_drop : (P : OfCaller → Type 0) (i : ℕ) (xs : List OfCaller) → Each P xs → Each P (drop i xs)
each_drop P zero xs h = h
each_drop P (suc i) [] h = tt
each_drop P (suc i) (x ∷ xs) h = each_drop P i xs h.1

-- a list is what is before an index, at it and behind it
pub split_at : (xs : List OfCaller) (i : ℕ) (d : OfCaller) → i < length xs → xs ≡ take i xs ++ get_or xs i d ∷ drop (suc i) xs
split_at [] i d s = absurd (omega arith)
split_at (x ∷ xs) zero d s = refl
split_at (x ∷ xs) (suc i) d s = ap (λ (ys : List OfCaller). x ∷ ys) (split_at xs i d (omega arith))

pub before_own : (caller : ℕ) (xs : List OfCaller) (i : ℕ) (d : OfCaller) → IsGrouped xs → i < length xs → (get_or xs i d).caller ≡ caller → Below caller (take i xs)
before_own caller [] i d g s e = absurd (omega arith)
before_own caller (x ∷ xs) zero d g s e = tt
before_own caller (x ∷ xs) (suc i) d g s e =
    let less = each_at (λ (o : OfCaller). x.caller < o.caller) xs i d g.1 (omega arith) in
    (omega arith, before_own caller xs i d g.2 (omega arith) e)

pub behind_own : (caller : ℕ) (xs : List OfCaller) (i : ℕ) (d : OfCaller) → IsGrouped xs → i < length xs → (get_or xs i d).caller ≡ caller → Above caller (drop (suc i) xs)
behind_own caller [] i d g s e = absurd (omega arith)
behind_own caller (x ∷ xs) zero d g s e = Each-map _ (λ (o : OfCaller). caller < o.caller) (λ o h. omega arith) xs g.1
behind_own caller (x ∷ xs) (suc i) d g s e = behind_own caller xs i d g.2 (omega arith) e

pub owned : (xs : List OfCaller) → IsGrouped xs → Each IsOwn xs
owned [] g = tt
owned (x ∷ xs) g = (g.0, owned xs g.2)

-- ---- the marks and the calls of some callers

pub calls-append : (xs ys : List OfCaller) → calls_in (xs ++ ys) ≡ calls_in xs ++ calls_in ys
calls-append [] ys = refl
calls-append (x ∷ xs) ys = ap (λ (ds : List Done). x.kept ++ ds) (calls-append xs ys) ∙ sym (append_assoc x.kept (calls_in xs) (calls_in ys))

pub marks-append : (xs ys : List OfCaller) → marks_in (xs ++ ys) ≡ marks_in xs ++ marks_in ys
marks-append [] ys = refl
marks-append (x ∷ xs) ys = ap (λ (ms : List Mark). mark_in x ++ ms) (marks-append xs ys) ∙ sym (append_assoc (mark_in x) (marks_in xs) (marks_in ys))

one_mark : (b : Bool) (mark : Mark) (P : Mark → Type 0) → P mark → Each P (cond b (mark ∷ []) [])
one_mark true mark P h = (h, tt)
one_mark false mark P h = tt

pub mark_each : (own : OfCaller) (P : Mark → Type 0) → P (record { owner = own.caller; number = own.floor }) → Each P (mark_in own)
mark_each own P h = one_mark own.shown (record { owner = own.caller; number = own.floor }) P h

pub marks_each : (P : ℕ → Type 0) (xs : List OfCaller) → Each (λ (own : OfCaller). P own.caller) xs → Each (λ (mark : Mark). P mark.owner) (marks_in xs)
marks_each P [] h = tt
marks_each P (x ∷ xs) h = Each-append (λ (mark : Mark). P mark.owner) (mark_in x) (marks_in xs) (mark_each x (λ (mark : Mark). P mark.owner) h.0) (marks_each P xs h.1)

pub calls_each : (P : ℕ → Type 0) (xs : List OfCaller) → Each IsOwn xs → Each (λ (own : OfCaller). P own.caller) xs → Each (λ (done : Done). P done.caller) (calls_in xs)
calls_each P [] o h = tt
calls_each P (x ∷ xs) o h =
    Each-append (λ (done : Done). P done.caller) x.kept (calls_in xs)
    (Each-map (λ (done : Done). done.caller ≡ x.caller) (λ (done : Done). P done.caller) (λ done e. subst P (sym e) h.0) x.kept (o.0).own_calls)
    (calls_each P xs o.1 h.1)

-- ---- looking up

pub mark_past : (caller : ℕ) (lows marks : List Mark) → Each (λ (mark : Mark). mark.owner < caller) lows → mark_of caller (lows ++ marks) ≡ mark_of caller marks
mark_past caller [] marks b = refl
mark_past caller (x ∷ lows) marks b = past_head caller x (lows ++ marks) (let l = b.0 in omega arith) ∙ mark_past caller lows marks b.1

pub mark_none : (caller : ℕ) (highs : List Mark) → Each (λ (mark : Mark). caller < mark.owner) highs → mark_of caller highs ≡ 0
unfolding mark_of
mark_none caller [] a = refl
mark_none caller (x ∷ highs) a = past_head caller x highs (let l = a.0 in omega arith) ∙ mark_none caller highs a.1

not_call : (caller number : ℕ) (done : Done) → done.caller ≢ caller → (eqb done.caller caller && eqb done.number number) ≡ false
not_call caller number done apart = ap (λ b. b && eqb done.number number) (ne_eqb done.caller caller apart)

find_past : (p : Done → Bool) (xs ys : List Done) → Each (λ (x : Done). p x ≡ false) xs → find p (xs ++ ys) ≡ find p ys
find_past p [] ys h = refl
find_past p (x ∷ xs) ys h = cond-false (p x) (Some x) (find p (xs ++ ys)) h.0 ∙ find_past p xs ys h.1

find_none : (p : Done → Bool) (xs : List Done) → Each (λ (x : Done). p x ≡ false) xs → find p xs ≡ None
find_none p [] h = refl
find_none p (x ∷ xs) h = cond-false (p x) (Some x) (find p xs) h.0 ∙ find_none p xs h.1

find_front : (p : Done → Bool) (xs ys : List Done) → find p ys ≡ None → find p (xs ++ ys) ≡ find p xs
find_front p [] ys e = e
find_front p (x ∷ xs) ys e = ap (cond (p x) (Some x)) (find_front p xs ys e)

pub done_past : (caller number : ℕ) (lows dones : List Done) → Each (λ (done : Done). done.caller < caller) lows → done_at caller number (lows ++ dones) ≡ done_at caller number dones
unfolding done_at
done_past caller number lows dones b =
    find_past _ lows dones
    (Each-map (λ (done : Done). done.caller < caller) (λ (done : Done). (eqb done.caller caller && eqb done.number number) ≡ false) (λ done l. not_call caller number done (omega arith)) lows b)

pub done_none : (caller number : ℕ) (highs : List Done) → Each (λ (done : Done). caller < done.caller) highs → done_at caller number highs ≡ None
unfolding done_at
done_none caller number highs a =
    find_none _ highs
    (Each-map (λ (done : Done). caller < done.caller) (λ (done : Done). (eqb done.caller caller && eqb done.number number) ≡ false) (λ done l. not_call caller number done (omega arith)) highs a)

pub done_front : (caller number : ℕ) (dones more : List Done) → done_at caller number more ≡ None → done_at caller number (dones ++ more) ≡ done_at caller number dones
unfolding done_at
done_front caller number dones more e = find_front _ dones more e

-- at the caller's entry, shown or not
mark_here : (b : Bool) (caller floor : ℕ) (marks : List Mark) → mark_of caller marks ≡ 0 → (b ≡ false → floor ≡ 0)
    → mark_of caller (cond b (record { owner = caller; number = floor } ∷ []) [] ++ marks) ≡ floor
mark_here true caller floor marks none blank = at_head caller (record { owner = caller; number = floor }) marks refl
mark_here false caller floor marks none blank = none ∙ sym (blank refl)

pub mark_at : (own : OfCaller) (marks : List Mark) → IsOwn own → mark_of own.caller marks ≡ 0 → mark_of own.caller (mark_in own ++ marks) ≡ own.floor
mark_at own marks o none = mark_here own.shown own.caller own.floor marks none o.no_floor

-- ---- at the caller's index
pub own_floor : (caller : ℕ) (xs : List OfCaller) (i : ℕ) (d : OfCaller) → IsGrouped xs → i < length xs → (get_or xs i d).caller ≡ caller
    → mark_of caller (marks_in xs) ≡ (get_or xs i d).floor
own_floor caller xs i d g s e =
    let own = get_or xs i d in
    let none = mark_none caller (marks_in (drop (suc i) xs)) (marks_each (λ n. caller < n) (drop (suc i) xs) (behind_own caller xs i d g s e)) in
    ap (λ (ys : List OfCaller). mark_of caller (marks_in ys)) (split_at xs i d s)
    ∙ ap (mark_of caller) (marks-append (take i xs) (own ∷ drop (suc i) xs))
    ∙ mark_past caller (marks_in (take i xs)) (marks_in (own ∷ drop (suc i) xs)) (marks_each (λ n. n < caller) (take i xs) (before_own caller xs i d g s e))
    ∙ subst (λ (n : ℕ). mark_of n (marks_in (own ∷ drop (suc i) xs)) ≡ own.floor) e
    (mark_at own (marks_in (drop (suc i) xs)) (each_at IsOwn xs i d (owned xs g) s) (subst (λ (n : ℕ). mark_of n (marks_in (drop (suc i) xs)) ≡ 0) (sym e) none))

pub own_done : (caller number : ℕ) (xs : List OfCaller) (i : ℕ) (d : OfCaller) → IsGrouped xs → i < length xs → (get_or xs i d).caller ≡ caller
    → done_at caller number (calls_in xs) ≡ done_at caller number (get_or xs i d).kept
own_done caller number xs i d g s e =
    let own = get_or xs i d in
    ap (λ (ys : List OfCaller). done_at caller number (calls_in ys)) (split_at xs i d s)
    ∙ ap (done_at caller number) (calls-append (take i xs) (own ∷ drop (suc i) xs))
    ∙ done_past caller number (calls_in (take i xs)) (calls_in (own ∷ drop (suc i) xs)) (calls_each (λ n. n < caller) (take i xs) (each_take IsOwn i xs (owned xs g)) (before_own caller xs i d g s e))
    ∙ done_front caller number own.kept (calls_in (drop (suc i) xs))
    (done_none caller number (calls_in (drop (suc i) xs)) (calls_each (λ n. caller < n) (drop (suc i) xs) (each_drop IsOwn (suc i) xs (owned xs g)) (behind_own caller xs i d g s e)))

-- at the caller's gap
pub gap_floor : (caller : ℕ) (xs : List OfCaller) (i : ℕ) → IsGapAt caller xs i → mark_of caller (marks_in xs) ≡ 0
gap_floor caller xs i gap =
    ap (λ (ys : List OfCaller). mark_of caller (marks_in ys)) (sym (take-append-drop i xs))
    ∙ ap (mark_of caller) (marks-append (take i xs) (drop i xs))
    ∙ mark_past caller (marks_in (take i xs)) (marks_in (drop i xs)) (marks_each (λ n. n < caller) (take i xs) gap.before)
    ∙ mark_none caller (marks_in (drop i xs)) (marks_each (λ n. caller < n) (drop i xs) gap.behind)

pub gap_done : (caller number : ℕ) (xs : List OfCaller) (i : ℕ) → IsGrouped xs → IsGapAt caller xs i → done_at caller number (calls_in xs) ≡ None
gap_done caller number xs i g gap =
    ap (λ (ys : List OfCaller). done_at caller number (calls_in ys)) (sym (take-append-drop i xs))
    ∙ ap (done_at caller number) (calls-append (take i xs) (drop i xs))
    ∙ done_past caller number (calls_in (take i xs)) (calls_in (drop i xs)) (calls_each (λ n. n < caller) (take i xs) (each_take IsOwn i xs (owned xs g)) gap.before)
    ∙ done_none caller number (calls_in (drop i xs)) (calls_each (λ n. caller < n) (drop i xs) (each_drop IsOwn i xs (owned xs g)) gap.behind)

-- ---- what a segment knows of a call

pub seen_at : (caller number f : ℕ) (segment : Segment) → mark_of caller segment.floors ≡ f → number ≤ f → Seen ≡ past_at caller number segment
unfolding past_at
seen_at caller number f segment e l =
    sym (cond-true (leb number (mark_of caller segment.floors)) Seen (past_of (done_at caller number segment.kept)) (le-leb number (mark_of caller segment.floors) (omega arith)))

-- ---- callers that are changed

pub grouped-set : (xs : List OfCaller) (i : ℕ) (d new : OfCaller) → IsGrouped xs → i < length xs → (get_or xs i d).caller ≡ new.caller → IsOwn new → IsGrouped (set xs i new)
grouped-set [] i d new g s e o = absurd (omega arith)
grouped-set (x ∷ xs) zero d new g s e o = (o, Each-map (λ (y : OfCaller). x.caller < y.caller) (λ (y : OfCaller). new.caller < y.caller) (λ y l. omega arith) xs g.1, g.2)
grouped-set (x ∷ xs) (suc i) d new g s e o =
    let less = each_at (λ (y : OfCaller). x.caller < y.caller) xs i d g.1 (omega arith) in
    (g.0, Each-set (λ (y : OfCaller). x.caller < y.caller) xs i new g.1 (omega arith), grouped-set xs i d new g.2 (omega arith) e o)

pub grouped-insert : (xs : List OfCaller) (i : ℕ) (new : OfCaller) → IsGrouped xs → IsGapAt new.caller xs i → IsOwn new → IsGrouped (insert xs i new)
grouped-insert [] zero new g gap o = (o, tt, tt)
grouped-insert [] (suc i) new g gap o = (o, tt, tt)
grouped-insert (x ∷ xs) zero new g gap o = (o, gap.behind, g)
grouped-insert (x ∷ xs) (suc i) new g gap o = (
  g.0,
  Each-insert (λ (y : OfCaller). x.caller < y.caller) xs i new g.1 (gap.before).0,
  grouped-insert xs i new g.2 (record { in_range = let h = gap.in_range in omega arith; before = (gap.before).1; behind = gap.behind }) o,
)

-- inserting an entry that is not shown changes nothing
pub marks_insert : (xs : List OfCaller) (i : ℕ) (new : OfCaller) → new.shown ≡ false → marks_in (insert xs i new) ≡ marks_in xs
marks_insert [] zero new e = rw e refl
marks_insert [] (suc i) new e = rw e refl
marks_insert (x ∷ xs) zero new e = rw e refl
marks_insert (x ∷ xs) (suc i) new e = ap (λ (ms : List Mark). mark_in x ++ ms) (marks_insert xs i new e)

pub calls_insert : (xs : List OfCaller) (i : ℕ) (new : OfCaller) → new.kept ≡ [] → calls_in (insert xs i new) ≡ calls_in xs
calls_insert [] zero new e = rw e refl
calls_insert [] (suc i) new e = rw e refl
calls_insert (x ∷ xs) zero new e = rw e refl
calls_insert (x ∷ xs) (suc i) new e = ap (λ (ds : List Done). x.kept ++ ds) (calls_insert xs i new e)

-- changing a caller's entry to one with an equal mark or equal calls
pub marks_set_same : (xs : List OfCaller) (i : ℕ) (d new : OfCaller) → i < length xs → mark_in new ≡ mark_in (get_or xs i d) → marks_in (set xs i new) ≡ marks_in xs
marks_set_same [] i d new s e = absurd (omega arith)
marks_set_same (x ∷ xs) zero d new s e = ap (λ (ms : List Mark). ms ++ marks_in xs) e
marks_set_same (x ∷ xs) (suc i) d new s e = ap (λ (ms : List Mark). mark_in x ++ ms) (marks_set_same xs i d new (omega arith) e)

pub calls_set_same : (xs : List OfCaller) (i : ℕ) (d new : OfCaller) → i < length xs → new.kept ≡ (get_or xs i d).kept → calls_in (set xs i new) ≡ calls_in xs
calls_set_same [] i d new s e = absurd (omega arith)
calls_set_same (x ∷ xs) zero d new s e = ap (λ (ds : List Done). ds ++ calls_in xs) e
calls_set_same (x ∷ xs) (suc i) d new s e = ap (λ (ds : List Done). x.kept ++ ds) (calls_set_same xs i d new (omega arith) e)

-- an insertion gave this, or nothing changed
pub grown : {A B : Type 0} (r : Result A B) (xs ys zs : List OfCaller) → ys ≡ if is_ok r then zs else xs → (ys ≡ zs) ⊎ (ys ≡ xs)
grown (Ok x) xs ys zs e = inl e
grown (Err x) xs ys zs e = inr e
