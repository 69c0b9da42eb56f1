-- The kept calls after a caller's entry took more calls.
use Rattle.std.proofs.Common.{◌≡◌, ◌≢◌, ℕ, suc, ◌<◌, ◌≤◌, max, Bool, true, false, ltb, refl, sym, ◌∙◌, ap, ap₂, subst, arith, List, [], ◌∷◌, ◌++◌, length, get_or, set, take, drop, append_assoc, append-nil}
use Rattle.std.specs.Prelude.{filter}
use Rattle.std.proofs.lemmas.List.{set_split}
use Rattle.std.proofs.lemmas.List.Elements.{filter-append}
use Rattle.std.proofs.lemmas.Bool.{true≢false, lt-ltb, le-ltb, cond-true, cond-false}
use Rattle.chord_map.proofs.Each.{Each, Each-append, Each-map, Each-filter}
use Rattle.chord_map.specs.declared.done.Done.{Done}
use Rattle.chord_segment.specs.declared.mark.Mark.{Mark}
use Rattle.chord_segment.specs.Marks.{mark_of, lift}
use Rattle.chord_segment.specs.Segment.{insert_call, insert_calls, calls_above}
use Rattle.chord_segment.specs.Callers.{OfCaller, mark_in, marks_in, calls_in, IsOwn, IsGrouped, IsOwnAt, AreAbove}
use Rattle.chord_segment.proofs.Lifting.{mark_lifted, lifted_other}
use Rattle.chord_segment.proofs.SegmentRules.{filter_agree}
use Rattle.chord_segment.proofs.Grouped.{each_at, grouped-set, each_take, each_drop, split_at, before_own, behind_own, owned, calls-append, marks-append, mark_each, marks_each, calls_each, own_floor}

-- ---- one more mark

filter_all : {A : Type 0} (p : A → Bool) (xs : List A) → Each (λ x. p x ≡ true) xs → filter p xs ≡ xs
filter_all p [] h = refl
filter_all p (x ∷ xs) h = cond-true (p x) (x ∷ filter p xs) (filter p xs) h.0 ∙ ap (λ zs. x ∷ zs) (filter_all p xs h.1)

filter_none : {A : Type 0} (p : A → Bool) (xs : List A) → Each (λ x. p x ≡ false) xs → filter p xs ≡ []
filter_none p [] h = refl
filter_none p (x ∷ xs) h = cond-false (p x) (x ∷ filter p xs) (filter p xs) h.0 ∙ filter_none p xs h.1

abbrev lesser : ℕ → Mark → Bool
lesser owner mark = ltb mark.owner owner

abbrev greater : ℕ → Mark → Bool
greater owner mark = ltb owner mark.owner

abbrev Lows : ℕ → List Mark → Type 0
Lows caller marks = Each (λ (mark : Mark). mark.owner < caller) marks

abbrev Mids : ℕ → List Mark → Type 0
Mids caller marks = Each (λ (mark : Mark). mark.owner ≡ caller) marks

abbrev Highs : ℕ → List Mark → Type 0
Highs caller marks = Each (λ (mark : Mark). caller < mark.owner) marks

lessers : (caller : ℕ) (lows mids highs : List Mark) → Lows caller lows → Mids caller mids → Highs caller highs → filter (lesser caller) (lows ++ (mids ++ highs)) ≡ lows
lessers caller lows mids highs b m a =
    let No : Mark → Type 0 = λ mark. lesser caller mark ≡ false in
    filter-append (lesser caller) lows (mids ++ highs)
    ∙ ap₂ (λ (xs ys : List Mark). xs ++ ys)
    (filter_all (lesser caller) lows (Each-map (λ (mark : Mark). mark.owner < caller) (λ (mark : Mark). lesser caller mark ≡ true) (λ mark l. lt-ltb mark.owner caller l) lows b))
    (filter_none (lesser caller) (mids ++ highs) (Each-append No mids highs
    (Each-map (λ (mark : Mark). mark.owner ≡ caller) No (λ mark e. le-ltb mark.owner caller (omega arith)) mids m)
    (Each-map (λ (mark : Mark). caller < mark.owner) No (λ mark l. le-ltb mark.owner caller (omega arith)) highs a)))
    ∙ append-nil lows

greaters : (caller : ℕ) (lows mids highs : List Mark) → Lows caller lows → Mids caller mids → Highs caller highs → filter (greater caller) (lows ++ (mids ++ highs)) ≡ highs
greaters caller lows mids highs b m a =
    let No : Mark → Type 0 = λ mark. greater caller mark ≡ false in
    filter-append (greater caller) lows (mids ++ highs)
    ∙ ap₂ (λ (xs ys : List Mark). xs ++ ys)
    (filter_none (greater caller) lows (Each-map (λ (mark : Mark). mark.owner < caller) No (λ mark l. le-ltb caller mark.owner (omega arith)) lows b))
    (filter-append (greater caller) mids highs
    ∙ ap₂ (λ (xs ys : List Mark). xs ++ ys)
    (filter_none (greater caller) mids (Each-map (λ (mark : Mark). mark.owner ≡ caller) No (λ mark e. le-ltb caller mark.owner (omega arith)) mids m))
    (filter_all (greater caller) highs (Each-map (λ (mark : Mark). caller < mark.owner) (λ (mark : Mark). greater caller mark ≡ true) (λ mark l. lt-ltb caller mark.owner l) highs a)))

-- the mark of the caller between the others
lift_between : (caller number : ℕ) (lows mids highs : List Mark) → Lows caller lows → Mids caller mids → Highs caller highs
    → lift caller number (lows ++ (mids ++ highs)) ≡ lows ++ record { owner = caller; number = max (mark_of caller (lows ++ (mids ++ highs))) number } ∷ highs
unfolding lift
lift_between caller number lows mids highs b m a =
    let new : Mark = record { owner = caller; number = max (mark_of caller (lows ++ (mids ++ highs))) number } in
    ap₂ (λ (xs ys : List Mark). xs ++ new ∷ ys) (lessers caller lows mids highs b m a) (greaters caller lows mids highs b m a)

mark_is : {a b n m : ℕ} → a ≡ b → n ≡ m → ◌≡◌ {A = Mark} (record { owner = a; number = n }) (record { owner = b; number = m })
mark_is e f = λ i. record { owner = e i; number = f i }

shown_mark : (new : OfCaller) (caller number : ℕ) → new.shown ≡ true → new.caller ≡ caller → new.floor ≡ number → mark_in new ≡ record { owner = caller; number = number } ∷ []
shown_mark new caller number h e f = rw h (ap (λ (mark : Mark). mark ∷ []) (mark_is e f))

-- the marks after a caller's entry took a floor
pub own_floors : (caller floor : ℕ) (xs : List OfCaller) (i : ℕ) (d new : OfCaller) → IsGrouped xs → i < length xs → (get_or xs i d).caller ≡ caller
    → new.caller ≡ caller → new.shown ≡ true → new.floor ≡ max (get_or xs i d).floor floor → marks_in (set xs i new) ≡ lift caller floor (marks_in xs)
own_floors caller floor xs i d new g s e f shown h =
    let own = get_or xs i d in
    let lows = take i xs in
    let highs = drop (suc i) xs in
    let parts : marks_in xs ≡ marks_in lows ++ (mark_in own ++ marks_in highs) = ap marks_in (split_at xs i d s) ∙ marks-append lows (own ∷ highs) in
    let number : new.floor ≡ max (mark_of caller (marks_in lows ++ (mark_in own ++ marks_in highs))) floor =
    h ∙ ap (λ (n : ℕ). max n floor) (sym (own_floor caller xs i d g s e) ∙ ap (mark_of caller) parts) in
    ap marks_in (set_split xs i new s) ∙ marks-append lows (new ∷ highs)
    ∙ ap (λ (ms : List Mark). marks_in lows ++ (ms ++ marks_in highs)) (shown_mark new caller _ shown f number)
    ∙ sym (lift_between caller floor (marks_in lows) (mark_in own) (marks_in highs)
    (marks_each (λ n. n < caller) lows (before_own caller xs i d g s e)) (mark_each own (λ (mark : Mark). mark.owner ≡ caller) e) (marks_each (λ n. caller < n) highs (behind_own caller xs i d g s e)))
    ∙ ap (lift caller floor) (sym parts)

-- ---- more calls

placed_past : (done : Done) (xs ys : List Done) → Each (λ (x : Done). x.caller ≤ done.caller) xs → insert_call done (xs ++ ys) ≡ xs ++ insert_call done ys
unfolding insert_call
placed_past done [] ys h = refl
placed_past done (x ∷ xs) ys h =
    cond-false (ltb done.caller x.caller) (done ∷ x ∷ (xs ++ ys)) (x ∷ insert_call done (xs ++ ys)) (le-ltb done.caller x.caller h.0)
    ∙ ap (λ (zs : List Done). x ∷ zs) (placed_past done xs ys h.1)

placed_front : (done : Done) (ys : List Done) → Each (λ (y : Done). done.caller < y.caller) ys → insert_call done ys ≡ done ∷ ys
unfolding insert_call
placed_front done [] h = refl
placed_front done (y ∷ ys) h = cond-true (ltb done.caller y.caller) (done ∷ y ∷ ys) (y ∷ insert_call done ys) (lt-ltb done.caller y.caller h.0)

abbrev Before : ℕ → List Done → Type 0
Before caller dones = Each (λ (x : Done). x.caller < caller) dones

abbrev pub Owning : ℕ → List Done → Type 0
Owning caller dones = Each (λ (x : Done). x.caller ≡ caller) dones

abbrev Behind : ℕ → List Done → Type 0
Behind caller dones = Each (λ (x : Done). caller < x.caller) dones

placed_here : (caller : ℕ) (done : Done) (lows own highs : List Done) → done.caller ≡ caller → Before caller lows → Owning caller own → Behind caller highs
    → insert_call done (lows ++ (own ++ highs)) ≡ lows ++ ((own ++ done ∷ []) ++ highs)
placed_here caller done lows own highs e b o a =
    placed_past done lows (own ++ highs) (Each-map (λ (x : Done). x.caller < caller) (λ (x : Done). x.caller ≤ done.caller) (λ x l. omega arith) lows b)
    ∙ ap (λ (zs : List Done). lows ++ zs)
    (placed_past done own highs (Each-map (λ (x : Done). x.caller ≡ caller) (λ (x : Done). x.caller ≤ done.caller) (λ x f. omega arith) own o)
    ∙ ap (λ (zs : List Done). own ++ zs) (placed_front done highs (Each-map (λ (x : Done). caller < x.caller) (λ (x : Done). done.caller < x.caller) (λ x l. omega arith) highs a))
    ∙ sym (append_assoc own (done ∷ []) highs))

-- the calls of lesser callers, of this caller, and of greater callers
pub placed_between : (caller : ℕ) (dones lows own highs : List Done) → Owning caller dones → Before caller lows → Owning caller own → Behind caller highs
    → insert_calls dones (lows ++ (own ++ highs)) ≡ lows ++ ((own ++ dones) ++ highs)
unfolding insert_calls
placed_between caller [] lows own highs n b o a = ap (λ (zs : List Done). lows ++ (zs ++ highs)) (sym (append-nil own))
placed_between caller (done ∷ dones) lows own highs n b o a =
    let here : Owning caller (done ∷ []) = (n.0, tt) in
    ap (insert_calls dones) (placed_here caller done lows own highs n.0 b o a)
    ∙ placed_between caller dones lows (own ++ done ∷ []) highs n.1 b (Each-append (λ (x : Done). x.caller ≡ caller) own (done ∷ []) o here) a
    ∙ ap (λ (zs : List Done). lows ++ (zs ++ highs)) (append_assoc own (done ∷ []) dones)

abbrev Near : List Mark → Done → Type 0
Near marks done = mark_of done.caller marks < done.number

each_both : (P Q R : Done → Type 0) → ((x : Done) → P x → Q x → R x) → (xs : List Done) → Each P xs → Each Q xs → Each R xs
each_both P Q R f [] hp hq = tt
each_both P Q R f (x ∷ xs) hp hq = (f x hp.0 hq.0, each_both P Q R f xs hp.1 hq.1)

each_left : (P : Done → Type 0) (xs ys : List Done) → Each P (xs ++ ys) → Each P xs
each_left P [] ys h = tt
each_left P (x ∷ xs) ys h = (h.0, each_left P xs ys h.1)

each_right : (P : Done → Type 0) (xs ys : List Done) → Each P (xs ++ ys) → Each P ys
each_right P [] ys h = h
each_right P (x ∷ xs) ys h = each_right P xs ys h.1

-- the other callers' calls stay, and the caller's own are those above the greater floor
call_between : (caller floor : ℕ) (marks : List Mark) (dones lows own highs : List Done) → Owning caller dones
    → Before caller lows → Owning caller own → Behind caller highs → Each (Near marks) lows → Each (Near marks) highs
    → calls_above (lift caller floor marks) (insert_calls dones (lows ++ (own ++ highs)))
    ≡ lows ++ (filter (λ (x : Done). ltb (max (mark_of caller marks) floor) x.number) (own ++ dones) ++ highs)
unfolding calls_above
call_between caller floor marks dones lows own highs n b o a near_lows near_highs =
    let floors : List Mark = lift caller floor marks in
    let p : Done → Bool = λ x. ltb (mark_of x.caller floors) x.number in
    let q : Done → Bool = λ x. ltb (max (mark_of caller marks) floor) x.number in
    let stays : (x : Done) → x.caller ≢ caller → Near marks x → p x ≡ true =
    λ x apart near. lt-ltb (mark_of x.caller floors) x.number (omega (arith, lifted_other x.caller caller floor marks apart, near)) in
    let is_lifted : mark_of caller floors ≡ max (mark_of caller marks) floor = mark_lifted caller floor marks in
    let same : (x : Done) → x.caller ≡ caller → p x ≡ q x =
    λ x e. ap (λ (k : ℕ). ltb k x.number) (ap (λ (c : ℕ). mark_of c floors) e ∙ is_lifted) in
    ap (filter p) (placed_between caller dones lows own highs n b o a)
    ∙ filter-append p lows ((own ++ dones) ++ highs)
    ∙ ap₂ (λ (xs ys : List Done). xs ++ ys)
    (filter_all p lows (each_both (λ (x : Done). x.caller < caller) (Near marks) (λ x. p x ≡ true) (λ x l near. stays x (omega arith) near) lows b near_lows))
    (filter-append p (own ++ dones) highs
    ∙ ap₂ (λ (xs ys : List Done). xs ++ ys)
    (filter_agree p q (own ++ dones) (Each-map (λ (x : Done). x.caller ≡ caller) (λ x. p x ≡ q x) same (own ++ dones) (Each-append (λ (x : Done). x.caller ≡ caller) own dones o n)))
    (filter_all p highs (each_both (λ (x : Done). caller < x.caller) (Near marks) (λ x. p x ≡ true) (λ x l near. stays x (omega arith) near) highs a near_highs)))

-- the calls after a caller's entry took more of its calls
pub own_calls : (caller floor : ℕ) (dones : List Done) (xs : List OfCaller) (i : ℕ) (d new : OfCaller) → IsGrouped xs → i < length xs → (get_or xs i d).caller ≡ caller
    → Owning caller dones → new.kept ≡ filter (λ (x : Done). ltb (max (get_or xs i d).floor floor) x.number) ((get_or xs i d).kept ++ dones)
    → AreAbove xs
    → calls_in (set xs i new) ≡ calls_above (lift caller floor (marks_in xs)) (insert_calls dones (calls_in xs))
own_calls caller floor dones xs i d new g s e n h near =
    let own = get_or xs i d in
    let lows = take i xs in
    let highs = drop (suc i) xs in
    let marks = marks_in xs in
    let parts : calls_in xs ≡ calls_in lows ++ (own.kept ++ calls_in highs) = ap calls_in (split_at xs i d s) ∙ calls-append lows (own ∷ highs) in
    let near_all : Each (Near marks) (calls_in lows ++ (own.kept ++ calls_in highs)) =
    subst (Each (Near marks)) parts near in
    let o = owned xs g in
    let own_each : Owning caller own.kept =
    Each-map (λ (x : Done). x.caller ≡ own.caller) (λ (x : Done). x.caller ≡ caller) (λ x f. f ∙ e) own.kept (each_at IsOwn xs i d o s).own_calls in
    let between = call_between caller floor marks dones (calls_in lows) own.kept (calls_in highs) n
    (calls_each (λ k. k < caller) lows (each_take IsOwn i xs o) (before_own caller xs i d g s e)) own_each
    (calls_each (λ k. caller < k) highs (each_drop IsOwn (suc i) xs o) (behind_own caller xs i d g s e))
    (each_left (Near marks) (calls_in lows) (own.kept ++ calls_in highs) near_all)
    (each_right (Near marks) own.kept (calls_in highs) (each_right (Near marks) (calls_in lows) (own.kept ++ calls_in highs) near_all)) in
    ap calls_in (set_split xs i new s) ∙ calls-append lows (new ∷ highs)
    ∙ ap (λ (ds : List Done). calls_in lows ++ (ds ++ calls_in highs)) (h ∙ ap (λ (k : ℕ). filter (λ (x : Done). ltb (max k floor) x.number) (own.kept ++ dones)) (sym (own_floor caller xs i d g s e)))
    ∙ sym between ∙ ap (λ (ds : List Done). calls_above (lift caller floor marks) (insert_calls dones ds)) (sym parts)

-- an entry that took calls has only its own caller's
took_own : (own new : OfCaller) (p : Done → Bool) (dones : List Done) → IsOwn own → new.caller ≡ own.caller → Owning own.caller dones → new.shown ≡ true
    → new.kept ≡ filter p (own.kept ++ dones) → IsOwn new
took_own own new p dones o e n shown h =
    let all : Owning own.caller (filter p (own.kept ++ dones)) =
    Each-filter (λ (x : Done). x.caller ≡ own.caller) p (own.kept ++ dones) (Each-append (λ (x : Done). x.caller ≡ own.caller) own.kept dones o.own_calls n) in
    record {
      own_calls = subst (Owning new.caller) (sym h) (subst (λ (k : ℕ). Owning k (filter p (own.kept ++ dones))) (sym e) all);
      no_floor = λ f. absurd (true≢false (sym shown ∙ f));
      no_calls = λ f. absurd (true≢false (sym shown ∙ f));
    }

-- the callers after the entry at an index took calls
pub record Took (caller floor : ℕ) (dones : List Done) (old new : List OfCaller) : Type 0 where
  pub grouped : IsGrouped new
  pub floors : marks_in new ≡ lift caller floor (marks_in old)
  pub calls : calls_in new ≡ calls_above (lift caller floor (marks_in old)) (insert_calls dones (calls_in old))

pub took_at : (caller floor : ℕ) (dones : List Done) (xs : List OfCaller) (i : ℕ) (own new : OfCaller) → IsGrouped xs → IsOwnAt caller xs i → own ≡ get_or xs i own
    → Owning caller dones → AreAbove xs → new.caller ≡ own.caller → new.floor ≡ max own.floor floor → new.shown ≡ true
    → new.kept ≡ filter (λ (x : Done). ltb (max own.floor floor) x.number) (own.kept ++ dones) → Took caller floor dones xs (set xs i new)
took_at caller floor dones xs i own new g at is n calls_above e f shown h =
    let here : OfCaller = get_or xs i own in
    let o : IsOwn here = each_at IsOwn xs i own (owned xs g) at.in_range in
    let same : new.caller ≡ here.caller = e ∙ ap (λ (k : OfCaller). k.caller) is in
    let kept : new.kept ≡ filter (λ (x : Done). ltb (max here.floor floor) x.number) (here.kept ++ dones) =
    h ∙ ap (λ (k : OfCaller). filter (λ (x : Done). ltb (max k.floor floor) x.number) (k.kept ++ dones)) is in
    record {
      grouped = grouped-set xs i own new g at.in_range (sym same)
          (took_own here new (λ (x : Done). ltb (max here.floor floor) x.number) dones o same (subst (λ (k : ℕ). Owning k dones) (sym (at.is_own own)) n) shown kept);
      floors = own_floors caller floor xs i own new g at.in_range (at.is_own own) (same ∙ at.is_own own) shown (f ∙ ap (λ (k : OfCaller). max k.floor floor) is);
      calls = own_calls caller floor dones xs i own new g at.in_range (at.is_own own) n kept calls_above;
    }
