-- Marks and calls determine the entries that are shown.
use Rattle.std.proofs.Common.{◌≡◌, ℕ, zero, suc, ◌+◌, ◌<◌, ◌≤◌, true, false, refl, sym, ◌∙◌, ap, ap₂, subst, arith, List, [], ◌∷◌, ◌++◌, length, get_or, drop, add-one, drop-cons, IsTrue, nat_eq, ⊎_elim}
use Rattle.std.proofs.lemmas.Bool.{eqb-true, eq-eqb, cases_lt}
use Rattle.std.proofs.lemmas.List.{drop_all}
use Rattle.chord_map.proofs.Each.{Each}
use Rattle.chord_map.specs.declared.done.Done.{Done}
use Rattle.chord_segment.specs.declared.mark.Mark.{Mark}
use Rattle.chord_segment.specs.Callers.{OfCaller, mark_in, marks_in, calls_in, IsGrouped, IsAlike, IsTwin, IsNextShown}
use Rattle.chord_segment.proofs.Grouped.{owned, calls_each}

marks_first : (x : OfCaller) (xs : List OfCaller) → x.shown ≡ true → marks_in (x ∷ xs) ≡ record { owner = x.caller; number = x.floor } ∷ marks_in xs
marks_first x xs e = rw e refl

same_head : (m n : Mark) (ms ns : List Mark) → m ∷ ms ≡ n ∷ ns → (m ≡ n) × (ms ≡ ns)
same_head m n ms ns e = (ap (λ (ks : List Mark). get_or ks 0 m) e, ap (λ (ks : List Mark). drop 1 ks) e)

same_first : (d e : Done) (ds es : List Done) → d ∷ ds ≡ e ∷ es → (d ≡ e) × (ds ≡ es)
same_first d e ds es h = (ap (λ (ks : List Done). get_or ks 0 d) h, ap (λ (ks : List Done). drop 1 ks) h)

mark_is : {a b n m : ℕ} → a ≡ b → n ≡ m → ◌≡◌ {A = Mark} (record { owner = a; number = n }) (record { owner = b; number = m })
mark_is e f = λ i. record { owner = e i; number = f i }

-- one caller's calls, and the greater callers' behind them
split_same : (caller : ℕ) (xs ys more rest : List Done) → Each (λ (d : Done). d.caller ≡ caller) xs → Each (λ (d : Done). d.caller ≡ caller) ys
    → Each (λ (d : Done). caller < d.caller) more → Each (λ (d : Done). caller < d.caller) rest → xs ++ more ≡ ys ++ rest → (xs ≡ ys) × (more ≡ rest)
split_same caller [] [] more rest ox oy hm hr e = (refl, e)
split_same caller [] (y ∷ ys) more rest ox oy hm hr e =
    let h = subst (Each (λ (d : Done). caller < d.caller)) e hm in let l = h.0 in let k = oy.0 in absurd (omega arith)
split_same caller (x ∷ xs) [] more rest ox oy hm hr e =
    let h = subst (Each (λ (d : Done). caller < d.caller)) (sym e) hr in let l = h.0 in let k = ox.0 in absurd (omega arith)
split_same caller (x ∷ xs) (y ∷ ys) more rest ox oy hm hr e =
    let h = same_first x y (xs ++ more) (ys ++ rest) e in
    let r = split_same caller xs ys more rest ox.1 oy.1 hm hr h.1 in
    (ap₂ (λ (d : Done) (ds : List Done). d ∷ ds) h.0 r.0, r.1)

pub alike_parts : (x y : OfCaller) (xs ys : List OfCaller) → IsGrouped (x ∷ xs) → IsGrouped (y ∷ ys) → x.shown ≡ true → y.shown ≡ true
    → IsAlike (x ∷ xs) (y ∷ ys) → record { twin : IsTwin x y; rest : IsAlike xs ys }
alike_parts x y xs ys g h e f a =
    let m = same_head _ _ (marks_in xs) (marks_in ys) (sym (marks_first x xs e) ∙ a.marks ∙ marks_first y ys f) in
    let c : x.caller ≡ y.caller = ap (λ (k : Mark). k.owner) m.0 in
    let back : (P : ℕ → Type 0) → P y.caller → P x.caller = λ P. subst P (sym c) in
    let d = split_same x.caller x.kept y.kept (calls_in xs) (calls_in ys) (g.0).own_calls
    (back (λ n. Each (λ (d : Done). d.caller ≡ n) y.kept) (h.0).own_calls)
    (calls_each (λ n. x.caller < n) xs (owned xs g.2) g.1)
    (back (λ n. Each (λ (d : Done). n < d.caller) (calls_in ys)) (calls_each (λ n. y.caller < n) ys (owned ys h.2) h.1)) a.calls in
    record { twin = record { caller = c; floor = ap (λ (k : Mark). k.number) m.0; kept = d.0 }; rest = record { marks = m.1; calls = d.1 } }

pub alike_whole : (x y : OfCaller) (xs ys : List OfCaller) → x.shown ≡ true → y.shown ≡ true → IsTwin x y → IsAlike xs ys → IsAlike (x ∷ xs) (y ∷ ys)
alike_whole x y xs ys e f t r = record {
  marks = marks_first x xs e ∙ ap₂ (λ (m : Mark) (ms : List Mark). m ∷ ms) (mark_is t.caller t.floor) r.marks ∙ sym (marks_first y ys f);
  calls = ap₂ (λ (ds es : List Done). ds ++ es) t.kept r.calls;
}

-- ---- from an index on

hidden_mark : (x : OfCaller) → x.shown ≡ false → mark_in x ≡ []
hidden_mark x e = rw e refl

marks_skip : (xs : List OfCaller) (i : ℕ) (d : OfCaller) → i < length xs → (get_or xs i d).shown ≡ false → marks_in (drop i xs) ≡ marks_in (drop (suc i) xs)
marks_skip [] i d s e = absurd (omega arith)
marks_skip (x ∷ xs) zero d s e = ap (λ (ms : List Mark). ms ++ marks_in xs) (hidden_mark x e)
marks_skip (x ∷ xs) (suc i) d s e = marks_skip xs i d (omega arith) e

calls_skip : (xs : List OfCaller) (i : ℕ) (d : OfCaller) → IsGrouped xs → i < length xs → (get_or xs i d).shown ≡ false → calls_in (drop i xs) ≡ calls_in (drop (suc i) xs)
calls_skip [] i d g s e = absurd (omega arith)
calls_skip (x ∷ xs) zero d g s e = ap (λ (ds : List Done). ds ++ calls_in xs) ((g.0).no_calls e)
calls_skip (x ∷ xs) (suc i) d g s e = calls_skip xs i d g.2 (omega arith) e

-- an entry that is not shown is skipped
pub marks_pass : (xs : List OfCaller) (i : ℕ) (d : OfCaller) → i < length xs → (get_or xs i d).shown ≡ false → marks_in (drop i xs) ≡ marks_in (drop (i + 1) xs)
marks_pass xs i d s e = rw add-one (marks_skip xs i d s e)

pub calls_pass : (xs : List OfCaller) (i : ℕ) (d : OfCaller) → IsGrouped xs → i < length xs → (get_or xs i d).shown ≡ false → calls_in (drop i xs) ≡ calls_in (drop (i + 1) xs)
calls_pass xs i d g s e = rw add-one (calls_skip xs i d g s e)

grouped_drop : (xs : List OfCaller) (i : ℕ) → IsGrouped xs → IsGrouped (drop i xs)
grouped_drop xs zero g = g
grouped_drop [] (suc i) g = tt
grouped_drop (x ∷ xs) (suc i) g = grouped_drop xs i g.2

split_drop : (xs : List OfCaller) (i : ℕ) (d : OfCaller) → i < length xs → drop i xs ≡ get_or xs i d ∷ drop (i + 1) xs
split_drop xs i d s = rw add-one (drop-cons xs i d s)

-- at two shown entries: the lists are alike from there
-- on if the entries are twins and the rest is alike
pub alike_at : (xs ys : List OfCaller) (i j : ℕ) (d e : OfCaller) → IsGrouped xs → IsGrouped ys → i < length xs → j < length ys
    → (get_or xs i d).shown ≡ true → (get_or ys j e).shown ≡ true → IsAlike (drop i xs) (drop j ys)
    → record { twin : IsTwin (get_or xs i d) (get_or ys j e); rest : IsAlike (drop (i + 1) xs) (drop (j + 1) ys) }
alike_at xs ys i j d e g h s t f k a =
    let p = split_drop xs i d s in
    let q = split_drop ys j e t in
    alike_parts (get_or xs i d) (get_or ys j e) (drop (i + 1) xs) (drop (j + 1) ys)
    (subst IsGrouped p (grouped_drop xs i g)) (subst IsGrouped q (grouped_drop ys j h)) f k
    (subst (λ (zs : List OfCaller). IsAlike zs (get_or ys j e ∷ drop (j + 1) ys)) p (subst (IsAlike (drop i xs)) q a))

pub alike_from : (xs ys : List OfCaller) (i j : ℕ) (d e : OfCaller) → i < length xs → j < length ys → (get_or xs i d).shown ≡ true → (get_or ys j e).shown ≡ true
    → IsTwin (get_or xs i d) (get_or ys j e) → IsAlike (drop (i + 1) xs) (drop (j + 1) ys) → IsAlike (drop i xs) (drop j ys)
alike_from xs ys i j d e s t f k twin rest =
    let p = split_drop xs i d s in
    let q = split_drop ys j e t in
    subst (λ (zs : List OfCaller). IsAlike zs (drop j ys)) (sym p) (subst (IsAlike (get_or xs i d ∷ drop (i + 1) xs)) (sym q)
    (alike_whole (get_or xs i d) (get_or ys j e) (drop (i + 1) xs) (drop (j + 1) ys) f k twin rest))

-- the lists are alike from before the entries that were skipped
pub alike_passed : (xs ys : List OfCaller) (i j k l : ℕ) → IsNextShown xs i k → IsNextShown ys j l → IsAlike (drop i xs) (drop j ys) → IsAlike (drop k xs) (drop l ys)
alike_passed xs ys i j k l n m a = record { marks = sym n.marks ∙ a.marks ∙ m.marks; calls = sym n.calls ∙ a.calls ∙ m.calls }

pub alike_back : (xs ys : List OfCaller) (i j k l : ℕ) → IsNextShown xs i k → IsNextShown ys j l → IsAlike (drop k xs) (drop l ys) → IsAlike (drop i xs) (drop j ys)
alike_back xs ys i j k l n m a = record { marks = n.marks ∙ a.marks ∙ sym m.marks; calls = n.calls ∙ a.calls ∙ sym m.calls }

-- both lists are at their ends
pub alike_ends : (xs ys : List OfCaller) (i j : ℕ) → length xs ≤ i → length ys ≤ j → IsAlike (drop i xs) (drop j ys)
alike_ends xs ys i j s t = record {
  marks = ap marks_in (drop_all i xs s) ∙ sym (ap marks_in (drop_all j ys t));
  calls = ap calls_in (drop_all i xs s) ∙ sym (ap calls_in (drop_all j ys t));
}

abbrev none : OfCaller
none = record { caller = 0; floor = 0; kept = []; shown = false; room = 0 }

cons_nil : (m : Mark) (ms : List Mark) → m ∷ ms ≡ [] → ⊥
cons_nil m ms e = let l : length (m ∷ ms) ≡ 0 = ap (λ (ks : List Mark). length ks) e in omega arith

some_mark : (xs : List OfCaller) (i : ℕ) (d : OfCaller) → i < length xs → (get_or xs i d).shown ≡ true → marks_in (drop i xs) ≡ [] → ⊥
some_mark xs i d s f e = cons_nil _ _ (sym (ap marks_in (split_drop xs i d s) ∙ marks_first (get_or xs i d) (drop (i + 1) xs) f) ∙ e)

-- one list is at its end, the other not
pub first_longer : (xs ys : List OfCaller) (i j : ℕ) (d : OfCaller) → i < length xs → (get_or xs i d).shown ≡ true → length ys ≤ j → IsAlike (drop i xs) (drop j ys) → ⊥
first_longer xs ys i j d s f t a = some_mark xs i d s f (a.marks ∙ ap marks_in (drop_all j ys t))

pub second_longer : (xs ys : List OfCaller) (i j : ℕ) (e : OfCaller) → length xs ≤ i → j < length ys → (get_or ys j e).shown ≡ true → IsAlike (drop i xs) (drop j ys) → ⊥
second_longer xs ys i j e s t f a = some_mark ys j e t f (sym a.marks ∙ ap marks_in (drop_all i xs s))

pub is_eq : (a b : ℕ) → IsTrue (nat_eq a b) → a ≡ b
is_eq a b h = eqb-true a b h

pub eq_is : (a b : ℕ) → a ≡ b → IsTrue (nat_eq a b)
eq_is a b e = eq-eqb a b e

-- the first list is at its end: the two are alike if the second is, too
pub first_ends : (xs ys : List OfCaller) (i j k l : ℕ) → IsNextShown xs i k → IsNextShown ys j l → length xs ≤ k
    → (IsAlike xs ys → IsAlike (drop i xs) (drop j ys)) → (IsAlike (drop i xs) (drop j ys) → IsAlike xs ys) → (n : ℕ) → n ≡ length ys
    → (IsTrue (nat_eq l n) → IsAlike xs ys) × (IsAlike xs ys → IsTrue (nat_eq l n))
first_ends xs ys i j k l m o s rest whole n e = (
  λ t. let f = is_eq l n t in whole (alike_back xs ys i j k l m o (alike_ends xs ys k l s (omega arith))),
  λ a. eq_is l n (⊎_elim
      (λ low. absurd (second_longer xs ys k l none s low (o.is_shown low none) (alike_passed xs ys i j k l m o (rest a))))
      (λ high. let r = o.in_range in omega arith)
      (cases_lt l (length ys))),
)

-- only the second list is at its end
pub second_ends : (xs ys : List OfCaller) (i j k l : ℕ) → IsNextShown xs i k → IsNextShown ys j l → k < length xs → length ys ≤ l
    → (IsAlike xs ys → IsAlike (drop i xs) (drop j ys)) → IsAlike xs ys → ⊥
second_ends xs ys i j k l m o s t rest a = first_longer xs ys k l none s (m.is_shown s none) t (alike_passed xs ys i j k l m o (rest a))
