-- Entries that are equal except for their room.
use Rattle.std.proofs.Common.{◌≡◌, ℕ, zero, suc, ◌+◌, ◌<◌, ◌≤◌, refl, sym, ◌∙◌, ap, ap₂, subst, arith, List, [], ◌∷◌, ◌++◌, map, length, get_or, set, take, add-one}
use Rattle.std.proofs.lemmas.List.Elements.{filter-append}
use Rattle.chord_ident.specs.declared.span.Span.{Span}
use Rattle.chord_map.proofs.Each.{Each, Each-filter}
use Rattle.chord_map.specs.declared.done.Done.{Done}
use Rattle.chord_segment.specs.declared.mark.Mark.{Mark}
use Rattle.chord_segment.specs.Segment.{dones_inside}
use Rattle.chord_segment.specs.Callers.{OfCaller, mark_in, marks_in, calls_in, IsOwn, IsGrouped, without_room, part_in}

-- the lists are equal entry by entry, except for the room
abbrev pub AreSame : List OfCaller → List OfCaller → Type 0
AreSame [] [] = Unit {0}
AreSame [] (y ∷ ys) = ⊥
AreSame (x ∷ xs) [] = ⊥
AreSame (x ∷ xs) (y ∷ ys) = (without_room x ≡ without_room y) × AreSame xs ys

pub same_itself : (xs : List OfCaller) → AreSame xs xs
same_itself [] = tt
same_itself (x ∷ xs) = (refl, same_itself xs)

pub same_push : (xs ys : List OfCaller) (x y : OfCaller) → AreSame xs ys → without_room x ≡ without_room y → AreSame (xs ++ x ∷ []) (ys ++ y ∷ [])
same_push [] [] x y h e = (e, tt)
same_push [] (b ∷ ys) x y h e = absurd h
same_push (a ∷ xs) [] x y h e = absurd h
same_push (a ∷ xs) (b ∷ ys) x y h e = (h.0, same_push xs ys x y h.1 e)

pub same_marks : (xs ys : List OfCaller) → AreSame xs ys → marks_in xs ≡ marks_in ys
same_marks [] [] h = refl
same_marks [] (b ∷ ys) h = absurd h
same_marks (a ∷ xs) [] h = absurd h
same_marks (a ∷ xs) (b ∷ ys) h = ap₂ (λ (ms ns : List Mark). ms ++ ns) (ap mark_in h.0) (same_marks xs ys h.1)

pub same_calls : (xs ys : List OfCaller) → AreSame xs ys → calls_in xs ≡ calls_in ys
same_calls [] [] h = refl
same_calls [] (b ∷ ys) h = absurd h
same_calls (a ∷ xs) [] h = absurd h
same_calls (a ∷ xs) (b ∷ ys) h = ap₂ (λ (ms ns : List Done). ms ++ ns) (ap (λ (o : OfCaller). o.kept) h.0) (same_calls xs ys h.1)

same_above : (n : ℕ) (xs ys : List OfCaller) → AreSame xs ys → Each (λ (o : OfCaller). n < o.caller) ys → Each (λ (o : OfCaller). n < o.caller) xs
same_above n [] [] h a = tt
same_above n [] (b ∷ ys) h a = absurd h
same_above n (x ∷ xs) [] h a = absurd h
same_above n (x ∷ xs) (y ∷ ys) h a = (subst (λ k. n < k) (sym (ap (λ (o : OfCaller). o.caller) h.0)) a.0, same_above n xs ys h.1 a.1)

own_bare : (x : OfCaller) → IsOwn x → IsOwn (without_room x)
own_bare x o = record { own_calls = o.own_calls; no_floor = o.no_floor; no_calls = o.no_calls }

own_back : (x : OfCaller) → IsOwn (without_room x) → IsOwn x
own_back x o = record { own_calls = o.own_calls; no_floor = o.no_floor; no_calls = o.no_calls }

pub bare_is : (x y : OfCaller) → x.caller ≡ y.caller → x.floor ≡ y.floor → x.kept ≡ y.kept → x.shown ≡ y.shown → without_room x ≡ without_room y
bare_is x y e f k s = λ i. record { caller = e i; floor = f i; kept = k i; shown = s i; room = 0 }

pub mark_same : (x y : OfCaller) → x.caller ≡ y.caller → x.floor ≡ y.floor → x.kept ≡ y.kept → x.shown ≡ y.shown → mark_in x ≡ mark_in y
mark_same x y e f k s = ap mark_in (bare_is x y e f k s)

-- an entry that is not shown
pub hidden_own : (x : OfCaller) → x.floor ≡ 0 → x.kept ≡ [] → IsOwn x
hidden_own x f k = record { own_calls = subst (Each (λ (done : Done). done.caller ≡ x.caller)) (sym k) tt; no_floor = λ e. f; no_calls = λ e. k }

pub own_same : (x y : OfCaller) → without_room x ≡ without_room y → IsOwn y → IsOwn x
own_same x y e o = own_back x (subst IsOwn (sym e) (own_bare y o))

pub same_grouped : (xs ys : List OfCaller) → AreSame xs ys → IsGrouped ys → IsGrouped xs
same_grouped [] [] h g = tt
same_grouped [] (b ∷ ys) h g = absurd h
same_grouped (x ∷ xs) [] h g = absurd h
same_grouped (x ∷ xs) (y ∷ ys) h g = (
  own_same x y h.0 g.0,
  same_above x.caller xs ys h.1 (subst (λ k. Each (λ (o : OfCaller). k < o.caller) ys) (sym (ap (λ (o : OfCaller). o.caller) h.0)) g.1),
  same_grouped xs ys h.1 g.2,
)

-- ---- parts

pub part_marks : (span : Span) (xs : List OfCaller) → marks_in (map (part_in span) xs) ≡ marks_in xs
part_marks span [] = refl
part_marks span (x ∷ xs) = ap (λ (ms : List Mark). mark_in x ++ ms) (part_marks span xs)

inside-append : (span : Span) (xs ys : List Done) → dones_inside span (xs ++ ys) ≡ dones_inside span xs ++ dones_inside span ys
unfolding dones_inside
inside-append span xs ys = filter-append _ xs ys

inside_none : (span : Span) → dones_inside span [] ≡ []
unfolding dones_inside
inside_none span = refl

pub part_calls : (span : Span) (xs : List OfCaller) → calls_in (map (part_in span) xs) ≡ dones_inside span (calls_in xs)
part_calls span [] = sym (inside_none span)
part_calls span (x ∷ xs) = ap (λ (ds : List Done). dones_inside span x.kept ++ ds) (part_calls span xs) ∙ sym (inside-append span x.kept (calls_in xs))

inside_owned : (caller : ℕ) (span : Span) (xs : List Done) → Each (λ (done : Done). done.caller ≡ caller) xs → Each (λ (done : Done). done.caller ≡ caller) (dones_inside span xs)
unfolding dones_inside
inside_owned caller span xs h = Each-filter (λ (done : Done). done.caller ≡ caller) _ xs h

pub part_own : (span : Span) (x : OfCaller) → IsOwn x → IsOwn (part_in span x)
part_own span x o = record {
  own_calls = inside_owned x.caller span x.kept o.own_calls;
  no_floor = o.no_floor;
  no_calls = λ e. ap (dones_inside span) (o.no_calls e) ∙ inside_none span;
}

part_above : (n : ℕ) (span : Span) (xs : List OfCaller) → Each (λ (o : OfCaller). n < o.caller) xs → Each (λ (o : OfCaller). n < o.caller) (map (part_in span) xs)
part_above n span [] h = tt
part_above n span (x ∷ xs) h = (h.0, part_above n span xs h.1)

pub part_grouped : (span : Span) (xs : List OfCaller) → IsGrouped xs → IsGrouped (map (part_in span) xs)
part_grouped span [] g = tt
part_grouped span (x ∷ xs) g = (part_own span x g.0, part_above x.caller span xs g.1, part_grouped span xs g.2)

-- ---- index by index

pub same_length : (xs ys : List OfCaller) → AreSame xs ys → length xs ≡ length ys
same_length [] [] h = refl
same_length [] (b ∷ ys) h = absurd h
same_length (a ∷ xs) [] h = absurd h
same_length (a ∷ xs) (b ∷ ys) h = ap suc (same_length xs ys h.1)

-- the first i entries keep only their calls in the span
abbrev pub parted_upto : Span → ℕ → List OfCaller → List OfCaller
parted_upto span zero xs = xs
parted_upto span (suc i) [] = []
parted_upto span (suc i) (x ∷ xs) = part_in span x ∷ parted_upto span i xs

pub length-parted_upto : (span : Span) (i : ℕ) (xs : List OfCaller) → length (parted_upto span i xs) ≡ length xs
length-parted_upto span zero xs = refl
length-parted_upto span (suc i) [] = refl
length-parted_upto span (suc i) (x ∷ xs) = ap suc (length-parted_upto span i xs)

parted_one : (span : Span) (items xs : List OfCaller) (i : ℕ) (d new : OfCaller) → AreSame items (parted_upto span i xs) → i < length xs
    → without_room new ≡ part_in span (get_or items i d) → AreSame (set items i new) (parted_upto span (suc i) xs)
parted_one span items [] i d new h s e = absurd (omega arith)
parted_one span [] (x ∷ xs) zero d new h s e = absurd h
parted_one span [] (x ∷ xs) (suc i) d new h s e = absurd h
parted_one span (a ∷ items) (x ∷ xs) zero d new h s e = (e ∙ ap (part_in span) h.0, h.1)
parted_one span (a ∷ items) (x ∷ xs) (suc i) d new h s e = (h.0, parted_one span items xs i d new h.1 (omega arith) e)

pub parted_more : (span : Span) (items xs : List OfCaller) (i : ℕ) (d new : OfCaller) → AreSame items (parted_upto span i xs) → i < length xs
    → without_room new ≡ part_in span (get_or items i d) → AreSame (set items i new) (parted_upto span (i + 1) xs)
parted_more span items xs i d new h s e = rw add-one (parted_one span items xs i d new h s e)

pub parted_all : (span : Span) (i : ℕ) (xs : List OfCaller) → length xs ≤ i → parted_upto span i xs ≡ map (part_in span) xs
parted_all span zero [] s = refl
parted_all span zero (x ∷ xs) s = absurd (omega arith)
parted_all span (suc i) [] s = refl
parted_all span (suc i) (x ∷ xs) s = ap (λ (ys : List OfCaller). part_in span x ∷ ys) (parted_all span i xs (omega arith))

take_more : (xs : List OfCaller) (i : ℕ) (d : OfCaller) → i < length xs → take (suc i) xs ≡ take i xs ++ get_or xs i d ∷ []
take_more [] i d s = absurd (omega arith)
take_more (x ∷ xs) zero d s = refl
take_more (x ∷ xs) (suc i) d s = ap (λ (ys : List OfCaller). x ∷ ys) (take_more xs i d (omega arith))

pub take_next : (xs : List OfCaller) (i : ℕ) (d : OfCaller) → i < length xs → take (i + 1) xs ≡ take i xs ++ get_or xs i d ∷ []
take_next xs i d s = rw add-one (take_more xs i d s)

-- one more copy
pub same_next : (copies xs : List OfCaller) (i : ℕ) (d copy : OfCaller) → AreSame copies (take i xs) → i < length xs → without_room copy ≡ without_room (get_or xs i d)
    → AreSame (copies ++ copy ∷ []) (take (i + 1) xs)
same_next copies xs i d copy h s e = subst (AreSame (copies ++ copy ∷ [])) (sym (take_next xs i d s)) (same_push copies (take i xs) copy (get_or xs i d) h e)
