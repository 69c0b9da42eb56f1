-- For how many more calls of a caller there is room.
use Rattle.std.proofs.Common.{◌≡◌, ◌≢◌, ℕ, zero, suc, ◌+◌, ◌<◌, ◌≤◌, ◌⊎◌, inl, inr, ⊎_elim, sym, ◌∙◌, subst, arith, List, [], ◌∷◌, ◌++◌, length, get_or, set, take, drop, Result, Ok, Err, OnOk}
use Rattle.std.specs.Prelude.{insert, is_ok, if◌then◌else◌}
use Rattle.std.proofs.lemmas.List.{take-append-drop}
use Rattle.chord_segment.specs.Callers.{OfCaller, IsGrouped, IsGapAt, HasRoom, HasRoomFor}
use Rattle.chord_map.proofs.Each.{Each, Each-map, Each_push}
use Rattle.chord_segment.proofs.Bare.{take_next}
use Rattle.chord_segment.proofs.Grouped.{Below, Above, each_at}

not_below : (caller count : ℕ) (xs : List OfCaller) → Below caller xs → HasRoom caller count xs → ⊥
not_below caller count [] b h = h
not_below caller count (x ∷ xs) b h = ⊎_elim (λ here. let l = b.0 in let e = here.0 in omega arith) (λ there. not_below caller count xs b.1 there) h

not_above : (caller count : ℕ) (xs : List OfCaller) → Above caller xs → HasRoom caller count xs → ⊥
not_above caller count [] b h = h
not_above caller count (x ∷ xs) b h = ⊎_elim (λ here. let l = b.0 in let e = here.0 in omega arith) (λ there. not_above caller count xs b.1 there) h

room_parts : (caller count : ℕ) (xs ys : List OfCaller) → HasRoom caller count (xs ++ ys) → HasRoom caller count xs ⊎ HasRoom caller count ys
room_parts caller count [] ys h = inr h
room_parts caller count (x ∷ xs) ys h =
    ⊎_elim (λ here. inl (inl here)) (λ there. ⊎_elim (λ a. inl (inr a)) (λ b. inr b) (room_parts caller count xs ys there)) h

pub no_room : (caller count : ℕ) (xs : List OfCaller) (i : ℕ) → IsGapAt caller xs i → HasRoom caller count xs → ⊥
no_room caller count xs i gap h =
    ⊎_elim (not_below caller count (take i xs) gap.before) (not_above caller count (drop i xs) gap.behind)
    (room_parts caller count (take i xs) (drop i xs) (subst (HasRoom caller count) (sym (take-append-drop i xs)) h))

pub room_at : (caller count : ℕ) (xs : List OfCaller) (i : ℕ) (d : OfCaller) → IsGrouped xs → i < length xs → (get_or xs i d).caller ≡ caller → HasRoom caller count xs → count ≤ (get_or xs i d).room
room_at caller count [] i d g s e h = absurd h
room_at caller count (x ∷ xs) zero d g s e h =
    ⊎_elim (λ here. here.1) (λ there. absurd (not_above caller count xs (subst (λ n. Above n xs) e g.1) there)) h
room_at caller count (x ∷ xs) (suc i) d g s e h =
    let less = each_at (λ (o : OfCaller). x.caller < o.caller) xs i d g.1 (omega arith) in
    ⊎_elim (λ here. let f = here.0 in absurd (omega arith)) (λ there. room_at caller count xs i d g.2 (omega arith) e there) h

pub room_set : (caller count : ℕ) (xs : List OfCaller) (i : ℕ) (new : OfCaller) → i < length xs → new.caller ≡ caller → count ≤ new.room → HasRoom caller count (set xs i new)
room_set caller count [] i new s e l = absurd (omega arith)
room_set caller count (x ∷ xs) zero new s e l = inl (e, l)
room_set caller count (x ∷ xs) (suc i) new s e l = inr (room_set caller count xs i new (omega arith) e l)

pub room_insert : (caller count : ℕ) (xs : List OfCaller) (i : ℕ) (new : OfCaller) → new.caller ≡ caller → count ≤ new.room → HasRoom caller count (insert xs i new)
room_insert caller count [] zero new e l = inl (e, l)
room_insert caller count [] (suc i) new e l = inl (e, l)
room_insert caller count (x ∷ xs) zero new e l = inl (e, l)
room_insert caller count (x ∷ xs) (suc i) new e l = inr (room_insert caller count xs i new e l)

pub keeps_insert : (caller count : ℕ) (xs : List OfCaller) (i : ℕ) (new : OfCaller) → HasRoom caller count xs → HasRoom caller count (insert xs i new)
keeps_insert caller count [] i new h = absurd h
keeps_insert caller count (x ∷ xs) zero new h = inr h
keeps_insert caller count (x ∷ xs) (suc i) new h = ⊎_elim (λ here. inl here) (λ there. inr (keeps_insert caller count xs i new there)) h

-- the changed entry has the room, or that of another caller has
pub keeps_set : (caller count : ℕ) (xs : List OfCaller) (i : ℕ) (d new : OfCaller) → new.caller ≡ (get_or xs i d).caller
    → (new.caller ≡ caller → count ≤ (get_or xs i d).room → count ≤ new.room) → HasRoom caller count xs → HasRoom caller count (set xs i new)
keeps_set caller count [] i d new e k h = absurd h
keeps_set caller count (x ∷ xs) zero d new e k h = ⊎_elim (λ here. let c = e ∙ here.0 in inl (c, k c here.1)) (λ there. inr there) h
keeps_set caller count (x ∷ xs) (suc i) d new e k h = ⊎_elim (λ here. inl here) (λ there. inr (keeps_set caller count xs i d new e k there)) h

-- room for the calls of one more entry
pub room_next : (more old new : List OfCaller) (i : ℕ) (d : OfCaller) → ((caller room : ℕ) → HasRoom caller room old → HasRoom caller room new)
    → i < length more → HasRoom (get_or more i d).caller (length (get_or more i d).kept) new → HasRoomFor (take i more) old → HasRoomFor (take (i + 1) more) new
room_next more old new i d keeps s here h =
    let P : OfCaller → Type 0 = λ own. HasRoom own.caller (length own.kept) new in
    subst (Each P) (sym (take_next more i d s))
    (Each_push P (take i more) (get_or more i d) (Each-map (λ (own : OfCaller). HasRoom own.caller (length own.kept) old) P (λ own k. keeps own.caller (length own.kept) k) (take i more) h) here)

-- one caller's calls were taken, and there is still room for the others'
pub room_rest : (caller : ℕ) (rest old new : List OfCaller) → Above caller rest → ((other room : ℕ) → caller ≢ other → HasRoom other room old → HasRoom other room new)
    → HasRoomFor rest old → HasRoomFor rest new
room_rest caller [] old new a keeps h = tt
room_rest caller (x ∷ rest) old new a keeps h = (keeps x.caller (length x.kept) (let l = a.0 in omega arith) h.0, room_rest caller rest old new a.1 keeps h.1)

pub on_ok : {A B : Type 0} (r : Result A B) (P Q : Type 0) → (P → Q) → OnOk r P → OnOk r Q
on_ok (Ok x) P Q f h = f h
on_ok (Err x) P Q f h = h

pub on_err : {A B : Type 0} (r : Result A B) (x : B) (P : Type 0) → r ≡ Err x → OnOk r P
on_err r x P e = subst (λ (k : Result _ _). OnOk k P) (sym e) tt

made : {A B : Type 0} (r : Result A B) (P : Type 0) → P → OnOk r P
made (Ok x) P h = h
made (Err x) P h = tt

-- what an insertion gave
pub on_made : {A B C D : Type 0} (r : Result A B) (s : Result C D) (x : A) (P : Type 0) (xs new zs : List OfCaller) → r ≡ Ok x → new ≡ if is_ok r then zs else xs → (new ≡ zs → P) → OnOk s P
on_made r s x P xs new zs e h f = made s P (f (subst (λ (k : Result _ _). new ≡ if is_ok k then zs else xs) e h))
