-- A stream spells one list of requests, or one of answers.
use Rattle.std.proofs.Common.{◌≡◌, ℕ, List, [], ◌∷◌, ◌++◌, Some, Ok, Option, Result, sym, ap, ap₂, refl, ◌∙◌, append_assoc, length, arith}
use Rattle.std.specs.List.{flat_map, AllByRecursion}
use Rattle.std.proofs.lemmas.List.Concat.{flat_map-cons}
use Rattle.std.proofs.lemmas.List.{append-nil}
use Rattle.chord_wire.specs.declared.fault.WireFault.{WireFault}
use Rattle.chord_wire.specs.Spelling.{frame}
use Rattle.chord_wire.proofs.NextLaws.{IsRead, next_again}

module _ {X : Type 0} {next : List ℕ → Result (Option (X × List ℕ)) WireFault} {least most : ℕ} {read : List ℕ → Result X WireFault} {Fits : X → Type 0} {body : X → List ℕ}
    (reads : IsRead next least most read Fits body) where
  abbrev text : X → List ℕ
  text x = frame (body x)

  abbrev found : X × List ℕ → Result (Option (X × List ℕ)) WireFault
  found x = Ok (Some x)

  same_found : (x y : X × List ℕ) → found x ≡ found y → x ≡ y
  same_found x y e = cc

  -- the first item of a list is next
  first_is_next : (x : X) (xs : List X) (rest : List ℕ) → Fits x → next (flat_map text (x ∷ xs) ++ rest) ≡ Ok (Some (x, flat_map text xs ++ rest))
  first_is_next x xs rest fits =
      ap (λ (bytes : List ℕ). next (bytes ++ rest)) (flat_map-cons text x xs)
      ∙ ap next (append_assoc (text x) (flat_map text xs) rest)
      ∙ next_again reads x (flat_map text xs ++ rest) fits

  abbrev pub Said : List ℕ → List X → List ℕ → Type 0
  Said bytes xs rest = AllByRecursion Fits xs × (bytes ≡ flat_map text xs ++ rest)

  abbrev pub IsLast : List ℕ → Type 0
  IsLast rest = (x : X) (behind : List ℕ) → next rest ≡ Ok (Some (x, behind)) → ⊥

  -- both lists begin with the same item
  same_first : (x y : X) (xs ys : List X) (bytes rest rest' : List ℕ) → Said bytes (x ∷ xs) rest → Said bytes (y ∷ ys) rest' → (x ≡ y) × (flat_map text xs ++ rest ≡ flat_map text ys ++ rest')
  same_first x y xs ys bytes rest rest' p q =
      let one = ap next p.1 ∙ first_is_next x xs rest p.0.0 in
      let other = ap next q.1 ∙ first_is_next y ys rest' q.0.0 in
      let same = same_found (x, flat_map text xs ++ rest) (y, flat_map text ys ++ rest') (sym one ∙ other) in
      (ap (λ (z : X × List ℕ). z.0) same, ap (λ (z : X × List ℕ). z.1) same)

  pub one : (xs ys : List X) (bytes rest rest' : List ℕ) → Said bytes xs rest → IsLast rest → Said bytes ys rest' → IsLast rest' → (xs ≡ ys) × (rest ≡ rest')
  one [] [] bytes rest rest' p pn q qn = (refl, sym p.1 ∙ q.1)
  one [] (y ∷ ys) bytes rest rest' p pn q qn = absurd (pn y (flat_map text ys ++ rest') (ap next (sym p.1 ∙ q.1) ∙ first_is_next y ys rest' q.0.0))
  one (x ∷ xs) [] bytes rest rest' p pn q qn = absurd (qn x (flat_map text xs ++ rest) (ap next (sym q.1 ∙ p.1) ∙ first_is_next x xs rest p.0.0))
  one (x ∷ xs) (y ∷ ys) bytes rest rest' p pn q qn =
      let first = same_first x y xs ys bytes rest rest' p q in
      let more = one xs ys (flat_map text xs ++ rest) rest rest' (p.0.1, refl) pn (q.0.1, first.1) qn in
      (ap₂ (λ (z : X) (zs : List X). z ∷ zs) first.0 more.0, more.1)

  pub counted : (xs ys : List X) (bytes rest rest' : List ℕ) → Said bytes xs rest → Said bytes ys rest' → length xs ≡ length ys → (xs ≡ ys) × (rest ≡ rest')
  counted [] [] bytes rest rest' p q e = (refl, sym p.1 ∙ q.1)
  counted [] (y ∷ ys) bytes rest rest' p q e = absurd (omega (arith, e))
  counted (x ∷ xs) [] bytes rest rest' p q e = absurd (omega (arith, e))
  counted (x ∷ xs) (y ∷ ys) bytes rest rest' p q e =
      let first = same_first x y xs ys bytes rest rest' p q in
      let more = counted xs ys (flat_map text xs ++ rest) rest rest' (p.0.1, refl) (q.0.1, first.1) (omega (arith, e)) in
      (ap₂ (λ (z : X) (zs : List X). z ∷ zs) first.0 more.0, more.1)

  -- no frame begins another
  pub alone : (x y : X) (more : List ℕ) → Fits x → Fits y → text x ++ more ≡ text y → (x ≡ y) × (more ≡ [])
  alone x y more x_fits y_fits e =
      let same = same_found (x, more) (y, []) (sym (next_again reads x more x_fits) ∙ ap next (e ∙ sym (append-nil (text y))) ∙ next_again reads y [] y_fits) in
      (ap (λ (z : X × List ℕ). z.0) same, ap (λ (z : X × List ℕ). z.1) same)
