-- A count and a length are read from their decimal digits.
use Rattle.std.proofs.Common.{◌≡◌, ℕ, ◌+◌, ◌-◌, ◌*◌, ◌/◌, ◌%◌, ◌^◌, ◌<◌, ◌≤◌, false, eqb, leb, List, [], ◌∷◌, ◌++◌, length, Some, refl, sym, ap, ap₂, ◌∙◌, append_assoc, arith, length-append}
use Rattle.std.specs.Prelude.{decimal}
use Rattle.std.proofs.lemmas.Bool.{le-ltb, ne_eqb}
use Rattle.std.proofs.lemmas.Bool.Decides.{nat_tests}
use Rattle.std.proofs.lemmas.Fmt.{decimal_by_steps, length-decimal-le}
use Rattle.chord_resp.specs.declared.reading.left.Left.{Left}
use Rattle.chord_resp.specs.declared.reading.phase.Phase.{Phase}
use Rattle.chord_resp.specs.declared.reading.phase.Phase.TheVariants as phase
use Rattle.chord_resp.specs.declared.reading.word.Word.{Word}
use Rattle.chord_resp.specs.Machine.{State, Outcome, Goes, step, longer}
use Rattle.chord_resp.specs.Reading.{reading, after}

-- the state in this phase
abbrev pub at : Phase → Left → List Word → List ℕ → State
at p left words partial = record { phase = p; left = left; words = words; partial = partial }

pub goes_by : (s t : State) (byte : ℕ) (rest : List ℕ) → step s byte ≡ Goes t → reading s (byte ∷ rest) ≡ reading t rest
unfolding reading
goes_by s t byte rest e = ap (λ (o : Outcome). after o (λ u. reading u rest)) e

digit_is : (most n byte : ℕ) → 48 ≤ byte → byte ≤ 57 → n * 10 + (byte - 48) ≤ most → longer most n byte ≡ Some (n * 10 + (byte - 48))
digit_is most n byte low high le =
    rw (le-ltb byte 48 low, le-ltb 57 byte high, le-ltb most (n * 10 + (byte - 48)) le) refl

not_return : (byte : ℕ) → 48 ≤ byte → eqb byte 13 ≡ false
not_return byte low = ne_eqb byte 13 (λ e. absurd (omega (arith, e)))

has_room : (k : ℕ) → k < 32 → leb 32 k ≡ false
has_room k lt = grind (arith, nat_tests)

-- a phase that reads a number up to the most
pub record ReadsNumber (most : ℕ) (phase_of : ℕ → ℕ → Phase) : Type 0 where
  pub digit : (k n byte : ℕ) (w : Left) (ws : List Word) (p : List ℕ) → k < 32 → 48 ≤ byte → byte ≤ 57 → n * 10 + (byte - 48) ≤ most
      → step (at (phase_of k n) w ws p) byte ≡ Goes (at (phase_of (k + 1) (n * 10 + (byte - 48))) w ws p)

pub counts : ReadsNumber 1048576 phase.Count
unfolding step
counts = record {
  digit = λ k n byte w ws p lt low high le. rw (not_return byte low, has_room k lt, digit_is 1048576 n byte low high le) refl;
}

pub sizes : ReadsNumber 1048576 phase.Size
unfolding step
sizes = record {
  digit = λ k n byte w ws p lt low high le. rw (not_return byte low, has_room k lt, digit_is 1048576 n byte low high le) refl;
}

module _ {most : ℕ} {phase_of : ℕ → ℕ → Phase} (reads : ReadsNumber most phase_of) (w : Left) (ws : List Word) (p : List ℕ) where
  abbrev IsRead : ℕ → List ℕ → Type 0
  IsRead n ds = n ≤ most → length ds ≤ 32 → (rest : List ℕ) → reading (at (phase_of 0 0) w ws p) (ds ++ rest) ≡ reading (at (phase_of (length ds) n) w ws p) rest

  one_digit : (n : ℕ) → n < 10 → IsRead n ((48 + n) ∷ [])
  one_digit n lt le len rest =
      let value : 0 * 10 + (48 + n - 48) ≡ n = omega arith in
      goes_by (at (phase_of 0 0) w ws p) (at (phase_of 1 n) w ws p) (48 + n) rest
      (reads.digit 0 0 (48 + n) w ws p (omega arith) (omega arith) (omega arith) (omega (arith, value)) ∙ ap (λ (m : ℕ). Goes (at (phase_of 1 m) w ws p)) value)

  more_digits : (n : ℕ) (ds : List ℕ) → 10 ≤ n → IsRead (n / 10) ds → IsRead n (ds ++ ((48 + n % 10) ∷ []))
  more_digits n ds ge front le len rest =
      let c = 48 + n % 10 in
      let count : length (ds ++ (c ∷ [])) ≡ length ds + 1 = length-append ds (c ∷ []) in
      let value : (n / 10) * 10 + (c - 48) ≡ n = omega arith in
      let small : n / 10 ≤ most = omega arith in
      let last = reads.digit (length ds) (n / 10) c w ws p (omega (arith, count)) (omega arith) (omega arith) (omega (arith, value)) in
      ap (reading (at (phase_of 0 0) w ws p)) (append_assoc ds (c ∷ []) rest)
      ∙ front small (omega (arith, count)) (c ∷ rest)
      ∙ goes_by (at (phase_of (length ds) (n / 10)) w ws p) (at (phase_of (length ds + 1) ((n / 10) * 10 + (c - 48))) w ws p) c rest last
      ∙ ap₂ (λ (k m : ℕ). reading (at (phase_of k m) w ws p) rest) (sym count) value

  -- the digits of a number are read as the number
  pub number_read : (n : ℕ) → n ≤ most → n < 2 ^ 64 → (rest : List ℕ) → reading (at (phase_of 0 0) w ws p) (decimal n ++ rest) ≡ reading (at (phase_of (length (decimal n)) n) w ws p) rest
  number_read n le fits rest = decimal_by_steps IsRead one_digit more_digits n fits le (omega (arith, length-decimal-le 20 n (omega arith) (omega (arith, fits)) fits)) rest
