-- A line of few digits is read together.
use Rattle.std.proofs.Common.{◌≡◌, ◌≢◌, ℕ, ◌+◌, ◌-◌, ◌*◌, ◌<◌, ◌≤◌, false, eqb, List, [], inl, inr, drop, get_or, refl, sym, ap, ◌∙◌, arith}
use Rattle.std.proofs.lemmas.Bool.{le-ltb, ne_eqb}
use Rattle.chord_resp.specs.declared.reading.left.Left.{Left}
use Rattle.chord_resp.specs.declared.reading.phase.Phase.{Phase}
use Rattle.chord_resp.specs.declared.reading.phase.Phase.TheVariants as phase
use Rattle.chord_resp.specs.declared.reading.word.Word.{Word}
use Rattle.chord_resp.specs.Machine.{Goes, State, less, room_for, step}
use Rattle.chord_resp.specs.Reading.{reading, Skims}
use Rattle.chord_resp.specs.ShortLines.{HasDigit, EndsLine, HasShortLine}
use Rattle.chord_resp.proofs.NumberLaws.{at, ReadsNumber, counts, sizes}
use Rattle.chord_resp.proofs.ReadingLaws.{goes}

-- the digits of a line are read up to the line's end
record DigitsRead (phase_of : ℕ → ℕ → Phase) (bytes : List ℕ) (w : Left) (ws : List Word) (p : List ℕ) (number upto : ℕ) : Type 0 where
  count : ℕ
  some : 1 ≤ count
  line : EndsLine bytes (count + 1)
  end : upto ≡ count + 3
  read : reading (at (phase_of 0 0) w ws p) (drop 1 bytes) ≡ reading (at (phase_of count number) w ws p) (drop (count + 1) bytes)

module _ {most : ℕ} {phase_of : ℕ → ℕ → Phase} (reads : ReadsNumber most phase_of) (bytes : List ℕ) (w : Left) (ws : List Word) (p : List ℕ) where
  -- one more digit
  digit : (k n i d : ℕ) → HasDigit bytes i d → k < 32 → n * 10 + d ≤ most
      → reading (at (phase_of k n) w ws p) (drop i bytes) ≡ reading (at (phase_of (k + 1) (n * 10 + d)) w ws p) (drop (i + 1) bytes)
  digit k n i d has early fits =
      let value : 48 + d - 48 ≡ d = omega arith in
      let goes_on = reads.digit k n (48 + d) w ws p early (omega arith) (omega (arith, has.few)) (omega (arith, fits)) in
      goes (at (phase_of k n) w ws p) bytes i has.there (at (phase_of (k + 1) (n * 10 + d)) w ws p) (rw has.byte (rw value at goes_on))

  digits : (number upto : ℕ) → HasShortLine bytes number upto → 99 ≤ most → DigitsRead phase_of bytes w ws p number upto
  digits number upto (inl one) room =
      let value : 0 * 10 + number ≡ number = omega arith in
      record {
        count = 1;
        some = omega arith;
        line = one.line;
        end = omega (arith, one.end);
        read = rw value at (digit 0 0 1 number one.digit (omega arith) (omega (arith, room, one.digit.few)));
      }
  digits number upto (inr two) room =
      let value : 0 * 10 + two.tens ≡ two.tens = omega arith in
      let first = rw value at (digit 0 0 1 two.tens two.first (omega arith) (omega (arith, room, two.first.few))) in
      let second = rw (sym two.value) at (digit 1 two.tens 2 two.ones two.second (omega arith) (omega (arith, room, two.first.few, two.second.few))) in
      record {
        count = 2;
        some = omega arith;
        line = two.line;
        end = omega (arith, two.end);
        read = first ∙ second;
      }

-- a command of this many words begins
abbrev pub begun : ℕ → State
begun number = at phase.Mark (record { words = number; bytes = room_for number }) [] []

module _ (w : Left) (ws : List Word) (p : List ℕ) where
  mark_begins : step (at phase.Mark w ws p) 36 ≡ Goes (at (phase.Size 0 0) w ws p)
  unfolding step
  mark_begins = refl

  size_ends : (count number : ℕ) → eqb count 0 ≡ false → step (at (phase.Size count number) w ws p) 13 ≡ Goes (at (phase.SizeEnd number) w ws p)
  unfolding step
  size_ends count number some = rw some refl

  body_begins : (number : ℕ) → number ≤ w.bytes → step (at (phase.SizeEnd number) w ws p) 10 ≡ Goes (at (phase.Body number number) (less w number) ws p)
  unfolding step
  body_begins number room = rw (le-ltb w.bytes number room) refl

  command_begins : step (at phase.Start w ws p) 42 ≡ Goes (at (phase.Count 0 0) w ws p)
  unfolding step
  command_begins = refl

  count_ends : (count number : ℕ) → eqb count 0 ≡ false → step (at (phase.Count count number) w ws p) 13 ≡ Goes (at (phase.CountEnd number) w ws p)
  unfolding step
  count_ends count number some = rw some refl

  words_begin : (number : ℕ) → eqb number 0 ≡ false → step (at (phase.CountEnd number) w ws p) 10 ≡ Goes (begun number)
  unfolding step
  words_begin number some = rw some refl

-- the length of a word is read with its mark
pub size_read : (bytes : List ℕ) (w : Left) (ws : List Word) (p : List ℕ) (number upto : ℕ) → HasShortLine bytes number upto → get_or bytes 0 0 ≡ 36 → number ≤ w.bytes
    → Skims (at phase.Mark w ws p) bytes upto (at (phase.Body number number) (less w number) ws p)
size_read bytes w ws p number upto line mark room =
    let d = digits sizes bytes w ws p number upto line (omega arith) in
    let count = d.count in
    let some : eqb count 0 ≡ false = ne_eqb count 0 (λ e. absurd (omega (arith, e, d.some))) in
    let behind : count + 1 + 1 + 1 ≡ upto = omega (arith, d.end) in (
      omega (arith, d.line.there, d.end),
      goes (at phase.Mark w ws p) bytes 0 (omega (arith, d.line.there)) (at (phase.Size 0 0) w ws p) (rw mark (mark_begins w ws p))
          ∙ d.read
          ∙ goes (at (phase.Size count number) w ws p) bytes (count + 1) (omega (arith, d.line.there)) (at (phase.SizeEnd number) w ws p) (rw d.line.return (size_ends w ws p count number some))
          ∙ goes (at (phase.SizeEnd number) w ws p) bytes (count + 1 + 1) d.line.there (at (phase.Body number number) (less w number) ws p) (rw d.line.newline (body_begins w ws p number room))
          ∙ ap (λ (i : ℕ). reading (at (phase.Body number number) (less w number) ws p) (drop i bytes)) behind,
    )

-- the count of words is read with its mark
pub count_read : (bytes : List ℕ) (w : Left) (ws : List Word) (p : List ℕ) (number upto : ℕ) → HasShortLine bytes number upto → get_or bytes 0 0 ≡ 42 → number ≢ 0
    → Skims (at phase.Start w ws p) bytes upto (begun number)
count_read bytes w ws p number upto line mark more =
    let d = digits counts bytes w ws p number upto line (omega arith) in
    let count = d.count in
    let some : eqb count 0 ≡ false = ne_eqb count 0 (λ e. absurd (omega (arith, e, d.some))) in
    let behind : count + 1 + 1 + 1 ≡ upto = omega (arith, d.end) in (
      omega (arith, d.line.there, d.end),
      goes (at phase.Start w ws p) bytes 0 (omega (arith, d.line.there)) (at (phase.Count 0 0) w ws p) (rw mark (command_begins w ws p))
          ∙ d.read
          ∙ goes (at (phase.Count count number) w ws p) bytes (count + 1) (omega (arith, d.line.there)) (at (phase.CountEnd number) w ws p) (rw d.line.return (count_ends w ws p count number some))
          ∙ goes (at (phase.CountEnd number) w ws p) bytes (count + 1 + 1) d.line.there (begun number) (rw d.line.newline (words_begin w ws p number (ne_eqb number 0 more)))
          ∙ ap (λ (i : ℕ). reading (begun number) (drop i bytes)) behind,
    )
