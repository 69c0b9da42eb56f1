-- Little is kept of a command that has not come whole.
use Rattle.std.proofs.Common.{◌≡◌, ℕ, zero, ◌+◌, ◌-◌, ◌≤◌, Bool, true, false, cond, eqb, leb, ltb, suc, List, [], ◌∷◌, ◌++◌, map, length, Option, Some, None, Result, Ok, Err, inl, inr, refl, subst, true≢false, arith, length-append}
use Rattle.std.specs.List.{AllByRecursion}
use Rattle.std.proofs.lemmas.Bool.{both_ways, cases_Bool, leb-false, leb-true, ltb-false, or_parts}
use Rattle.chord_resp.specs.declared.reading.phase.Phase.{Phase}
use Rattle.chord_resp.specs.declared.reading.phase.Phase.TheVariants as phase
use Rattle.chord_resp.specs.declared.reading.protocol_error.ProtocolError.{ProtocolError}
use Rattle.chord_resp.specs.declared.reading.protocol_error.ProtocolError.TheVariants.{BadCount, NoDollar, BadLength, TooLong, Unbalanced, Foreign}
use Rattle.chord_resp.specs.declared.reading.word.Word.{Word}
use Rattle.chord_resp.specs.declared.reading.word.Word.TheVariants.{Whole, Long}
use Rattle.chord_resp.specs.Foreign.{is_foreign}
use Rattle.chord_resp.specs.Quotes.{words_in}
use Rattle.chord_resp.specs.Machine.{State, Outcome, Goes, Gives, Fails, count_on, count_step, count_end_step, body_step, end_step, is_known_behind, is_left_out, kept, less, line_given, line_of, line_step, longer, mark_step, size_end_step, size_on, size_step, start, step, went, without_return, word_behind, word_ended, word_kept, word_of, words_with}
use Rattle.chord_resp.specs.Reading.{Ending, Open, Broken, KeepsLittle, Reading, after, reading, word_bytes}

abbrev IsSmall : Word → Type 0
IsSmall word = word_bytes word ≤ 4096

-- this many bytes are kept of a word of this length, of which more are to come
record BodyFits (words : List Word) (count left n : ℕ) : Type 0 where
  within : n + left ≤ count
  out : is_left_out words count ≡ true → n ≡ 0

-- this many bytes are kept in this phase
PartialFits : Phase → List Word → ℕ → Type 0
PartialFits phase.Line words n = n ≤ 65536
PartialFits (phase.Body count left) words n = BodyFits words count left n
PartialFits (phase.End count) words n = BodyFits words count 0 n
PartialFits _ words n = n ≡ 0

record Fits (s : State) : Type 0 where
  words : length s.words ≤ 1025
  each : AllByRecursion IsSmall s.words
  partial : PartialFits s.phase s.words (length s.partial)

-- where reading goes on
FitsOn : Outcome → Type 0
FitsOn (Goes t) = Fits t
FitsOn (Gives words) = Unit {0}
FitsOn (Fails e) = Unit {0}

either : {X : Type 0} (P : X → Type 0) (b : Bool) (x y : X) → (b ≡ true → P x) → (b ≡ false → P y) → P (cond b x y)
either P true x y f g = f refl
either P false x y f g = g refl

starts : Fits start
unfolding PartialFits
starts = record { words = omega arith; each = tt; partial = refl }

-- ---- phases

FitsIn : List Word → ℕ → Result Phase ProtocolError → Type 0
FitsIn words n (Ok p) = PartialFits p words n
FitsIn words n (Err e) = Unit {0}

goes_in : (s : State) (r : Result Phase ProtocolError) → Fits s → FitsIn s.words (length s.partial) r → FitsOn (went s r)
unfolding FitsOn FitsIn
goes_in s (Ok p) fits in_phase = record { words = fits.words; each = fits.each; partial = in_phase }
goes_in s (Err e) fits in_phase = tt

module _ (words : List Word) (n : ℕ) (none : n ≡ 0) where
  counted : (digits : ℕ) (o : Option ℕ) → FitsIn words n (count_on digits o)
  unfolding FitsIn PartialFits
  counted digits None = tt
  counted digits (Some number) = none

  sized : (digits : ℕ) (o : Option ℕ) → FitsIn words n (size_on digits o)
  unfolding FitsIn PartialFits
  sized digits None = tt
  sized digits (Some number) = none

  count_fits : (digits number byte : ℕ) → FitsIn words n (count_step digits number byte)
  unfolding FitsIn PartialFits
  count_fits digits number byte =
      either (FitsIn words n) (eqb byte 13) _ _
      (λ _. either (FitsIn words n) (eqb digits 0) _ _ (λ _. tt) (λ _. none))
      (λ _. either (FitsIn words n) (leb 32 digits) _ _ (λ _. tt) (λ _. counted digits (longer 1048576 number byte)))

  mark_fits : (byte : ℕ) → FitsIn words n (mark_step byte)
  unfolding FitsIn PartialFits
  mark_fits byte = either (FitsIn words n) (eqb byte 36) _ _ (λ _. none) (λ _. tt)

  size_fits : (digits number byte : ℕ) → FitsIn words n (size_step digits number byte)
  unfolding FitsIn PartialFits
  size_fits digits number byte =
      either (FitsIn words n) (eqb byte 13) _ _
      (λ _. either (FitsIn words n) (eqb digits 0) _ _ (λ _. tt) (λ _. none))
      (λ _. either (FitsIn words n) (leb 32 digits) _ _ (λ _. tt) (λ _. sized digits (longer 1048576 number byte)))

-- ---- lines

given_fits : (words : List Word) → FitsOn (line_given words)
unfolding FitsOn
given_fits [] = starts
given_fits (word ∷ words) = tt

line_fits : (all : Option (List (List ℕ))) → FitsOn (line_of all)
unfolding FitsOn
line_fits None = tt
line_fits (Some words) =
    either FitsOn (is_foreign words) _ _ (λ _. tt)
    (λ _. either FitsOn (ltb 1024 (length words)) _ _ (λ _. tt) (λ _. given_fits (map word_of words)))

byte_fits : (s : State) (byte : ℕ) → Fits s → FitsOn (line_step s byte)
unfolding FitsOn PartialFits
byte_fits s byte fits =
    either FitsOn (eqb byte 10) _ _ (λ _. line_fits (words_in (without_return s.partial)))
    (λ _. either FitsOn (eqb byte 0) _ _ (λ _. tt)
    (λ _. either FitsOn (leb 65536 (length s.partial)) _ _ (λ _. tt)
    (λ full. record {
      words = fits.words;
      each = fits.each;
      partial = let less = leb-false 65536 (length s.partial) full in omega (arith, less, length-append s.partial (byte ∷ []));
    })))

-- ---- words

count_ends : (s : State) (number byte : ℕ) → FitsOn (count_end_step s number byte)
unfolding FitsOn PartialFits
count_ends s number byte =
    either FitsOn (eqb byte 10) _ _
    (λ _. either FitsOn (eqb number 0) _ _ (λ _. starts) (λ _. record { words = omega arith; each = tt; partial = refl }))
    (λ _. tt)

size_ends : (s : State) (number byte : ℕ) → Fits s → length s.partial ≡ 0 → FitsOn (size_end_step s number byte)
unfolding FitsOn PartialFits
size_ends s number byte fits none =
    either FitsOn (eqb byte 10) _ _
    (λ _. either FitsOn (ltb s.left.bytes number) _ _ (λ _. tt) (λ _. record {
      words = fits.words;
      each = fits.each;
      partial = record { within = omega (arith, none); out = λ _. none };
    }))
    (λ _. tt)

some_left : (left : ℕ) → eqb left 0 ≡ false → 1 ≤ left
some_left zero none = absurd (true≢false none)
some_left (suc left) none = omega arith

kept_fits : (words : List Word) (count left : ℕ) (p : List ℕ) (byte : ℕ) → BodyFits words count left (length p) → eqb left 0 ≡ false → BodyFits words count (left - 1) (length (kept words count p (byte ∷ [])))
kept_fits words count left p byte fits some =
    either (λ (q : List ℕ). BodyFits words count (left - 1) (length q)) (is_left_out words count) p (p ++ byte ∷ [])
    (λ out. record { within = omega (arith, fits.within); out = fits.out })
    (λ short. record {
      within = let more = some_left left some in omega (arith, more, fits.within, length-append p (byte ∷ []));
      out = λ out. absurd (both_ways (is_left_out words count) short out);
    })

body_fits : (s : State) (count left byte : ℕ) → Fits s → BodyFits s.words count left (length s.partial) → FitsOn (body_step s count left byte)
unfolding FitsOn FitsIn PartialFits
body_fits s count left byte fits body =
    either FitsOn (eqb left 0) _ _
    (λ none. goes_in s (cond (eqb byte 13) (Ok (phase.End count)) (Err BadLength)) fits
    (either (FitsIn s.words (length s.partial)) (eqb byte 13) (Ok (phase.End count)) (Err BadLength)
    (λ _. record { within = omega (arith, body.within); out = body.out }) (λ _. tt)))
    (λ some. record { words = fits.words; each = fits.each; partial = kept_fits s.words count left s.partial byte body some })

small : (words : List Word) (count : ℕ) (p : List ℕ) → BodyFits words count 0 (length p) → IsSmall (word_behind words count p)
small words count p fits =
    either IsSmall (is_left_out words count) (Long count) (Whole p) (λ _. omega arith)
    (λ short. let few = ltb-false 4096 count (or_parts (ltb 4096 count) (leb 1024 (length words)) short).0 in omega (arith, few, fits.within))

one_more : (words : List Word) (word : Word) → AllByRecursion IsSmall words → IsSmall word → AllByRecursion IsSmall (words ++ word ∷ [])
one_more [] word each is = (is, tt)
one_more (x ∷ xs) word each is = (each.0, one_more xs word each.1 is)

record KeepsFew (words : List Word) : Type 0 where
  count : length words ≤ 1025
  each : AllByRecursion IsSmall words

with_one : (words : List Word) (count : ℕ) (p : List ℕ) → KeepsFew words → BodyFits words count 0 (length p) → KeepsFew (words_with words count p)
with_one words count p few fits =
    either KeepsFew (is_known_behind words) (words ++ word_behind words count p ∷ []) words
    (λ behind. record {
      count = let le = leb-true (length words) 1024 behind in omega (arith, le, length-append words (word_behind words count p ∷ []));
      each = one_more words (word_behind words count p) few.each (small words count p fits);
    })
    (λ _. few)

end_fits : (s : State) (count byte : ℕ) → Fits s → BodyFits s.words count 0 (length s.partial) → FitsOn (end_step s count byte)
unfolding FitsOn PartialFits
end_fits s count byte fits body =
    let all = with_one s.words count s.partial (record { count = fits.words; each = fits.each }) body in
    either FitsOn (eqb byte 10) _ _
    (λ _. either FitsOn (leb s.left.words 1) _ _ (λ _. tt) (λ _. record { words = all.count; each = all.each; partial = refl }))
    (λ _. tt)

-- ---- any byte

fits_at : (p : Phase) (s : State) (byte : ℕ) → s.phase ≡ p → Fits s → FitsOn (step s byte)
unfolding step FitsIn PartialFits
fits_at phase.Start s byte is fits =
    rw is (either FitsOn (eqb byte 42) _ _ (λ _. goes_in s (Ok (phase.Count 0 0)) fits (rw is at fits.partial)) (λ _. byte_fits s byte fits))
fits_at phase.Line s byte is fits = rw is (byte_fits s byte fits)
fits_at (phase.Count digits number) s byte is fits = rw is (goes_in s (count_step digits number byte) fits (count_fits s.words (length s.partial) (rw is at fits.partial) digits number byte))
fits_at (phase.CountEnd number) s byte is fits = rw is (count_ends s number byte)
fits_at phase.Mark s byte is fits = rw is (goes_in s (mark_step byte) fits (mark_fits s.words (length s.partial) (rw is at fits.partial) byte))
fits_at (phase.Size digits number) s byte is fits = rw is (goes_in s (size_step digits number byte) fits (size_fits s.words (length s.partial) (rw is at fits.partial) digits number byte))
fits_at (phase.SizeEnd number) s byte is fits = rw is (size_ends s number byte fits (rw is at fits.partial))
fits_at (phase.Body count left) s byte is fits = rw is (body_fits s count left byte fits (rw is at fits.partial))
fits_at (phase.End count) s byte is fits = rw is (end_fits s count byte fits (rw is at fits.partial))

-- ---- a stream

FitsAtEnd : Ending → Type 0
FitsAtEnd (Open s) = Fits s
FitsAtEnd (Broken e) = Unit {0}

after_fits : (o : Outcome) (more : State → Reading) → FitsOn o → ((t : State) → Fits t → FitsAtEnd (more t).ending) → FitsAtEnd (after o more).ending
unfolding FitsOn FitsAtEnd
after_fits (Goes t) more fits on = on t fits
after_fits (Gives words) more fits on = on start starts
after_fits (Fails e) more fits on = tt

stream_fits : (s : State) (bytes : List ℕ) → Fits s → FitsAtEnd (reading s bytes).ending
unfolding reading FitsAtEnd
stream_fits s [] fits = fits
stream_fits s (byte ∷ bytes) fits = after_fits (step s byte) (λ t. reading t bytes) (fits_at s.phase s byte refl fits) (λ t fits. stream_fits t bytes fits)

body_few : (words : List Word) (count left n : ℕ) → BodyFits words count left n → n ≤ 65536
body_few words count left n fits =
    elim (cases_Bool (is_left_out words count)) [
      | inl out ↦ omega (arith, fits.out out)
      | inr short ↦ let few = ltb-false 4096 count (or_parts (ltb 4096 count) (leb 1024 (length words)) short).0 in omega (arith, few, fits.within)
    ]

partial_few : (p : Phase) (words : List Word) (n : ℕ) → PartialFits p words n → n ≤ 65536
unfolding PartialFits
partial_few phase.Start words n none = omega (arith, none)
partial_few phase.Line words n few = few
partial_few (phase.Count digits number) words n none = omega (arith, none)
partial_few (phase.CountEnd number) words n none = omega (arith, none)
partial_few phase.Mark words n none = omega (arith, none)
partial_few (phase.Size digits number) words n none = omega (arith, none)
partial_few (phase.SizeEnd number) words n none = omega (arith, none)
partial_few (phase.Body count left) words n fits = body_few words count left n fits
partial_few (phase.End count) words n fits = body_few words count 0 n fits

opened : (e : Ending) (s : State) → e ≡ Open s → FitsAtEnd e → Fits s
unfolding FitsAtEnd
opened e s is fits = subst FitsAtEnd is fits

pub little_kept : (bytes : List ℕ) (s : State) → (reading start bytes).ending ≡ Open s → KeepsLittle s
little_kept bytes s is =
    let fits = opened (reading start bytes).ending s is (stream_fits start bytes starts) in
    record { words = fits.words; each = fits.each; partial = partial_few s.phase s.words (length s.partial) fits.partial }
