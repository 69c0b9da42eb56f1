-- A command that is written as an array is read.
use Rattle.std.proofs.Common.{◌≡◌, ℕ, suc, ◌+◌, ◌-◌, ◌*◌, take, drop, sym, ◌^◌, ◌<◌, ◌≤◌, true, false, eqb, ltb, leb, List, [], ◌∷◌, ◌++◌, map, length, refl, ap, ◌∙◌, append_assoc, arith, length-append, inl, inr}
use Rattle.std.specs.Prelude.{decimal}
use Rattle.std.specs.List.{flat_map, sum_by, AllByRecursion}
use Rattle.std.proofs.lemmas.Bool.{cases_Bool, le-leb, le-ltb, lt-leb, ne_eqb, or_right}
use Rattle.std.proofs.lemmas.Bool.Decides.{nat_tests}
use Rattle.std.proofs.lemmas.Fmt.{decimal_nonempty}
use Rattle.std.proofs.lemmas.List.{append-nil, length-map, length-take-le, take-append-drop, take-append-le}
use Rattle.std.proofs.lemmas.List.Sums.{sum_by-cons}
use Rattle.std.proofs.lemmas.List.Concat.{flat_map-cons}
use Rattle.chord_resp.specs.declared.reading.left.Left.{Left}
use Rattle.chord_resp.specs.declared.reading.phase.Phase.TheVariants as phase
use Rattle.chord_resp.specs.declared.reading.word.Word.{Word}
use Rattle.chord_resp.specs.declared.reading.word.Word.TheVariants.{Long}
use Rattle.chord_resp.specs.Machine.{State, Outcome, Goes, Gives, is_left_out, kept, less, nothing, room_for, start, step, word_kept, word_of, words_with}
use Rattle.chord_resp.specs.Reading.{Reading, reading, after, with_commands}
use Rattle.chord_resp.specs.Spelling.{newline, bulk, array, words_known, AreManyWords, AreWords}
use Rattle.chord_resp.proofs.ReadingLaws.{cut}
use Rattle.chord_resp.proofs.NumberLaws.{at, goes_by, counts, sizes, number_read}

pub gives_by : (s : State) (byte : ℕ) (rest : List ℕ) (words : List Word) → step s byte ≡ Gives words → reading s (byte ∷ rest) ≡ with_commands (words ∷ []) (reading start rest)
unfolding reading
gives_by s byte rest words e = ap (λ (o : Outcome). after o (λ u. reading u rest)) e

some_digits : (n : ℕ) → n < 2 ^ 64 → eqb (length (decimal n)) 0 ≡ false
some_digits n fits = ne_eqb (length (decimal n)) 0 (λ e. absurd (omega (arith, decimal_nonempty n fits, e)))

-- ---- the bytes of a word

kept_on : (ws : List Word) (count : ℕ) (p : List ℕ) (byte : ℕ) (bytes : List ℕ) → kept ws count (kept ws count p (byte ∷ [])) bytes ≡ kept ws count p (byte ∷ bytes)
kept_on ws count p byte bytes =
    elim (cases_Bool (is_left_out ws count)) [
      | inl out ↦ rw out refl
      | inr short ↦ rw short (append_assoc p (byte ∷ []) bytes)
    ]

body_byte : (w : Left) (ws : List Word) (p : List ℕ) (count left byte : ℕ) → step (at (phase.Body count (suc left)) w ws p) byte ≡ Goes (at (phase.Body count left) w ws (kept ws count p (byte ∷ [])))
unfolding step
body_byte w ws p count left byte =
    let some : eqb (suc left) 0 ≡ false = ne_eqb (suc left) 0 (λ e. absurd (omega (arith, e))) in
    let less : suc left - 1 ≡ left = omega arith in
    rw (some, less) refl

-- the first bytes of a word, and how many bytes of it are left
pub body_part : (w : Left) (ws : List Word) (p : List ℕ) (count left : ℕ) (bytes rest : List ℕ)
    → reading (at (phase.Body count (length bytes + left)) w ws p) (bytes ++ rest) ≡ reading (at (phase.Body count left) w ws (kept ws count p bytes)) rest
body_part w ws p count left [] rest =
    let none : length {A = ℕ} [] + left ≡ left = omega arith in
    elim (cases_Bool (is_left_out ws count)) [
      | inl out ↦ rw (none, out) refl
      | inr short ↦ rw (none, short, append-nil p) refl
    ]
body_part w ws p count left (byte ∷ bytes) rest =
    let one_less : length (byte ∷ bytes) + left ≡ suc (length bytes + left) = omega arith in
    rw one_less (goes_by (at (phase.Body count (suc (length bytes + left))) w ws p) (at (phase.Body count (length bytes + left)) w ws (kept ws count p (byte ∷ []))) byte (bytes ++ rest) (body_byte w ws p count (length bytes + left) byte)
    ∙ body_part w ws (kept ws count p (byte ∷ [])) count left bytes rest
    ∙ ap (λ (q : List ℕ). reading (at (phase.Body count left) w ws q) rest) (kept_on ws count p byte bytes))

body_read : (w : Left) (ws : List Word) (p : List ℕ) (count : ℕ) (bytes rest : List ℕ)
    → reading (at (phase.Body count (length bytes)) w ws p) (bytes ++ rest) ≡ reading (at (phase.Body count 0) w ws (kept ws count p bytes)) rest
body_read w ws p count bytes rest =
    let all : length bytes + 0 ≡ length bytes = omega arith in
    rw all at (body_part w ws p count 0 bytes rest)

-- the first bytes of a word, read together
pub skimmed : (w : Left) (ws : List Word) (p : List ℕ) (count left n : ℕ) (bytes : List ℕ) → n ≤ left → n ≤ length bytes
    → reading (at (phase.Body count left) w ws p) bytes ≡ reading (at (phase.Body count (left - n)) w ws (kept ws count p (take n bytes))) (drop n bytes)
skimmed w ws p count left n bytes few there =
    let taken : length (take n bytes) ≡ n = length-take-le n bytes there in
    let whole : length (take n bytes) + (left - n) ≡ left = omega (arith, taken, few) in
    ap (reading (at (phase.Body count left) w ws p)) (sym (take-append-drop n bytes))
    ∙ (rw whole at (body_part w ws p count (left - n) (take n bytes) (drop n bytes)))

-- ---- a word

after_digits : (w : Left) (ws : List Word) (p : List ℕ) (digits n : ℕ) → eqb digits 0 ≡ false → step (at (phase.Size digits n) w ws p) 13 ≡ Goes (at (phase.SizeEnd n) w ws p)
unfolding step
after_digits w ws p digits n some = rw some refl

begins : (w : Left) (ws : List Word) → step (at phase.Mark w ws []) 36 ≡ Goes (at (phase.Size 0 0) w ws [])
unfolding step
begins w ws = refl

after_size : (w : Left) (ws : List Word) (p : List ℕ) (n : ℕ) → n ≤ w.bytes → step (at (phase.SizeEnd n) w ws p) 10 ≡ Goes (at (phase.Body n n) (less w n) ws p)
unfolding step
after_size w ws p n room = rw (le-ltb w.bytes n room) refl

pub after_body : (w : Left) (ws : List Word) (p : List ℕ) (n : ℕ) → step (at (phase.Body n 0) w ws p) 13 ≡ Goes (at (phase.End n) w ws p)
unfolding step
after_body w ws p n = refl

regrouped : (word rest : List ℕ) → bulk word ++ rest ≡ 36 ∷ (decimal (length word) ++ (13 ∷ (10 ∷ (word ++ (13 ∷ (10 ∷ rest))))))
regrouped word rest =
    append_assoc (36 ∷ decimal (length word)) (newline ++ (word ++ newline)) rest
    ∙ ap (λ (t : List ℕ). 36 ∷ (decimal (length word) ++ (13 ∷ (10 ∷ t)))) (append_assoc word newline rest)

abbrev pub Short : List ℕ → Type 0
Short word = length word ≤ 1048576

-- a word whose `\n` is still to come
word_begun : (w : Left) (ws : List Word) (word rest : List ℕ) → Short word → length word ≤ w.bytes
    → reading (at phase.Mark w ws []) (36 ∷ (decimal (length word) ++ (13 ∷ (10 ∷ (word ++ (13 ∷ rest)))))) ≡ reading (at (phase.End (length word)) (less w (length word)) ws (kept ws (length word) [] word)) rest
word_begun w ws word rest short room =
    let n = length word in
    let digits = decimal n in
    let fits : n < 2 ^ 64 = omega (arith, short) in
    goes_by (at phase.Mark w ws []) (at (phase.Size 0 0) w ws []) 36 (digits ++ (13 ∷ (10 ∷ (word ++ (13 ∷ rest))))) (begins w ws)
    ∙ number_read sizes w ws [] n short fits (13 ∷ (10 ∷ (word ++ (13 ∷ rest))))
    ∙ goes_by (at (phase.Size (length digits) n) w ws []) (at (phase.SizeEnd n) w ws []) 13 (10 ∷ (word ++ (13 ∷ rest))) (after_digits w ws [] (length digits) n (some_digits n fits))
    ∙ goes_by (at (phase.SizeEnd n) w ws []) (at (phase.Body n n) (less w n) ws []) 10 (word ++ (13 ∷ rest)) (after_size w ws [] n room)
    ∙ body_read (less w n) ws [] n word (13 ∷ rest)
    ∙ goes_by (at (phase.Body n 0) (less w n) ws (kept ws n [] word)) (at (phase.End n) (less w n) ws (kept ws n [] word)) 13 rest (after_body (less w n) ws (kept ws n [] word) n)

word_read : (w : Left) (ws : List Word) (word rest : List ℕ) → Short word → length word ≤ w.bytes
    → reading (at phase.Mark w ws []) (bulk word ++ rest) ≡ reading (at (phase.End (length word)) (less w (length word)) ws (kept ws (length word) [] word)) (10 ∷ rest)
word_read w ws word rest short room = ap (reading (at phase.Mark w ws [])) (regrouped word rest) ∙ word_begun w ws word (10 ∷ rest) short room

-- the words with one more
abbrev pub one_more : List Word → List ℕ → List Word
one_more ws word = words_with ws (length word) word

whole_word : (ws : List Word) (word : List ℕ) → words_with ws (length word) (kept ws (length word) [] word) ≡ one_more ws word
whole_word ws word =
    elim (cases_Bool (is_left_out ws (length word))) [
      | inl out ↦ rw out refl
      | inr short ↦ rw short refl
    ]

last_word : (w : Left) (ws : List Word) (count : ℕ) (p : List ℕ) → w.words ≡ 1 → step (at (phase.End count) w ws p) 10 ≡ Gives (words_with ws count p)
unfolding step
last_word w ws count p one = rw one refl

next_word : (w : Left) (ws : List Word) (count : ℕ) (p : List ℕ) → 1 < w.words → step (at (phase.End count) w ws p) 10 ≡ Goes (word_kept w (words_with ws count p))
unfolding step
next_word w ws count p more =
    let many : leb w.words 1 ≡ false = grind (arith, nat_tests, more) in
    rw many refl

-- ---- the words

-- what is known of all words
collect : List Word → List (List ℕ) → List Word
collect ws [] = ws
collect ws (x ∷ xs) = collect (one_more ws x) xs

abbrev pub total : List (List ℕ) → ℕ
total words = sum_by (λ (word : List ℕ). length word) words

-- these words are still to come, and there is room for them
record Awaits (w : Left) (words : List (List ℕ)) : Type 0 where
  count : w.words ≡ length words
  room : total words ≤ w.bytes
  each : AllByRecursion Short words

first_fits : (w : Left) (x : List ℕ) (xs : List (List ℕ)) → Awaits w (x ∷ xs) → length x ≤ w.bytes
first_fits w x xs awaits = omega (arith, awaits.room, sum_by-cons (λ (word : List ℕ). length word) x xs)

others_fit : (w : Left) (x y : List ℕ) (ys : List (List ℕ)) → Awaits w (x ∷ (y ∷ ys)) → Awaits (record (less w (length x)) { words = w.words - 1 }) (y ∷ ys)
others_fit w x y ys awaits = record {
  count = let e : w.words ≡ suc (length (y ∷ ys)) = awaits.count in omega (arith, e);
  room = omega (arith, awaits.room, sum_by-cons (λ (word : List ℕ). length word) x (y ∷ ys));
  each = awaits.each.1;
}

others_come : (w : Left) (x y : List ℕ) (ys : List (List ℕ)) → Awaits w (x ∷ (y ∷ ys)) → 1 < w.words
others_come w x y ys awaits = let e : w.words ≡ suc (suc (length ys)) = awaits.count in omega (arith, e)

-- a word behind which others come
word_gone : (w : Left) (ws : List Word) (x y : List ℕ) (ys : List (List ℕ)) (rest : List ℕ) → Awaits w (x ∷ (y ∷ ys))
    → reading (at phase.Mark w ws []) (bulk x ++ rest) ≡ reading (at phase.Mark (record (less w (length x)) { words = w.words - 1 }) (one_more ws x) []) rest
word_gone w ws x y ys rest awaits =
    let n = length x in
    word_read w ws x rest awaits.each.0 (first_fits w x (y ∷ ys) awaits)
    ∙ goes_by (at (phase.End n) (less w n) ws (kept ws n [] x)) (word_kept (less w n) (words_with ws n (kept ws n [] x))) 10 rest (next_word (less w n) ws n (kept ws n [] x) (others_come w x y ys awaits))
    ∙ ap (λ (vs : List Word). reading (word_kept (less w n) vs) rest) (whole_word ws x)

words_read : (x : List ℕ) (xs : List (List ℕ)) (w : Left) (ws : List Word) (rest : List ℕ) → Awaits w (x ∷ xs)
    → reading (at phase.Mark w ws []) (flat_map bulk (x ∷ xs) ++ rest) ≡ with_commands (collect ws (x ∷ xs) ∷ []) (reading start rest)
unfolding collect
words_read x [] w ws rest awaits =
    let n = length x in
    ap (λ (t : List ℕ). reading (at phase.Mark w ws []) (t ++ rest)) (flat_map-cons bulk x [] ∙ append-nil (bulk x))
    ∙ word_read w ws x rest awaits.each.0 (first_fits w x [] awaits)
    ∙ gives_by (at (phase.End n) (less w n) ws (kept ws n [] x)) 10 rest (words_with ws n (kept ws n [] x)) (last_word (less w n) ws n (kept ws n [] x) awaits.count)
    ∙ ap (λ (vs : List Word). with_commands (vs ∷ []) (reading start rest)) (whole_word ws x)
words_read x (y ∷ ys) w ws rest awaits =
    let behind = flat_map bulk (y ∷ ys) ++ rest in
    ap (reading (at phase.Mark w ws [])) (ap (λ (t : List ℕ). t ++ rest) (flat_map-cons bulk x (y ∷ ys)) ∙ append_assoc (bulk x) (flat_map bulk (y ∷ ys)) rest)
    ∙ word_gone w ws x y ys behind awaits
    ∙ words_read y ys (record (less w (length x)) { words = w.words - 1 }) (one_more ws x) rest (others_fit w x y ys awaits)

-- ---- a command

starts : step start 42 ≡ Goes (at (phase.Count 0 0) nothing [] [])
unfolding step
starts = refl

counted : (digits n : ℕ) → eqb digits 0 ≡ false → step (at (phase.Count digits n) nothing [] []) 13 ≡ Goes (at (phase.CountEnd n) nothing [] [])
unfolding step
counted digits n some = rw some refl

-- a command of this many words has begun
abbrev expects : ℕ → Left
expects n = record { words = n; bytes = room_for n }

marks : (n : ℕ) → step (at (phase.CountEnd (suc n)) nothing [] []) 10 ≡ Goes (at phase.Mark (expects (suc n)) [] [])
unfolding step
marks n =
    let some : eqb (suc n) 0 ≡ false = ne_eqb (suc n) 0 (λ e. absurd (omega (arith, e))) in
    rw some refl

head_read : (k : ℕ) (behind : List ℕ) → suc k ≤ 1048576 → reading start (42 ∷ (decimal (suc k) ++ (13 ∷ (10 ∷ behind)))) ≡ reading (at phase.Mark (expects (suc k)) [] []) behind
head_read k behind few =
    let n = suc k in
    let digits = decimal n in
    let fits : n < 2 ^ 64 = omega (arith, few) in
    goes_by start (at (phase.Count 0 0) nothing [] []) 42 (digits ++ (13 ∷ (10 ∷ behind))) starts
    ∙ number_read counts nothing [] [] n few fits (13 ∷ (10 ∷ behind))
    ∙ goes_by (at (phase.Count (length digits) n) nothing [] []) (at (phase.CountEnd n) nothing [] []) 13 (10 ∷ behind) (counted (length digits) n (some_digits n fits))
    ∙ goes_by (at (phase.CountEnd n) nothing [] []) (at phase.Mark (expects n) [] []) 10 behind (marks k)

any_read : (x : List ℕ) (xs : List (List ℕ)) (rest : List ℕ) → length (x ∷ xs) ≤ 1048576 → Awaits (expects (length (x ∷ xs))) (x ∷ xs)
    → reading start (array (x ∷ xs) ++ rest) ≡ with_commands (collect [] (x ∷ xs) ∷ []) (reading start rest)
any_read x xs rest few awaits =
    ap (reading start) (append_assoc (42 ∷ decimal (length (x ∷ xs))) (newline ++ flat_map bulk (x ∷ xs)) rest)
    ∙ head_read (length xs) (flat_map bulk (x ∷ xs) ++ rest) few
    ∙ words_read x xs (expects (length (x ∷ xs))) [] rest awaits

-- ---- a command of at most 1,024 words

each_fits : (words : List (List ℕ)) → AllByRecursion Short words → total words ≤ length words * 1048576
each_fits [] each = omega arith
each_fits (x ∷ xs) each =
    omega (arith, each.0, each_fits xs each.1, sum_by-cons (λ (word : List ℕ). length word) x xs)

few_await : (words : List (List ℕ)) → AreWords words → Awaits (expects (length words)) words
few_await words are =
    let some : leb (length words) 1024 ≡ true = le-leb (length words) 1024 are.few in
    record {
      count = refl;
      room = rw some (omega (arith, are.few, each_fits words are.each));
      each = are.each;
    }

known : (ws : List Word) (x : List ℕ) → length ws < 1024 → one_more ws x ≡ ws ++ word_of x ∷ []
known ws x few =
    let among : leb 1024 (length ws) ≡ false = lt-leb 1024 (length ws) few in
    let behind : leb (length ws) 1024 ≡ true = le-leb (length ws) 1024 (omega (arith, few)) in
    elim (cases_Bool (ltb 4096 (length x))) [
      | inl long ↦ rw (behind, among, long) refl
      | inr short ↦ rw (behind, among, short) refl
    ]

collect_few : (ws : List Word) (xs : List (List ℕ)) → length ws + length xs ≤ 1024 → collect ws xs ≡ ws ++ map word_of xs
unfolding collect
collect_few ws [] few = sym (append-nil ws)
collect_few ws (x ∷ xs) few =
    let one : length (ws ++ word_of x ∷ []) ≡ length ws + 1 = length-append ws (word_of x ∷ []) in
    ap (λ (vs : List Word). collect vs xs) (known ws x (omega (arith, few)))
    ∙ collect_few (ws ++ word_of x ∷ []) xs (omega (arith, few, one))
    ∙ append_assoc ws (word_of x ∷ []) (map word_of xs)

pub array_read : (words : List (List ℕ)) (rest : List ℕ) → AreWords words → reading start (array words ++ rest) ≡ with_commands (map word_of words ∷ []) (reading start rest)
array_read [] rest are = absurd (omega (arith, are.some))
array_read (x ∷ xs) rest are =
    any_read x xs rest (omega (arith, are.few)) (few_await (x ∷ xs) are)
    ∙ ap (λ (vs : List Word). with_commands (vs ∷ []) (reading start rest)) (collect_few [] (x ∷ xs) (omega (arith, are.few)))

-- ---- a longer one

many_await : (words : List (List ℕ)) → AreManyWords words → Awaits (expects (length words)) words
many_await words are =
    let more : leb (length words) 1024 ≡ false = lt-leb (length words) 1024 are.many in
    record { count = refl; room = rw more are.total; each = are.each }

collect_on : (ws : List Word) (a b : List (List ℕ)) → collect ws (a ++ b) ≡ collect (collect ws a) b
unfolding collect
collect_on ws [] b = refl
collect_on ws (x ∷ a) b = collect_on (one_more ws x) a b

collect_full : (ws : List Word) (xs : List (List ℕ)) → 1024 < length ws → collect ws xs ≡ ws
unfolding collect
collect_full ws [] full = refl
collect_full ws (x ∷ xs) full =
    let more : leb (length ws) 1024 ≡ false = lt-leb (length ws) 1024 full in
    rw more (collect_full ws xs full)

collect_last : (ws : List Word) (xs : List (List ℕ)) → length ws ≡ 1024 → collect ws xs ≡ ws ++ map (λ (word : List ℕ). Long (length word)) (take 1 xs)
unfolding collect
collect_last ws [] all = sym (append-nil ws)
collect_last ws (x ∷ xs) all =
    let among : leb 1024 (length ws) ≡ true = le-leb 1024 (length ws) (omega (arith, all)) in
    let behind : leb (length ws) 1024 ≡ true = le-leb (length ws) 1024 (omega (arith, all)) in
    let one : length (ws ++ Long (length x) ∷ []) ≡ length ws + 1 = length-append ws (Long (length x) ∷ []) in
    let out : is_left_out ws (length x) ≡ true = or_right (ltb 4096 (length x)) (leb 1024 (length ws)) among in
    rw (behind, out) (collect_full (ws ++ Long (length x) ∷ []) xs (omega (arith, one, all)))

collect_many : (words : List (List ℕ)) → 1024 < length words → collect [] words ≡ words_known words
collect_many words many =
    let first = take 1024 words in
    let others = drop 1024 words in
    let count : length first ≡ 1024 = length-take-le 1024 words (omega (arith, many)) in
    let known_count : length (map word_of first) ≡ 1024 = length-map first word_of ∙ count in
    ap (collect []) (sym (take-append-drop 1024 words))
    ∙ collect_on [] first others
    ∙ ap (λ (vs : List Word). collect vs others) (collect_few [] first (omega (arith, count)))
    ∙ collect_last (map word_of first) others known_count

pub long_array_read : (words : List (List ℕ)) (rest : List ℕ) → AreManyWords words → reading start (array words ++ rest) ≡ with_commands (words_known words ∷ []) (reading start rest)
long_array_read [] rest are = absurd (omega (arith, are.many))
long_array_read (x ∷ xs) rest are =
    any_read x xs rest are.few (many_await (x ∷ xs) are)
    ∙ ap (λ (vs : List Word). with_commands (vs ∷ []) (reading start rest)) (collect_many (x ∷ xs) are.many)

-- ---- a command that is cut short

-- the words without the last `\n`
unended : List ℕ → List (List ℕ) → List ℕ
unended x [] = 36 ∷ (decimal (length x) ++ (13 ∷ (10 ∷ (x ++ (13 ∷ [])))))
unended x (y ∷ ys) = bulk x ++ unended y ys

ended : (x : List ℕ) (xs : List (List ℕ)) → flat_map bulk (x ∷ xs) ≡ unended x xs ++ 10 ∷ []
unfolding unended
ended x [] =
    flat_map-cons bulk x [] ∙ append-nil (bulk x)
    ∙ sym (ap (λ (t : List ℕ). 36 ∷ t) (append_assoc (decimal (length x)) (13 ∷ (10 ∷ (x ++ (13 ∷ [])))) (10 ∷ [])
    ∙ ap (λ (t : List ℕ). decimal (length x) ++ (13 ∷ (10 ∷ t))) (append_assoc x (13 ∷ []) (10 ∷ []))))
ended x (y ∷ ys) =
    flat_map-cons bulk x (y ∷ ys) ∙ ap (λ (t : List ℕ). bulk x ++ t) (ended y ys) ∙ sym (append_assoc (bulk x) (unended y ys) (10 ∷ []))

gives_none : (s : State) → (reading s []).commands ≡ []
unfolding reading
gives_none s = refl

words_begun : (x : List ℕ) (xs : List (List ℕ)) (w : Left) (ws : List Word) → Awaits w (x ∷ xs) → (reading (at phase.Mark w ws []) (unended x xs)).commands ≡ []
unfolding unended
words_begun x [] w ws awaits =
    let n = length x in
    ap (λ (r : Reading). r.commands) (word_begun w ws x [] awaits.each.0 (first_fits w x [] awaits)) ∙ gives_none (at (phase.End n) (less w n) ws (kept ws n [] x))
words_begun x (y ∷ ys) w ws awaits =
    ap (λ (r : Reading). r.commands) (word_gone w ws x y ys (unended y ys) awaits)
    ∙ words_begun y ys (record (less w (length x)) { words = w.words - 1 }) (one_more ws x) (others_fit w x y ys awaits)

none_first : (a b : List (List Word)) → a ++ b ≡ [] → a ≡ []
none_first [] b e = refl
none_first (x ∷ a) b e = absurd cc

-- the first bytes of a command are no command
pub array_cut : (words : List (List ℕ)) (n : ℕ) → AreWords words → n < length (array words) → (reading start (take n (array words))).commands ≡ []
array_cut [] n are less = absurd (omega (arith, are.some))
array_cut (x ∷ xs) n are less =
    let head = 42 ∷ decimal (length (x ∷ xs)) in
    let all = head ++ (newline ++ unended x xs) in
    let split : array (x ∷ xs) ≡ all ++ 10 ∷ [] = ap (λ (t : List ℕ). head ++ (newline ++ t)) (ended x xs) ∙ sym (append_assoc head (newline ++ unended x xs) (10 ∷ [])) in
    let longer : length (array (x ∷ xs)) ≡ length all + 1 = ap (λ (t : List ℕ). length t) split ∙ length-append all (10 ∷ []) in
    let shorter : n ≤ length all = omega (arith, less, longer) in
    let front : take n (array (x ∷ xs)) ≡ take n all = ap (take n) split ∙ take-append-le n all (10 ∷ []) shorter in
    let silent : (reading start all).commands ≡ [] = ap (λ (r : Reading). r.commands) (head_read (length xs) (unended x xs) (omega (arith, are.few))) ∙ words_begun x xs (expects (length (x ∷ xs))) [] (few_await (x ∷ xs) are) in
    let parts : (reading start (take n all ++ drop n all)).commands ≡ [] = ap (λ (t : List ℕ). (reading start t).commands) (take-append-drop n all) ∙ silent in
    ap (λ (t : List ℕ). (reading start t).commands) front
    ∙ none_first (reading start (take n all)).commands _ (sym (ap (λ (r : Reading). r.commands) (cut start (take n all) (drop n all))) ∙ parts)
