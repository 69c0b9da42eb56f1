-- What a journal is read as, whole and cut.
use Rattle.std.proofs.Common.{◌≡◌, ℕ, ◌≤◌, ◌<◌, List, [], ◌∷◌, ◌++◌, map, length, take, refl, sym, ap, subst, ◌∙◌, append_assoc, arith}
use Rattle.std.specs.Prelude.{codes}
use Rattle.std.specs.List.{flat_map, AllByRecursion}
use Rattle.std.proofs.lemmas.List.{append-nil}
use Rattle.std.proofs.lemmas.List.Concat.{flat_map-cons, flat_map-append}
use Rattle.chord_map.specs.declared.done.Done.{Done}
use Rattle.chord_map.specs.declared.request.Request.{Request}
use Rattle.chord_map.specs.declared.request.Request.TheVariants.{Insert, Remove}
use Rattle.chord_map.specs.declared.reply.Reply.{Reply}
use Rattle.chord_map.specs.declared.reply.Reply.TheVariants.{Added, Removed}
use Rattle.chord_map.specs.Checked.{IsRequest}
use Rattle.chord_resp.specs.declared.reading.word.Word.{Word}
use Rattle.chord_resp.specs.Machine.{State, start, word_of}
use Rattle.chord_resp.specs.Reading.{Reading, Ending, Open, Broken, reading, with_commands, goes_on}
use Rattle.chord_resp.specs.Spelling.{AreWords, array}
use Rattle.chord_resp.proofs.ReadingLaws.{cut, nothing_read}
use Rattle.chord_resp.proofs.SpellingLaws.{array_read, array_cut}
use Rattle.chord_journal.specs.Journal.{words_by, words_of, spelled_by, spelled, journal}
use Rattle.chord_journal.specs.Loading.{AreRequests, BeginsAlike, commands_of}

arrays_read : (all : List (List (List ℕ))) (rest : List ℕ) → AllByRecursion AreWords all
    → reading start (flat_map array all ++ rest) ≡ with_commands (map (map word_of) all) (reading start rest)
arrays_read [] rest are = refl
arrays_read (words ∷ all) rest are =
    ap (λ (t : List ℕ). reading start (t ++ rest)) (flat_map-cons array words all)
    ∙ ap (reading start) (append_assoc (array words) (flat_map array all) rest)
    ∙ array_read words (flat_map array all ++ rest) are.0
    ∙ ap (with_commands (map word_of words ∷ [])) (arrays_read all rest are.1)

three_fit : (verb key value : List ℕ) → length verb ≤ 4 → length key ≤ 255 → length value ≤ 4096 → AreWords (verb ∷ (key ∷ (value ∷ [])))
three_fit verb key value v k m = record { some = omega arith; few = omega arith; each = (omega (arith, v), (omega (arith, k), (omega (arith, m), tt))) }

words_fit : (request : Request) (reply : Reply) → IsRequest request → AllByRecursion AreWords (words_by request reply)
words_fit (Insert key value) Added is = (three_fit (codes "SADD") key value (omega arith) is.0.1 is.1, tt)
words_fit (Remove key value) Removed is = (three_fit (codes "SREM") key value (omega arith) is.0.1 is.1, tt)
words_fit request reply is = tt

both_fit : (a b : List (List (List ℕ))) → AllByRecursion AreWords a → AllByRecursion AreWords b → AllByRecursion AreWords (a ++ b)
both_fit [] b fa fb = fb
both_fit (words ∷ a) b fa fb = (fa.0, both_fit a b fa.1 fb)

all_fit : (dones : List Done) → AreRequests dones → AllByRecursion AreWords (words_of dones)
all_fit [] are = tt
all_fit (done ∷ dones) are = both_fit (words_by done.request done.reply) (words_of dones) (words_fit done.request done.reply are.0) (all_fit dones are.1)

pub journal_read : (dones : List Done) (rest : List ℕ) → AreRequests dones → reading start (journal dones ++ rest) ≡ with_commands (commands_of dones) (reading start rest)
journal_read dones rest are = arrays_read (words_of dones) rest (all_fit dones are)

-- a journal grows by the command of one more call
words_grow : (dones : List Done) (done : Done) → words_of (dones ++ done ∷ []) ≡ words_of dones ++ words_by done.request done.reply
words_grow [] done = append-nil (words_by done.request done.reply)
words_grow (first ∷ dones) done =
    ap (λ (t : List (List (List ℕ))). words_by first.request first.reply ++ t) (words_grow dones done)
    ∙ sym (append_assoc (words_by first.request first.reply) (words_of dones) (words_by done.request done.reply))

pub journal_grows : (dones : List Done) (done : Done) → journal (dones ++ done ∷ []) ≡ journal dones ++ spelled done
journal_grows dones done = ap (flat_map array) (words_grow dones done) ∙ flat_map-append array (words_of dones) (words_by done.request done.reply)

-- ---- a file that was cut

whole_read : (dones : List Done) → AreRequests dones → reading start (journal dones) ≡ record { commands = commands_of dones; ending = Open start }
whole_read dones are =
    ap (reading start) (sym (append-nil (journal dones))) ∙ journal_read dones [] are ∙ ap (with_commands (commands_of dones)) (nothing_read start)
    ∙ ap (λ (c : List (List Word)). record { commands = c; ending = Open start }) (append-nil (commands_of dones))

open_before : (e : Ending) (back : List ℕ) (state : State) → (goes_on e back).ending ≡ Open state → (s : State) × (e ≡ Open s)
open_before (Open s) back state same = (s, refl)
open_before (Broken error) back state same = absurd cc

-- what is left of a journal that is cut anywhere begins as the whole one does
pub cut_read : (dones : List Done) (front back : List ℕ) → AreRequests dones → front ++ back ≡ journal dones
    → BeginsAlike (reading start front) (commands_of dones)
cut_read dones front back are e =
    let whole = sym (whole_read dones are) ∙ ap (reading start) (sym e) ∙ cut start front back in
    let ended = open_before (reading start front).ending back start (sym (ap (λ (r : Reading). r.ending) whole)) in
    record {
      later = (goes_on (reading start front).ending back).commands;
      same = ap (λ (r : Reading). r.commands) whole;
      state = ended.0;
      ends = ended.1;
    }

cut_command : (request : Request) (reply : Reply) (n : ℕ) → IsRequest request → n < length (spelled_by request reply)
    → (reading start (take n (spelled_by request reply))).commands ≡ []
cut_command (Insert key value) Added n is less =
    let words = codes "SADD" ∷ (key ∷ (value ∷ [])) in
    let alone : flat_map array (words ∷ []) ≡ array words = flat_map-cons array words [] ∙ append-nil (array words) in
    ap (λ (t : List ℕ). (reading start (take n t)).commands) alone
    ∙ array_cut words n (words_fit (Insert key value) Added is).0 (subst (λ (t : List ℕ). n < length t) alone less)
cut_command (Remove key value) Removed n is less =
    let words = codes "SREM" ∷ (key ∷ (value ∷ [])) in
    let alone : flat_map array (words ∷ []) ≡ array words = flat_map-cons array words [] ∙ append-nil (array words) in
    ap (λ (t : List ℕ). (reading start (take n t)).commands) alone
    ∙ array_cut words n (words_fit (Remove key value) Removed is).0 (subst (λ (t : List ℕ). n < length t) alone less)
cut_command request reply n is less = absurd (omega (arith, less))

-- a torn command at the end is no command
pub torn_read : (dones : List Done) (done : Done) (n : ℕ) → AreRequests dones → IsRequest done.request → n < length (spelled done)
    → (reading start (journal dones ++ take n (spelled done))).commands ≡ commands_of dones
torn_read dones done n are is less =
    ap (λ (r : Reading). r.commands) (journal_read dones (take n (spelled done)) are)
    ∙ ap (λ (c : List (List Word)). commands_of dones ++ c) (cut_command done.request done.reply n is less)
    ∙ append-nil (commands_of dones)
