-- A request that is read from words keeps the limits.
use Rattle.std.proofs.Common.{◌≡◌, ℕ, ◌≤◌, Bool, true, false, List, [], ◌∷◌, length, Option, Some}
use Rattle.std.proofs.Common.{None}
use Rattle.std.proofs.Common.{Result, Ok, Err, inl, refl, sym, ap, subst, arith}
use Rattle.std.specs.Prelude.{bytes_eq, codes, if◌then◌else◌}
use Rattle.std.specs.Result.{result_unwrap_or}
use Rattle.std.specs.Str.{IsUtf8, is_utf8}
use Rattle.std.proofs.lemmas.Str.{IsUtf8-from_is_utf8, is_utf8-from_IsUtf8}
use Rattle.chord_map.specs.declared.pair.Pair.{Pair}
use Rattle.chord_map.specs.declared.request.Request.{Request}
use Rattle.chord_map.specs.declared.request.Request.TheVariants.{Retrieve}
use Rattle.chord_map.specs.Checked.{IsKey, IsRequest, IsValue}
use Rattle.chord_app_text.specs.Words.{words_of}
use Rattle.chord_app_text.specs.declared.word_fault.WordFault.{WordFault}
use Rattle.chord_app_text.specs.declared.word_fault.WordFault.TheVariants.{NoOperation, NoText}
use Rattle.chord_app_ask.specs.Requests.{bytes_of, fault_of_counts, insert_of, key_from, key_within}
use Rattle.chord_app_ask.specs.Requests.{mapped, pair_from, pair_within, remove_of, request_from}
use Rattle.chord_app_ask.specs.Requests.{IsRead, memory_for, request_in, request_on, unless}

unless_ok : {T : Type 0} (o : Option WordFault) (x y : T) → unless o x ≡ Ok y → (o ≡ None) × (x ≡ y)
unless_ok (Some why) x y h = cc h
unless_ok {T = T} None x y h = (refl, ap (λ (r : Result T WordFault). result_unwrap_or r x) h)

counts_within : (key value : ℕ) → fault_of_counts key value ≡ None
    → (1 ≤ key) × (key ≤ 255) × (value ≤ 4096)
counts_within key value h = grind arith

mapped_ok : {T U : Type 0} (f : T → U) (r : Result T WordFault) (y : U) → mapped f r ≡ Ok y
    → (x : T) × (r ≡ Ok x) × (f x ≡ y)
mapped_ok {U = U} f (Ok x) y h = (x, refl, ap (λ (r : Result U WordFault). result_unwrap_or r y) h)
mapped_ok f (Err why) y h = cc h

key_ok : (o : Option (List ℕ)) (key : List ℕ) → key_within o ≡ Ok key → IsKey key
key_ok None key h = cc h
key_ok (Some found) key h =
    let (none, same) = unless_ok (fault_of_counts (length found) 0) found key h in
    let (least, most, _) = counts_within (length found) 0 none in
    subst IsKey same (least, most)

abbrev IsWithin : Pair → Type 0
IsWithin pair = IsKey pair.key × IsValue pair.value

pair_ok : (k v : Option (List ℕ)) (pair : Pair) → pair_within k v ≡ Ok pair → IsWithin pair
pair_ok None v pair h = cc h
pair_ok (Some key) None pair h = cc h
pair_ok (Some key) (Some value) pair h =
    let (none, same) = unless_ok (fault_of_counts (length key) (length value))
    (record { key = key; value = value }) pair h in
    let (least, most, few) = counts_within (length key) (length value) none in
    subst IsWithin same ((least, most), few)

key_from_ok : (k v : Option (List ℕ)) (key : List ℕ) → key_from k v ≡ Ok key → IsKey key
key_from_ok None v key h = cc h
key_from_ok (Some word) None key h = key_ok (bytes_of word) key h
key_from_ok (Some word) (Some more) key h = cc h

pair_from_ok : (k v : Option (List ℕ)) (more : Bool) (pair : Pair) → pair_from k v more ≡ Ok pair
    → IsWithin pair
pair_from_ok None v more pair h = cc h
pair_from_ok (Some key) None more pair h = cc h
pair_from_ok (Some key) (Some value) true pair h = cc h
pair_from_ok (Some key) (Some value) false pair h = pair_ok (bytes_of key) (bytes_of value) pair h

request_if : (a b c : Bool) (k v : Option (List ℕ)) (more : Bool) (request : Request)
    → (if a then mapped insert_of (pair_from k v more)
    else if b then mapped Retrieve (key_from k v)
    else if c then mapped remove_of (pair_from k v more)
    else Err NoOperation) ≡ Ok request → IsRequest request
request_if true b c k v more request h =
    let (pair, is, same) = mapped_ok insert_of (pair_from k v more) request h in
    subst IsRequest same (pair_from_ok k v more pair is)
request_if false true c k v more request h =
    let (key, is, same) = mapped_ok Retrieve (key_from k v) request h in
    subst IsRequest same (key_from_ok k v key is, omega arith)
request_if false false true k v more request h =
    let (pair, is, same) = mapped_ok remove_of (pair_from k v more) request h in
    subst IsRequest same (pair_from_ok k v more pair is)
request_if false false false k v more request h = cc h

pub request_ok : (operation : List ℕ) (k v : Option (List ℕ)) (more : Bool) (request : Request)
    → request_from operation k v more ≡ Ok request → IsRequest request
request_ok operation k v more request h =
    request_if (bytes_eq operation (codes "insert")) (bytes_eq operation (codes "retrieve"))
    (bytes_eq operation (codes "remove")) k v more request h

-- ---- the request on a line

-- what is read from the text of a line is what stands on it
pub text_read : (line text : List ℕ) (found r : Result Request WordFault) (takes : Bool)
    → IsUtf8 line → text ≡ line → found ≡ request_in (words_of text)
    → takes ≡ memory_for (words_of text) → IsRead found takes r
    → IsRead (request_on line) (memory_for (words_of line)) r
text_read line text found r takes utf8 same is memory read =
    let one = subst (λ (f : Result Request WordFault). IsRead f takes r) is read in
    let two = subst (λ (m : Bool). IsRead (request_in (words_of text)) m r) memory one in
    let three =
    subst (λ (t : List ℕ). IsRead (request_in (words_of t)) (memory_for (words_of t)) r) same two in
    subst
    (λ (b : Bool).
    IsRead (if b then request_in (words_of line) else Err NoText) (memory_for (words_of line)) r)
    (sym (is_utf8-from_IsUtf8 line utf8)) three

no_text_at : (line : List ℕ) (b : Bool) → is_utf8 line ≡ b → (IsUtf8 line → ⊥)
    → Err NoText ≡ (if b then request_in (words_of line) else Err NoText)
no_text_at line true e bad = absurd (bad (IsUtf8-from_is_utf8 line e))
no_text_at line false e bad = refl

-- a line that is no text has that fault
pub no_text : (line : List ℕ) → (IsUtf8 line → ⊥)
    → IsRead (request_on line) (memory_for (words_of line)) (Err NoText)
no_text line bad = inl (no_text_at line (is_utf8 line) refl bad)
