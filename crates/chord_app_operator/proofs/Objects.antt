-- Objects of bodies.
use Rattle.std.proofs.Common.{◌≡◌, ℕ, ◌<◌, ◌==◌, Bool, true, false, List, [], ◌∷◌, length, Some, None, Err, String, refl, arith}
use Rattle.std.specs.declared.alloc.Global.{Global}
use Rattle.std.specs.Str.{is_utf8, IsUtf8}
use Rattle.std.proofs.lemmas.Str.{is_utf8-from_IsUtf8, IsUtf8-from_is_utf8}
use Rattle.serde_json.specs.Data.{Data}
use Rattle.serde_json.specs.Read.{read}
use Rattle.serde_json.specs.View.{members_view}
use Rattle.serde_json.specs.declared.value.Value.{Value}
use Rattle.chord_app_operator.specs.declared.request.fault.Fault.TheVariants.{NotJson}
use Rattle.chord_app_operator.specs.Bodies.{members_len, body_object, if_object, object_of, read_utf8}

-- a map has as many members as its object
pub members_len_is : (entries : List (String Global × Value)) → members_len (members_view entries) ≡ length entries
members_len_is [] = refl
members_len_is (e ∷ entries) = grind (arith, members_len_is entries)

-- a text that is read, and one that is not
pub read_object : (text : List ℕ) (d : Data) → 0 < length text → IsUtf8 text → read text ≡ Some d → if_object d ≡ body_object text
read_object text d some utf8 is =
    let empty : (length text == 0) ≡ false = grind arith in
    rw (empty, is_utf8-from_IsUtf8 text utf8, is) refl

not_read : (text : List ℕ) (b : Bool) → is_utf8 text ≡ b → (IsUtf8 text → read text ≡ None) → object_of (read_utf8 text) ≡ Err NotJson
not_read text true e none = rw (e, none (IsUtf8-from_is_utf8 text e)) refl
not_read text false e none = rw e refl

pub no_object : (text : List ℕ) → 0 < length text → (IsUtf8 text → read text ≡ None) → Err NotJson ≡ body_object text
no_object text some none =
    let empty : (length text == 0) ≡ false = grind arith in
    rw (empty, not_read text (is_utf8 text) refl none) refl
