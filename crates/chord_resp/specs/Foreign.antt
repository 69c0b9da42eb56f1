-- Lines that a browser writes and no client of Redis's protocol does. Source: our own; Redis ends a
-- connection at `POST` and `Host:`.
use Rattle.std.specs.Prelude.{ℕ, Bool, false, ◌&&◌, ◌||◌, not, List, [], ◌∷◌, take, codes, bytes_eq, is_some}
use Rattle.std.specs.Str.{str_eq_ignore_ascii_case}
use Rattle.chord_resp.specs.Table.{verb_named}

-- `POST`, or a word that begins with `host:`, in upper or lower case
abbrev pub begins_head : List ℕ → Bool
begins_head word = str_eq_ignore_ascii_case word (codes "post") || str_eq_ignore_ascii_case (take 5 word) (codes "host:")

-- three words, of which the first names no command and the last begins with `HTTP/`
abbrev pub is_request_line : List (List ℕ) → Bool
is_request_line (name ∷ target ∷ version ∷ []) = not (is_some (verb_named name)) && bytes_eq (take 5 version) (codes "HTTP/")
is_request_line _ = false

-- the words of a line of HTTP
unfoldable pub is_foreign : List (List ℕ) → Bool
is_foreign [] = false
is_foreign (word ∷ words) = begins_head word || is_request_line (word ∷ words)
