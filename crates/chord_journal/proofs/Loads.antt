-- The map that the changes of a history make.
use Rattle.std.proofs.Common.{◌≡◌, ◌≢◌, ℕ, List, [], ◌∷◌, ◌++◌, refl, sym, ap, ◌∙◌, bytes_eq}
use Rattle.chord_map.specs.declared.done.Done.{Done}
use Rattle.chord_map.specs.declared.pair.Pair.{Pair}
use Rattle.chord_map.specs.declared.request.Request.{Request}
use Rattle.chord_map.specs.declared.request.Request.TheVariants.{Insert, Remove}
use Rattle.chord_map.specs.declared.reply.Reply.{Reply}
use Rattle.chord_map.specs.declared.reply.Reply.TheVariants.{Added, Removed}
use Rattle.chord_map.specs.Map.{key_of, has_pair, values_at, reply_to, pairs_after, pairs_by}
use Rattle.chord_map.specs.History.{replay, Replies}
use Rattle.chord_map.proofs.Lists.{by_test, not_both}
use Rattle.chord_map.proofs.MapLemmas.{pair_of, bytes_same, bytes_itself, RisingPairs, AgreeAt, values_same, reply_same, by_same, by_other}
use Rattle.chord_map.proofs.HistoryLemmas.{rises_after}
use Rattle.chord_journal.specs.Loading.{change_by, changes, load, under}

-- a request that was given its reply leaves the map that its change makes
one_change : (request : Request) (reply : Reply) (pairs : List Pair) → reply ≡ reply_to request pairs
    → load pairs (change_by request reply) ≡ pairs_after request pairs
unfolding pairs_after
one_change (Insert key value) Added pairs e = refl
one_change (Remove key value) Removed pairs e = refl
one_change request reply pairs e = ap (λ (r : Reply). pairs_by request r pairs) e

load_more : (pairs : List Pair) (a b : List Request) → load pairs (a ++ b) ≡ load (load pairs a) b
load_more pairs [] b = refl
load_more pairs (request ∷ a) b = load_more (pairs_after request pairs) a b

pub same_map : (pairs : List Pair) (dones : List Done) → Replies pairs dones → load pairs (changes dones) ≡ replay pairs dones
same_map pairs [] r = refl
same_map pairs (done ∷ dones) r =
    load_more pairs (change_by done.request done.reply) (changes dones)
    ∙ ap (λ (p : List Pair). load p (changes dones)) (one_change done.request done.reply pairs r.0)
    ∙ same_map (pairs_after done.request pairs) dones r.1

-- ---- each key by itself

abbrev AreLike : List ℕ → List Pair → List Pair → Type 0
AreLike key a b = RisingPairs a × RisingPairs b × AgreeAt key a b

agree_after : (request : Request) (a b : List Pair) → AreLike (key_of request) a b → AgreeAt (key_of request) (pairs_after request a) (pairs_after request b)
unfolding pairs_after
agree_after request a b like value =
    ap (λ (reply : Reply). has_pair (pair_of (key_of request) value) (pairs_by request reply a)) (reply_same request a b like.0 like.1 like.2)
    ∙ by_same request (reply_to request b) (pair_of (key_of request) value) a b (like.2 value)

other_after : (request : Request) (key : List ℕ) (a b : List Pair) → key ≢ key_of request → AgreeAt key a b → AgreeAt key (pairs_after request a) b
unfolding pairs_after
other_after request key a b apart agree value =
    by_other request (reply_to request a) (pair_of key value) a apart ∙ agree value

like_after : (request : Request) (key : List ℕ) (a b : List Pair) → key_of request ≡ key → AreLike key a b → AreLike key (pairs_after request a) (pairs_after request b)
like_after request key a b e like = (
  rises_after request a like.0,
  rises_after request b like.1,
  rw e at (agree_after request a b (rw e like)),
)

like_other : (request : Request) (key : List ℕ) (a b : List Pair) → key ≢ key_of request → AreLike key a b → AreLike key (pairs_after request a) b
like_other request key a b apart like =
    (rises_after request a like.0, like.1, other_after request key a b apart like.2)

key_alone : (key : List ℕ) (requests : List Request) (a b : List Pair) → AreLike key a b → AreLike key (load a requests) (load b (under key requests))
key_alone key [] a b like = like
key_alone key (request ∷ requests) a b like =
    by_test (bytes_eq (key_of request) key)
    (λ t. rw t (key_alone key requests (pairs_after request a) (pairs_after request b) (like_after request key a b (bytes_same (key_of request) key t) like)))
    (λ f. rw f (key_alone key requests (pairs_after request a) b
    (like_other request key a b (λ e. not_both (bytes_eq (key_of request) key) (bytes_itself (key_of request) key (sym e)) f) like)))

none_like : (key : List ℕ) → AreLike key [] []
none_like key = (tt, tt, λ value. refl)

-- the values under a key are those that the requests on it alone make
values_alone : (key : List ℕ) (requests : List Request) → values_at key (load [] requests) ≡ values_at key (load [] (under key requests))
values_alone key requests =
    let like = key_alone key requests [] [] (none_like key) in
    values_same key (load [] requests) (load [] (under key requests)) like.0 like.1 like.2

-- a journal that has each key's changes in the order of the history makes the same map, in whatever order the keys come
pub merged_map : (key : List ℕ) (dones : List Done) (requests : List Request) → Replies [] dones → under key requests ≡ under key (changes dones)
    → values_at key (load [] requests) ≡ values_at key (replay [] dones)
merged_map key dones requests r e =
    values_alone key requests
    ∙ ap (λ (rs : List Request). values_at key (load [] rs)) e
    ∙ sym (values_alone key (changes dones))
    ∙ ap (values_at key) (same_map [] dones r)
