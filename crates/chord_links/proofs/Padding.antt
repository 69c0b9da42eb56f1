-- The array of a list of peers, as the list grows.
use Rattle.std.proofs.Common.{◌≡◌, ℕ, suc, ◌+◌, ◌-◌, ◌<◌, List, [], ◌∷◌, ◌++◌, length, take, set, replicate, arith, refl, ap, sym, ◌∙◌}
use Rattle.std.proofs.lemmas.List.{set_at, length-take-le, length_push, append_assoc, take_more_set}
use Rattle.chord_links.specs.declared.peer.Peer.{Peer}
use Rattle.chord_links.specs.PeerList.{free_peer, padded_array}

-- one more peer in the first free element
pub padded-push : (peers : List Peer) (peer : Peer) → length peers < 16 → set (padded_array peers) (length peers) peer ≡ padded_array (peers ++ peer ∷ [])
padded-push peers peer room =
    let free : 16 - length peers ≡ suc (16 - length (peers ++ peer ∷ [])) = omega (arith, length_push peers peer) in
    let rest = replicate (16 - length (peers ++ peer ∷ [])) free_peer in
    ap (λ n. set (peers ++ replicate n free_peer) (length peers) peer) free
    ∙ set_at peers free_peer rest peer (length peers) refl
    ∙ sym (append_assoc peers (peer ∷ []) rest)

-- one more peer in an array with a length
pub padded_more : (slots : List Peer) (len : ℕ) (peer : Peer) → len < 16 → length slots ≡ 16 → slots ≡ padded_array (take len slots)
    → set slots len peer ≡ padded_array (take (len + 1) (set slots len peer))
padded_more slots len peer room whole is_padded =
    let short : length (take len slots) ≡ len = length-take-le len slots (omega arith) in
    ap (λ s. set s len peer) is_padded
    ∙ ap (λ n. set (padded_array (take len slots)) n peer) (sym short)
    ∙ padded-push (take len slots) peer (omega arith)
    ∙ ap padded_array (sym (take_more_set slots len peer (omega arith)))
