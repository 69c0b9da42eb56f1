-- What the commands of a journal call for.
use Rattle.std.proofs.Common.{◌≡◌, true, false, ltb, leb, List, [], ◌∷◌, ◌++◌, map, length, refl, sym, ap, ap₂, ◌∙◌, arith}
use Rattle.std.specs.Prelude.{Ok}
use Rattle.std.proofs.lemmas.Bool.{le-ltb}
use Rattle.std.proofs.lemmas.Bool.Decides.{nat_tests}
use Rattle.chord_map.specs.declared.done.Done.{Done}
use Rattle.chord_map.specs.declared.request.Request.{Request}
use Rattle.chord_map.specs.declared.request.Request.TheVariants.{Insert, Remove}
use Rattle.chord_map.specs.declared.reply.Reply.{Reply}
use Rattle.chord_map.specs.declared.reply.Reply.TheVariants.{Added, Removed}
use Rattle.chord_map.specs.Checked.{IsRequest}
use Rattle.chord_resp.specs.declared.reading.word.Word.{Word}
use Rattle.chord_resp.specs.Machine.{word_of}
use Rattle.chord_resp.specs.Table.{command_of, verb_named, set_command}
use Rattle.chord_journal.specs.Journal.{words_by, words_of}
use Rattle.chord_journal.specs.Loading.{AreRequests, commands_of, change_by, changes, command_for, CallFor}

one_called : (request : Request) (reply : Reply) → IsRequest request → CallFor (map (map word_of) (words_by request reply)) (change_by request reply)
unfolding command_of verb_named set_command
one_called (Insert key value) Added is =
    let k : ltb 4096 (length key) ≡ false = le-ltb 4096 (length key) (omega (arith, is.0.1)) in
    let v : ltb 4096 (length value) ≡ false = le-ltb 4096 (length value) is.1 in
    let some : leb 1 (length key) ≡ true = grind (arith, nat_tests, is.0.0) in
    let few : leb (length key) 255 ≡ true = grind (arith, nat_tests, is.0.1) in
    let short : leb (length value) 4096 ≡ true = grind (arith, nat_tests, is.1) in
    rw (k, v, some, few, short) refl
one_called (Remove key value) Removed is =
    let k : ltb 4096 (length key) ≡ false = le-ltb 4096 (length key) (omega (arith, is.0.1)) in
    let v : ltb 4096 (length value) ≡ false = le-ltb 4096 (length value) is.1 in
    let some : leb 1 (length key) ≡ true = grind (arith, nat_tests, is.0.0) in
    let few : leb (length key) 255 ≡ true = grind (arith, nat_tests, is.0.1) in
    let short : leb (length value) 4096 ≡ true = grind (arith, nat_tests, is.1) in
    rw (k, v, some, few, short) refl
one_called request reply is = refl

map_both : {X Y : Type 0} (f : X → Y) (a b : List X) → map f (a ++ b) ≡ map f a ++ map f b
map_both f [] b = refl
map_both f (x ∷ a) b = ap (λ t. f x ∷ t) (map_both f a b)

called_both : (a b : List (List Word)) (p q : List Request) → CallFor a p → CallFor b q → CallFor (a ++ b) (p ++ q)
called_both a b p q ea eb =
    map_both command_of a b ∙ ap₂ (λ s t. s ++ t) ea eb ∙ sym (map_both (λ (request : Request). Ok (command_for request)) p q)

pub all_called : (dones : List Done) → AreRequests dones → CallFor (commands_of dones) (changes dones)
all_called [] are = refl
all_called (done ∷ dones) are =
    ap (map command_of) (map_both (map word_of) (words_by done.request done.reply) (words_of dones))
    ∙ called_both (map (map word_of) (words_by done.request done.reply)) (commands_of dones) (change_by done.request done.reply) (changes dones)
    (one_called done.request done.reply are.0) (all_called dones are.1)
