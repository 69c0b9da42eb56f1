-- How long replies are.
use Rattle.std.proofs.Common.{ℕ, ◌*◌, ◌≤◌, List, [], ◌∷◌, length, ap, arith, ◌∙◌}
use Rattle.std.specs.List.{flat_map, AllByRecursion}
use Rattle.std.proofs.lemmas.List.{length-append}
use Rattle.std.proofs.lemmas.List.Concat.{flat_map-cons}
use Rattle.chord_map.specs.declared.reply.Reply.{Reply}
use Rattle.chord_map.specs.declared.reply.Reply.TheVariants.{Added, Present, SetFull, Values, Removed, Absent}
use Rattle.chord_map.specs.Checked.{IsValue}
use Rattle.chord_wire.specs.Spelling.{value_field}
use Rattle.chord_wire.specs.Replies.{reply_fields, reply_body, IsReply}

length_values : (values : List (List ℕ)) → AllByRecursion IsValue values → length (flat_map value_field values) ≤ 4098 * length values
length_values [] each = omega arith
length_values (value ∷ values) each =
    let cons = ap length (flat_map-cons value_field value values) ∙ length-append (value_field value) (flat_map value_field values) in
    omega (arith, cons, each.0, length_values values each.1)

length_fields : (reply : Reply) → IsReply reply → (1 ≤ length (reply_fields reply)) × (length (reply_fields reply) ≤ 4098004)
length_fields Added fits = (omega arith, omega arith)
length_fields Present fits = (omega arith, omega arith)
length_fields SetFull fits = (omega arith, omega arith)
length_fields (Values values) fits =
    (omega arith, omega (arith, fits.count, length_values values fits.each))
length_fields Removed fits = (omega arith, omega arith)
length_fields Absent fits = (omega arith, omega arith)

-- the lengths of answers
pub length_reply : (number : ℕ) (reply : Reply) → IsReply reply → (11 ≤ length (reply_body number reply)) × (length (reply_body number reply) ≤ 4098014)
length_reply number reply fits =
    let f = length_fields reply fits in
    (omega (arith, f.0), omega (arith, f.1))
