-- What is answered as lines of text: a ring as a table, what was done to a node, a refusal, and
-- pairs as the inserts that put them in. Source: our own.
use Rattle.std.specs.Prelude.{ℕ, Bool, List, [], ◌∷◌, ◌++◌, ◌-◌, ◌/◌, ◌%◌, length, replicate, codes, decimal, nat_lt, if◌then◌else◌}
use Rattle.std.specs.List.{flat_map}
use Rattle.hex.specs.Hex.{encode_lower}
use Rattle.chord_app_operator.specs.declared.operator.pairs.Pair.{Pair}
use Rattle.chord_app_operator.specs.declared.request.refusal.Refusal.{Refusal}
use Rattle.chord_app_operator.specs.declared.show.table.Told.{Told}
use Rattle.chord_app_operator.specs.declared.sight.node.StoredNode.{StoredNode}
use Rattle.chord_sight.specs.declared.node.NodeSight.{NodeSight}
use Rattle.chord_sight.specs.declared.parts.OutboxSight.{OutboxSight}
use Rattle.chord_app_operator.specs.declared.sight.ring.RingSight.{RingSight}
use Rattle.chord_app_operator.specs.Json.{id_hex}
use Rattle.chord_app_operator.specs.Rows.{gone_of}
use Rattle.chord_app_operator.specs.Shares.{share_of}
use Rattle.chord_sight.specs.Phases.{phase_word}
use Rattle.chord_app_operator.specs.Words.{refusal_name}

-- spaces before a text, or behind it, up to this width
abbrev pub right : ℕ → List ℕ → List ℕ
right width text = replicate (width - length text) 32 ++ text

abbrev pub left : ℕ → List ℕ → List ℕ
left width text = text ++ replicate (width - length text) 32

-- hundredths of a percent, as `24.99%`
abbrev pub two_digits : ℕ → List ℕ
two_digits n = if nat_lt n 10 then codes "0" ++ decimal n else decimal n

abbrev pub share_text : ℕ → List ℕ
share_text n = right 3 (decimal (n / 100)) ++ (codes "." ++ (two_digits (n % 100) ++ codes "%"))

-- the handovers under way, as `64 to 1, 20 to 2`, or `-`
abbrev pub item_text : OutboxSight → List ℕ
item_text o = decimal o.pairs ++ (codes " to " ++ decimal o.to)

abbrev pub further_item : OutboxSight → List ℕ
further_item o = codes ", " ++ item_text o

abbrev pub outbox_text : List OutboxSight → List ℕ
outbox_text [] = codes "-"
outbox_text (o ∷ os) = item_text o ++ flat_map further_item os

-- the row of a node: which it is, what it holds, and what it gives away
abbrev pub name_cells : NodeSight → List ℕ
name_cells n =
    right 4 (decimal n.number) ++ (codes "  " ++ (id_hex n.id ++ (codes "  " ++ (left 8 (phase_word n.phase) ++ codes "  "))))

abbrev pub held_cells : NodeSight → List ℕ
held_cells n =
    share_text (share_of n.segments.items)
    ++ (codes "  " ++ (right 9 (decimal n.pairs) ++ (codes "  " ++ (right 8 (decimal (length n.segments.items)) ++ codes "  "))))

abbrev pub node_row : StoredNode → List ℕ
node_row n = name_cells n.sight ++ (held_cells n.sight ++ (outbox_text n.sight.outbox.items ++ codes "\n"))

-- what a server tells of itself: numbers, each with what stands behind it
abbrev pub told_text : Told → List ℕ
told_text told = decimal told.0 ++ told.1.now

abbrev pub with_words : ℕ × List ℕ → List ℕ
with_words c = decimal c.0 ++ c.1

unfoldable pub server_line : RingSight → List ℕ
server_line r = codes "up " ++ flat_map with_words (
    (r.uptime_ms / 1000, codes " s, ") ∷
    (length r.nodes.items, codes " of ") ∷
    (r.slots, codes " slots used, ") ∷
    (gone_of r, codes " gone, ") ∷
    (r.successors, codes " successors, ") ∷
    (r.connections, codes " connections, ") ∷
    (r.callers.open, codes " of ") ∷
    (r.callers.all, codes " callers open\n") ∷ [])

-- what is told where a crash was forced that the ring did not allow
abbrev pub premise_line : Bool → List ℕ
premise_line premise = if premise then [] else codes "a crash was forced that the ring did not allow: start a new ring\n"

abbrev pub server_lines : RingSight → List ℕ
server_lines r = server_line r ++ premise_line r.premise

-- a ring: the lines of the server, one with the names of the columns, and a row for each node
abbrev pub columns : List ℕ
columns = codes "node  identifier                        phase       share      pairs  segments  outbox\n"

unfoldable pub ring_table : RingSight → List ℕ
ring_table r = server_lines r ++ (columns ++ flat_map node_row r.nodes.items)

-- what was done to a node, as `node 4 joined`
abbrev pub node_deed : ℕ → List ℕ → List ℕ
node_deed node deed = codes "node " ++ decimal node ++ codes " " ++ deed ++ codes "\n"

-- why a request is refused
abbrev pub refusal_line : Refusal → List ℕ
refusal_line refusal = codes "refused " ++ refusal_name refusal ++ codes "\n"

-- bytes as a word behind a space: hexadecimal digits, or `-` for none
abbrev pub digits_or_none : List ℕ → List ℕ
digits_or_none [] = codes "-"
digits_or_none (b ∷ bs) = encode_lower (b ∷ bs)

abbrev pub bytes_word : List ℕ → List ℕ
bytes_word bytes = codes " x:" ++ digits_or_none bytes

-- the insert that puts a pair in, as a line of `chord ask`
abbrev pub pair_line : Pair → List ℕ
pair_line p = codes "insert" ++ (bytes_word p.key.items ++ (bytes_word p.value.items ++ codes "\n"))

abbrev pub pair_lines : List Pair → List ℕ
pair_lines pairs = flat_map pair_line pairs
