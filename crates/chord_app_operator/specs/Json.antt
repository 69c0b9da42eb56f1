-- What is answered, as JSON (RFC 8259). Source: our own.
use Rattle.std.specs.Prelude.{ℕ, List, [], ◌∷◌, ◌++◌, map, fold, codes, Option, Some, None}
use Rattle.std.specs.Borrow.{Bor}
use Rattle.std.specs.Int.{to_be_bytes, w128}
use Rattle.hex.specs.Hex.{encode_lower}
use Rattle.serde_json.specs.Data.{Data, null, boolean, number, unsigned, string, array, object, Members, no_members, put}
use Rattle.serde_json.specs.View.{items_of}
use Rattle.chord_ident.specs.declared.id.Id.{Id}
use Rattle.chord_ident.specs.declared.span.Span.{Span}
use Rattle.chord_sight.specs.declared.parts.SegmentSight.{SegmentSight}
use Rattle.chord_sight.specs.declared.parts.OutboxSight.{OutboxSight}
use Rattle.chord_sight.specs.declared.counts.AskCounts.{AskCounts}
use Rattle.chord_sight.specs.declared.counts.HandoverCounts.{HandoverCounts}
use Rattle.chord_app_operator.specs.declared.sight.answers.AnswerCounts.{AnswerCounts}
use Rattle.chord_app_operator.specs.declared.sight.answers.ProtocolAnswers.{ProtocolAnswers}
use Rattle.chord_app_operator.specs.declared.sight.counts.CallerCounts.{CallerCounts}
use Rattle.chord_app_operator.specs.declared.sight.node.StoredNode.{StoredNode}
use Rattle.chord_sight.specs.declared.node.NodeSight.{NodeSight}
use Rattle.chord_app_operator.specs.declared.sight.ring.RingSight.{RingSight}
use Rattle.chord_app_operator.specs.declared.sight.traffic.EndCounts.{EndCounts}
use Rattle.chord_app_operator.specs.declared.sight.traffic.SessionCounts.{SessionCounts}
use Rattle.chord_app_operator.specs.declared.operator.holder.Holder.{Holder}
use Rattle.chord_app_operator.specs.declared.operator.holder.Holder.TheVariants.{Node, Handover, Moved}
use Rattle.chord_app_operator.specs.declared.request.refusal.Refusal.{Refusal}
use Rattle.chord_app_operator.specs.Rows.{gone_of}
use Rattle.chord_app_operator.specs.Words.{store_word, refusal_name}
use Rattle.chord_sight.specs.Phases.{phase_word}

-- with these members, in any order
abbrev pub with_members : Members → List (List ℕ × Data) → Members
with_members all ms = fold (λ all' m. put m.0 m.1 all') all ms

-- an object with these members
abbrev pub record_of : List (List ℕ × Data) → Data
record_of ms = object (with_members no_members ms)

-- a number, and one that may be absent
abbrev pub count_data : ℕ → Data
count_data n = number (unsigned n)

abbrev pub optional_data : Option ℕ → Data
optional_data None = null
optional_data (Some n) = count_data n

-- a number under a name
abbrev pub count_member : Bor (List ℕ) × ℕ → List ℕ × Data
count_member m = (m.0.now, count_data m.1)

-- an identifier: 32 hexadecimal digits, its first bytes first
abbrev pub id_hex : Id → List ℕ
id_hex id = encode_lower (to_be_bytes w128 id.number)

abbrev pub id_data : Id → Data
id_data id = string (id_hex id)

-- the values of a list
abbrev pub list_data : {X : Type 0} → (X → Data) → List X → Data
list_data data_of xs = array (items_of (map data_of xs))

-- where the identifiers of a span lie
abbrev pub span_members : Span → List (List ℕ × Data)
span_members s = (codes "after", id_data s.after) ∷ (codes "upto", id_data s.upto) ∷ []

-- a segment that a node holds
abbrev pub segment_members : SegmentSight → List (List ℕ × Data)
segment_members s = span_members s.span ++ (codes "kept", count_data s.kept) ∷ []

abbrev pub segment_data : SegmentSight → Data
segment_data s = record_of (segment_members s)

-- a handover that is under way
abbrev pub outbox_members : OutboxSight → List (List ℕ × Data)
outbox_members o =
    (codes "to", count_data o.to) ∷ (codes "number", count_data o.number) ∷ span_members o.span
    ++ (codes "pairs", count_data o.pairs) ∷ []

abbrev pub outbox_data : OutboxSight → Data
outbox_data o = record_of (outbox_members o)

-- counts
abbrev pub asks_members : AskCounts → List (List ℕ × Data)
asks_members a =
    (codes "told", count_data a.told) ∷ (codes "forwarded", count_data a.forwarded)
    ∷ (codes "dropped", count_data a.dropped) ∷ (codes "full", count_data a.full) ∷ []

abbrev pub asks_data : AskCounts → Data
asks_data a = record_of (asks_members a)

abbrev pub ends_members : EndCounts → List (List ℕ × Data)
ends_members c =
    (codes "ended", count_data c.ended)
    ∷ (codes "truncated", count_data c.truncated)
    ∷ (codes "malformed", count_data c.malformed)
    ∷ (codes "protocol", count_data c.protocol)
    ∷ (codes "read", count_data c.read)
    ∷ (codes "write", count_data c.write)
    ∷ (codes "turnsspent", count_data c.turns_spent)
    ∷ (codes "memory", count_data c.memory)
    ∷ (codes "callersspent", count_data c.callers_spent)
    ∷ (codes "idle", count_data c.idle) ∷ []

abbrev pub ends_data : EndCounts → Data
ends_data c = record_of (ends_members c)

abbrev pub sessions_members : SessionCounts → List (List ℕ × Data)
sessions_members c =
    (codes "kept", count_data c.kept)
    ∷ (codes "resumed", count_data c.resumed)
    ∷ (codes "dropped", count_data c.dropped)
    ∷ (codes "refused", count_data c.refused) ∷ []

abbrev pub sessions_data : SessionCounts → Data
sessions_data c = record_of (sessions_members c)

abbrev pub handovers_members : HandoverCounts → List (List ℕ × Data)
handovers_members h = (codes "given", count_data h.given) ∷ (codes "taken", count_data h.taken) ∷ (codes "declined", count_data h.declined) ∷ []

abbrev pub handovers_data : HandoverCounts → Data
handovers_data h = record_of (handovers_members h)

abbrev pub callers_members : CallerCounts → List (List ℕ × Data)
callers_members c =
    (codes "open", count_data c.open) ∷ (codes "all", count_data c.all)
    ∷ (codes "pending", count_data c.pending) ∷ []

abbrev pub callers_data : CallerCounts → Data
callers_data c = record_of (callers_members c)

-- answers, in one protocol and in both
abbrev pub answers_members : AnswerCounts → List (List ℕ × Data)
answers_members a =
    (codes "reply", count_data a.reply) ∷ (codes "full", count_data a.full)
    ∷ (codes "noanswer", count_data a.no_answer) ∷ (codes "memory", count_data a.memory)
    ∷ (codes "refused", count_data a.refused) ∷ []

abbrev pub answers_data : AnswerCounts → Data
answers_data a = record_of (answers_members a)

abbrev pub protocols_members : ProtocolAnswers → List (List ℕ × Data)
protocols_members p =
    (codes "frames", answers_data p.frames) ∷ (codes "redis", answers_data p.redis) ∷ []

abbrev pub protocols_data : ProtocolAnswers → Data
protocols_data p = record_of (protocols_members p)

-- which node it is, its links, what it holds, and what it did
abbrev pub name_members : StoredNode → List (List ℕ × Data)
name_members n =
    (codes "node", count_data n.sight.number) ∷ (codes "id", id_data n.sight.id) ∷ (codes "phase", string (phase_word n.sight.phase))
    ∷ (codes "store", string (store_word n.store)) ∷ []

abbrev pub link_members : NodeSight → List (List ℕ × Data)
link_members n =
    (codes "predecessor", optional_data n.predecessor) ∷ (codes "successors", list_data count_data n.successors.items)
    ∷ (codes "fingers", count_data n.fingers) ∷ []

abbrev pub held_members : NodeSight → List (List ℕ × Data)
held_members n =
    (codes "segments", list_data segment_data n.segments.items) ∷ (codes "pairs", count_data n.pairs)
    ∷ (codes "outbox", list_data outbox_data n.outbox.items) ∷ []

abbrev pub done_members : NodeSight → List (List ℕ × Data)
done_members n =
    (codes "asks", asks_data n.counts.asks) ∷ (codes "handovers", handovers_data n.counts.handovers)
    ∷ (codes "ticks", count_data n.counts.ticks) ∷ []

-- a node
abbrev pub node_data : StoredNode → Data
node_data n =
    object (with_members (with_members (with_members (with_members no_members (name_members n)) (link_members n.sight)) (held_members n.sight)) (done_members n.sight))

-- a ring: what it has beside its nodes, and its nodes
abbrev pub server_members : RingSight → List (List ℕ × Data)
server_members r =
    (codes "successors", count_data r.successors) ∷ (codes "slots", count_data r.slots) ∷ (codes "nodes_gone", count_data (gone_of r))
    ∷ (codes "premise", boolean r.premise)
    ∷ (codes "callers", callers_data r.callers) ∷ (codes "connections", count_data r.connections) ∷ (codes "ends", ends_data r.ends) ∷ (codes "sessions", sessions_data r.sessions)
    ∷ (codes "answers", protocols_data r.answers) ∷ (codes "uptime_ms", count_data r.uptime_ms) ∷ []

abbrev pub ring_members : RingSight → List (List ℕ × Data)
ring_members r = server_members r ++ (codes "nodes", list_data node_data r.nodes.items) ∷ []

abbrev pub ring_data : RingSight → Data
ring_data r = record_of (ring_members r)

-- the holder of an identifier
abbrev pub holder_data : Id → Holder → Data
holder_data id (Node node) = record_of ((codes "id", id_data id) ∷ (codes "node", count_data node) ∷ [])
holder_data id (Handover from to handover) = record_of (
    (codes "id", id_data id) ∷ (codes "from", count_data from) ∷ (codes "to", count_data to) ∷ (codes "handover", count_data handover) ∷ [])
holder_data id Moved = null

-- a node's number
abbrev pub node_named : ℕ → Data
node_named node = record_of ((codes "node", count_data node) ∷ [])

-- why a request is refused
abbrev pub refused : Refusal → Data
refused refusal = record_of ((codes "refused", string (refusal_name refusal)) ∷ [])
