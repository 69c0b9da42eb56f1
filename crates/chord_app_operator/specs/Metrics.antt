-- The table of metrics, and a ring as its text in Prometheus's text format 0.0.4. Source: our own
-- names; the format is that of Prometheus's documentation.
use Rattle.std.specs.Prelude.{ℕ, ◌+◌, ◌-◌, ◌^◌, min, List, [], ◌∷◌, ◌++◌, length, fold, codes, decimal, Bool, if◌then◌else◌, ◌==◌}
use Rattle.std.specs.List.{flat_map, count_by}
use Rattle.chord_sight.specs.declared.phase.Phase.{Phase}
use Rattle.chord_sight.specs.declared.phase.Phase.TheVariants.{Staying, Leaving, Gone, Crashed, Rescuing}
use Rattle.chord_app_operator.specs.declared.sight.node.StoredNode.{StoredNode}
use Rattle.chord_sight.specs.declared.node.NodeSight.{NodeSight}
use Rattle.chord_app_operator.specs.declared.sight.answers.AnswerCounts.{AnswerCounts}
use Rattle.chord_app_operator.specs.declared.sight.ring.RingSight.{RingSight}
use Rattle.chord_app_operator.specs.declared.sight.times.RequestTimes.{RequestTimes}
use Rattle.chord_app_operator.specs.declared.sight.times.TimeCount.{TimeCount}
use Rattle.chord_app_operator.specs.declared.show.answer_count.AnswerCount.{AnswerCount}
use Rattle.chord_app_operator.specs.declared.show.answer_count.AnswerCount.TheVariants as answer
use Rattle.chord_app_operator.specs.declared.show.node_count.NodeCount.{NodeCount}
use Rattle.chord_app_operator.specs.declared.show.node_count.NodeCount.TheVariants as node
use Rattle.chord_app_operator.specs.declared.show.ring_count.RingCount.{RingCount}
use Rattle.chord_app_operator.specs.declared.show.ring_count.RingCount.TheVariants as ring
use Rattle.chord_app_operator.specs.declared.show.metric.Metric.{Metric}
use Rattle.chord_app_operator.specs.declared.show.metric.Series.{Series}
use Rattle.chord_app_operator.specs.declared.show.metric.Series.TheVariants.{Node, Ring, Times}
use Rattle.chord_app_operator.specs.Rows.{gone_of, is_present}

-- ---- the numbers

-- of a node
abbrev pub node_count : NodeCount → NodeSight → ℕ
node_count node.Pairs n = n.pairs
node_count node.Segments n = length n.segments.items
node_count node.OutboxItems n = length n.outbox.items
node_count node.Told n = n.counts.asks.told
node_count node.Forwarded n = n.counts.asks.forwarded
node_count node.Dropped n = n.counts.asks.dropped
node_count node.Full n = n.counts.asks.full
node_count node.Given n = n.counts.handovers.given
node_count node.Taken n = n.counts.handovers.taken
node_count node.Declined n = n.counts.handovers.declined
node_count node.Ticks n = n.counts.ticks

-- whether a node is in a phase
abbrev pub phase_number : Phase → ℕ
phase_number Staying = 0
phase_number Leaving = 1
phase_number Gone = 2
phase_number Crashed = 3
phase_number Rescuing = 4

abbrev pub is_in : Phase → StoredNode → Bool
is_in phase n = phase_number n.sight.phase == phase_number phase

-- of the answers in a protocol
abbrev pub answer_count : AnswerCount → AnswerCounts → ℕ
answer_count answer.Reply a = a.reply
answer_count answer.Full a = a.full
answer_count answer.NoAnswer a = a.no_answer
answer_count answer.Memory a = a.memory
answer_count answer.Refused a = a.refused

-- how often nodes passed requests on, all together, with those of nodes that are not here any more;
-- a sum that does not fit is 2^64 - 1
abbrev pub with_forwards : ℕ → StoredNode → ℕ
with_forwards all n = min (all + n.sight.counts.asks.forwarded) (2 ^ 64 - 1)

abbrev pub forwards_of : ℕ → List StoredNode → ℕ
forwards_of past nodes = fold with_forwards past nodes

-- of a ring and its server
abbrev pub ring_count : RingCount → RingSight → ℕ
ring_count (ring.Nodes phase) r = count_by (is_in phase) r.nodes.items
ring_count ring.Gone r = gone_of r
ring_count ring.Premise r = if r.premise then 1 else 0
ring_count ring.Connections r = r.connections
ring_count ring.CallersOpen r = r.callers.open
ring_count ring.CallersPending r = r.callers.pending
ring_count ring.Ended r = r.ends.ended
ring_count ring.Truncated r = r.ends.truncated
ring_count ring.Malformed r = r.ends.malformed
ring_count ring.Protocol r = r.ends.protocol
ring_count ring.Read r = r.ends.read
ring_count ring.Write r = r.ends.write
ring_count ring.TurnsSpent r = r.ends.turns_spent
ring_count ring.Memory r = r.ends.memory
ring_count ring.CallersSpent r = r.ends.callers_spent
ring_count ring.Idle r = r.ends.idle
ring_count ring.Kept r = r.sessions.kept
ring_count ring.Resumed r = r.sessions.resumed
ring_count ring.Dropped r = r.sessions.dropped
ring_count ring.Refused r = r.sessions.refused
ring_count (ring.Frames count) r = answer_count count r.answers.frames
ring_count (ring.Redis count) r = answer_count count r.answers.redis
ring_count ring.Forwards r = forwards_of r.past_forwards r.nodes.items
ring_count ring.BytesRead r = r.bytes.read
ring_count ring.BytesWritten r = r.bytes.written
ring_count ring.One r = 1
ring_count ring.Uptime r = r.uptime_ms
ring_count ring.Resident r = r.process.resident
ring_count ring.Processor r = r.process.processor_ms

-- what stands behind a number of milliseconds, so that it is in seconds
abbrev pub scale : RingCount → List ℕ
scale ring.Uptime = codes "e-3"
scale ring.Processor = codes "e-3"
scale count = []

-- ---- the table

-- lines with the same labels: one of each node that is not gone, one of the ring, or those of how
-- long requests took
pub data Lines : Type 0 where
  OfNodes : List ℕ → NodeCount → Lines
  OfRing : List ℕ → RingCount → Lines
  OfTimes : Lines

-- a metric: its name, what it says, its kind, and its lines
pub record Row : Type 0 where
  pub name : List ℕ
  pub help : List ℕ
  pub kind : List ℕ
  pub lines : List Lines

abbrev pub gauge : (name help : List ℕ) → List Lines → Row
gauge name help lines = record { name = name; help = help; kind = codes "gauge"; lines = lines }

abbrev pub counter : (name help : List ℕ) → List Lines → Row
counter name help lines = record { name = name; help = help; kind = codes "counter"; lines = lines }

abbrev pub histogram : (name help : List ℕ) → List Lines → Row
histogram name help lines = record { name = name; help = help; kind = codes "histogram"; lines = lines }

abbrev pub metrics : List Row
metrics =
    gauge (codes "chord_nodes") (codes "Nodes by phase.") (
    OfRing (codes "{phase=\"staying\"}") (ring.Nodes Staying) ∷
    OfRing (codes "{phase=\"leaving\"}") (ring.Nodes Leaving) ∷
    OfRing (codes "{phase=\"crashed\"}") (ring.Nodes Crashed) ∷
    OfRing (codes "{phase=\"rescuing\"}") (ring.Nodes Rescuing) ∷ [])
    ∷ counter (codes "chord_nodes_gone_total") (codes "Nodes that are gone.") (OfRing (codes "") ring.Gone ∷ [])
    ∷ gauge (codes "chord_ring_premise") (codes "1 as long as the ring allowed each crash.") (OfRing (codes "") ring.Premise ∷ [])
    ∷ gauge (codes "chord_pairs") (codes "Pairs that a node holds.") (OfNodes (codes "") node.Pairs ∷ [])
    ∷ gauge (codes "chord_segments") (codes "Segments that a node holds.") (OfNodes (codes "") node.Segments ∷ [])
    ∷ gauge (codes "chord_outbox_items") (codes "Handovers that a node gives and that are not taken yet.") (OfNodes (codes "") node.OutboxItems ∷ [])
    ∷ counter (codes "chord_asks_total") (codes "Requests that a node got, by what it did.") (
    OfNodes (codes ",answer=\"told\"") node.Told ∷
    OfNodes (codes ",answer=\"forwarded\"") node.Forwarded ∷
    OfNodes (codes ",answer=\"dropped\"") node.Dropped ∷
    OfNodes (codes ",answer=\"full\"") node.Full ∷ [])
    ∷ counter (codes "chord_handovers_total") (codes "Handovers that a node took part in.") (
    OfNodes (codes ",kind=\"given\"") node.Given ∷
    OfNodes (codes ",kind=\"taken\"") node.Taken ∷
    OfNodes (codes ",kind=\"declined\"") node.Declined ∷ [])
    ∷ counter (codes "chord_ticks_total") (codes "Rounds of upkeep that a node had.") (OfNodes (codes "") node.Ticks ∷ [])
    ∷ gauge (codes "chord_connections") (codes "Clients that are connected.") (OfRing (codes "") ring.Connections ∷ [])
    ∷ gauge (codes "chord_callers_open") (codes "Callers that are open.") (OfRing (codes "") ring.CallersOpen ∷ [])
    ∷ gauge (codes "chord_callers_pending") (codes "Callers that wait for an answer of the ring.") (OfRing (codes "") ring.CallersPending ∷ [])
    ∷ counter (codes "chord_connections_total") (codes "Connections that ended, by how.") (
    OfRing (codes "{result=\"ended\"}") ring.Ended ∷
    OfRing (codes "{result=\"truncated\"}") ring.Truncated ∷
    OfRing (codes "{result=\"malformed\"}") ring.Malformed ∷
    OfRing (codes "{result=\"protocol\"}") ring.Protocol ∷
    OfRing (codes "{result=\"read\"}") ring.Read ∷
    OfRing (codes "{result=\"write\"}") ring.Write ∷
    OfRing (codes "{result=\"turnsspent\"}") ring.TurnsSpent ∷
    OfRing (codes "{result=\"memory\"}") ring.Memory ∷
    OfRing (codes "{result=\"callersspent\"}") ring.CallersSpent ∷
    OfRing (codes "{result=\"idle\"}") ring.Idle ∷ [])
    ∷ gauge (codes "chord_sessions_kept") (codes "Sessions without a connection.") (OfRing (codes "") ring.Kept ∷ [])
    ∷ counter (codes "chord_sessions_total") (codes "Sessions that were resumed, dropped or refused.") (
    OfRing (codes "{kind=\"resumed\"}") ring.Resumed ∷
    OfRing (codes "{kind=\"dropped\"}") ring.Dropped ∷
    OfRing (codes "{kind=\"refused\"}") ring.Refused ∷ [])
    ∷ counter (codes "chord_answers_total") (codes "Answers to requests of clients, by what was answered.") (
    OfRing (codes "{protocol=\"frames\",answer=\"reply\"}") (ring.Frames answer.Reply) ∷
    OfRing (codes "{protocol=\"frames\",answer=\"full\"}") (ring.Frames answer.Full) ∷
    OfRing (codes "{protocol=\"frames\",answer=\"no_answer\"}") (ring.Frames answer.NoAnswer) ∷
    OfRing (codes "{protocol=\"frames\",answer=\"memory\"}") (ring.Frames answer.Memory) ∷
    OfRing (codes "{protocol=\"frames\",answer=\"refused\"}") (ring.Frames answer.Refused) ∷
    OfRing (codes "{protocol=\"redis\",answer=\"reply\"}") (ring.Redis answer.Reply) ∷
    OfRing (codes "{protocol=\"redis\",answer=\"full\"}") (ring.Redis answer.Full) ∷
    OfRing (codes "{protocol=\"redis\",answer=\"no_answer\"}") (ring.Redis answer.NoAnswer) ∷
    OfRing (codes "{protocol=\"redis\",answer=\"memory\"}") (ring.Redis answer.Memory) ∷
    OfRing (codes "{protocol=\"redis\",answer=\"refused\"}") (ring.Redis answer.Refused) ∷ [])
    ∷ histogram (codes "chord_request_seconds") (codes "How long the ring took to answer a request.") (OfTimes ∷ [])
    ∷ counter (codes "chord_forwards_total") (codes "Requests that nodes passed on to other nodes.") (OfRing (codes "") ring.Forwards ∷ [])
    ∷ counter (codes "chord_bytes_total") (codes "Bytes that connections of clients carried.") (
    OfRing (codes "{direction=\"read\"}") ring.BytesRead ∷
    OfRing (codes "{direction=\"written\"}") ring.BytesWritten ∷ [])
    ∷ gauge (codes "chord_build_info") (codes "1, with the version of the program.") (OfRing (codes "{version=\"0.1.0\"}") ring.One ∷ [])
    ∷ gauge (codes "chord_uptime_seconds") (codes "How long the server has run.") (OfRing (codes "") ring.Uptime ∷ [])
    ∷ gauge (codes "process_resident_memory_bytes") (codes "Memory that the process has.") (OfRing (codes "") ring.Resident ∷ [])
    ∷ counter (codes "process_cpu_seconds_total") (codes "Time of a processor that the process took.") (OfRing (codes "") ring.Processor ∷ [])
    ∷ []

-- ---- the text

-- a number, what stands behind it, and the end of its line
abbrev pub value_line : ℕ → List ℕ → List ℕ
value_line n scale = codes " " ++ (decimal n ++ (scale ++ codes "\n"))

abbrev pub line_of_node : (name labels : List ℕ) → NodeCount → StoredNode → List ℕ
line_of_node name labels count n =
    name ++ (codes "{node=\"" ++ (decimal n.sight.number
    ++ (codes "\"" ++ (labels ++ (codes "}" ++ value_line (node_count count n.sight) [])))))

-- a node that is gone has no line
abbrev pub node_line : (name labels : List ℕ) → NodeCount → StoredNode → List ℕ
node_line name labels count n = if is_present n then line_of_node name labels count n else []

abbrev pub ring_line : (name labels : List ℕ) → ℕ → List ℕ → List ℕ
ring_line name labels value scale = name ++ (labels ++ value_line value scale)

-- A histogram: how many requests took at most each time, in millionths of a second, how many there
-- were, and how long they took together.
abbrev pub bound_label : ℕ → List ℕ
bound_label upto = codes "{le=\"" ++ (decimal upto ++ codes "e-6\"}")

abbrev pub within_line : List ℕ → TimeCount → List ℕ
within_line name t = name ++ (codes "_bucket" ++ (bound_label t.upto ++ value_line t.count []))

unfoldable pub whole_label : List ℕ
whole_label = codes "{le=\"+Inf\"}"

abbrev pub whole_line : List ℕ → ℕ → List ℕ
whole_line name count = name ++ (codes "_bucket" ++ (whole_label ++ value_line count []))

abbrev pub times_lines : List ℕ → RequestTimes → List ℕ
times_lines name t =
    flat_map (within_line name) t.within.items
    ++ (whole_line name t.count
    ++ (ring_line name (codes "_sum") t.sum (codes "e-6") ++ ring_line name (codes "_count") t.count []))

abbrev pub series_lines : List ℕ → RingSight → Lines → List ℕ
series_lines name r (OfNodes labels count) = flat_map (node_line name labels count) r.nodes.items
series_lines name r (OfRing labels count) = ring_line name labels (ring_count count r) (scale count)
series_lines name r OfTimes = times_lines name r.times

-- what a metric says, and its kind
abbrev pub comment_line : (word name said : List ℕ) → List ℕ
comment_line word name said = word ++ (name ++ (codes " " ++ (said ++ codes "\n")))

abbrev pub head_text : (name help kind : List ℕ) → List ℕ → List ℕ
head_text name help kind lines =
    comment_line (codes "# HELP ") name help ++ (comment_line (codes "# TYPE ") name kind ++ lines)

abbrev pub row_text : RingSight → Row → List ℕ
row_text r row = head_text row.name row.help row.kind (flat_map (series_lines row.name r) row.lines)

-- the text of a ring
abbrev pub metrics_text : RingSight → List ℕ
metrics_text r = flat_map (row_text r) metrics

-- ---- the program's table

abbrev pub lines_look : Series → Lines
lines_look (Node labels count) = OfNodes labels.now count
lines_look (Ring labels count) = OfRing labels.now count
lines_look Times = OfTimes

abbrev pub lines_of : List ℕ → RingSight → Series → List ℕ
lines_of name r series = series_lines name r (lines_look series)

abbrev pub text_of : RingSight → Metric → List ℕ
text_of r m = head_text m.name.now m.help.now m.kind.now (flat_map (lines_of m.name.now r) m.series.now)
