-- Calls that are passed on.
use Rattle.std.proofs.Common.{◌≡◌, ◌≢◌, ℕ, ◌+◌, ◌-◌, ◌<◌, ◌≤◌, ◌||◌, ◌==◌, false, cond, refl, sym, ◌∙◌, ap, subst}
use Rattle.std.proofs.Math.Bridge.{le_prop}
use Rattle.chord_map.proofs.Equal.{eqb_other}
use Rattle.chord_segment.specs.Segment.{id_of}
use Rattle.chord_links.specs.declared.peer.Peer.{Peer}
use Rattle.chord_links.specs.NodeLinks.{NodeLinks}
use Rattle.chord_route.specs.declared.hop.Hop.{Hop}
use Rattle.chord_route.specs.Hops.{IsNextHop}
use Rattle.chord_map.specs.declared.request.Request.{Request}
use Rattle.chord_caller.specs.declared.ask.Ask.{Ask}
use Rattle.chord_node.specs.declared.asks.answered.Answered.TheVariants.{Dropped, Forward}
use Rattle.chord_node.specs.declared.asks.answered.Answered.{Answered}
use Rattle.chord_node.specs.Asked.{TakesMemory}
use Rattle.chord_node.specs.Passed.{peer_of, PassesOn}

-- a copy of the call with a hop less
same_passed : (ask : Ask) (request : Request) (above : ask.floor < ask.number) (near : ask.number ≤ ask.floor + 16) → request ≡ ask.request
    → ◌≡◌ {A = Ask} (record { caller = ask.caller; number = ask.number; floor = ask.floor; request = request; hops = ask.hops - 1; above = above; near = near })
    (record ask { hops = ask.hops - 1 })
same_passed ask request above near e = λ i. record {
  caller = ask.caller;
  number = ask.number;
  floor = ask.floor;
  request = e i;
  hops = ask.hops - 1;
  above = le_prop above ask.above i;
  near = le_prop near ask.near i;
}

-- the call is sent on to the next hop, which is another node
pub passed_is : (links : NodeLinks) (ask : Ask) (hop : Hop) (peer : Peer) (target : ℕ) (me : ℕ) (request : Request) (above : ask.floor < ask.number) (near : ask.number ≤ ask.floor + 16)
    → IsNextHop links target hop → target ≡ id_of ask.request → peer ≡ peer_of hop → me ≡ links.me.number → ask.hops ≢ 0 → peer.number ≢ me → request ≡ ask.request
    → PassesOn links ask (Forward peer.number (record { caller = ask.caller; number = ask.number; floor = ask.floor; request = request; hops = ask.hops - 1; above = above; near = near }))
passed_is links ask hop peer target me request above near next e p m some other r =
    let spent : (ask.hops == 0) ≡ false = eqb_other ask.hops 0 some in
    let itself : ((peer_of hop).number == links.me.number) ≡ false =
    ap (λ (q : Peer). q.number == links.me.number) (sym p) ∙ ap (λ (n : ℕ). peer.number == n) (sym m) ∙ eqb_other peer.number me other in
    let goes : cond ((ask.hops == 0) || ((peer_of hop).number == links.me.number)) Dropped (Forward (peer_of hop).number (record ask { hops = ask.hops - 1 })) ≡ Forward (peer_of hop).number (record ask { hops = ask.hops - 1 }) =
    rw (spent, itself) refl in (
      hop,
      subst (λ t. IsNextHop links t hop) e next,
      ap (Forward peer.number) (same_passed ask request above near r) ∙ ap (λ (q : Peer). Forward q.number (record ask { hops = ask.hops - 1 })) p ∙ sym goes,
    )

-- sending a call on needs memory
pub passed_takes : (links : NodeLinks) (ask : Ask) (hop : Hop) (peer : Peer) (target : ℕ) (me : ℕ)
    → IsNextHop links target hop → target ≡ id_of ask.request → peer ≡ peer_of hop → me ≡ links.me.number → ask.hops ≢ 0 → peer.number ≢ me
    → (answered : Answered) × PassesOn links ask answered × TakesMemory answered
passed_takes links ask hop peer target me next e p m some other =
    (_, passed_is links ask hop peer target me ask.request ask.above ask.near next e p m some other refl, tt)
