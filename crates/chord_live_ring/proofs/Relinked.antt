-- Steps of the ring at a node with its seat: its links, as the code read them, may be taken.
use Rattle.std.proofs.Common.{◌≡◌, ◌≢◌, ◌⊎◌, Bool, true, false, Option, Some, None, refl, sym, ap, ◌∙◌, subst, inl, inr}
use Rattle.std.specs.Prelude.{is_some}
use Rattle.chord_ident.specs.Circle.{IsBetween}
use Rattle.chord_links.specs.NodeLinks.{NodeLinks, first_entry}
use Rattle.chord_links.specs.declared.peer.Peer.{Peer}
use Rattle.chord_live_ring.specs.Seats.{HasPredecessor, is_in}
use Rattle.chord_live_ring.specs.Sights.{Seated, is_member}
use Rattle.chord_model.specs.declared.phase.Phase.{Phase}
use Rattle.chord_model.specs.declared.phase.Phase.TheVariants.{Gone}
use Rattle.chord_model.specs.declared.phase.Phase.TheVariants as phase
use Rattle.chord_model.specs.Node.{Node}
use Rattle.chord_ring.specs.Steps.{gives_way, links_behind, rectified_links, without_head}
use Rattle.chord_table.proofs.Relinks.{alone_may, candidate_may, drop_may, first_may, rectify_may, stabilise_may}
use Rattle.chord_table.specs.Views.{MayRelink}

-- a member did not crash and is not gone
pub in_live : (crashed : Bool) (p : Phase) → is_in crashed p ≡ true → (crashed ≡ false) × (p ≢ Gone)
in_live true p e = cc
in_live false phase.Staying e = (refl, λ g. cc)
in_live false phase.Leaving e = (refl, λ g. cc)
in_live false phase.Gone e = cc

-- and another node did
pub in_out : (crashed : Bool) (p : Phase) → is_in crashed p ≡ false → (crashed ≡ true) ⊎ (p ≡ Gone)
in_out true p e = inl refl
in_out false phase.Staying e = cc
in_out false phase.Leaving e = cc
in_out false phase.Gone e = inr refl

-- what a node may do beside one that did not crash it may do beside a member
pub beside : (mine new : Node) (seated : Seated) → is_member seated ≡ true → MayRelink mine seated.node false new → MayRelink mine seated.node seated.crashed new
beside mine new seated member may =
    subst (λ (c : Bool). MayRelink mine seated.node c new) (sym (in_live seated.crashed seated.node.phase member).0) may

-- one that gives way while it is live gives way in any case
gives_always : (me notifier : Peer) (predecessor : Option Peer) → gives_way me notifier true predecessor ≡ true → (live : Bool) → gives_way me notifier live predecessor ≡ true
gives_always me notifier None gives live = refl
gives_always me notifier (Some peer) gives true = gives
gives_always me notifier (Some peer) gives false = refl

module _ (mine theirs : Node) (read theirs_read links : NodeLinks) (reads : read ≡ mine.links) (theirs_reads : theirs_read ≡ theirs.links) (live : mine.phase ≢ Gone) where
  -- the list of the first entry, which is live
  pub may_stabilise : theirs.phase ≢ Gone → first_entry read ≡ theirs_read.me → links ≡ links_behind read theirs_read → MayRelink mine theirs false (record mine { links = links })
  may_stabilise theirs_live first set =
      let first_is : first_entry mine.links ≡ theirs.links.me = ap first_entry (sym reads) ∙ first ∙ ap (λ (l : NodeLinks). l.me) theirs_reads in
      let set_is : links ≡ links_behind mine.links theirs.links = set ∙ ap (λ (l : NodeLinks). links_behind l theirs_read) reads ∙ ap (λ (l : NodeLinks). links_behind mine.links l) theirs_reads in
      subst (λ (l : NodeLinks). MayRelink mine theirs false (record mine { links = l })) (sym set_is) (stabilise_may mine theirs live theirs_live first_is)

  -- a nearer first entry
  pub may_take : theirs.phase ≢ Gone → IsBetween read.me.id.number theirs_read.me.id.number (first_entry read).id.number → links ≡ links_behind read theirs_read
      → MayRelink mine theirs false (record mine { links = links })
  may_take theirs_live first set =
      let between : IsBetween mine.links.me.id.number theirs.links.me.id.number (first_entry mine.links).id.number =
      subst (λ (l : NodeLinks). IsBetween l.me.id.number theirs.links.me.id.number (first_entry l).id.number) reads
      (subst (λ (l : NodeLinks). IsBetween read.me.id.number l.me.id.number (first_entry read).id.number) theirs_reads first) in
      let set_is : links ≡ links_behind mine.links theirs.links = set ∙ ap (λ (l : NodeLinks). links_behind l theirs_read) reads ∙ ap (λ (l : NodeLinks). links_behind mine.links l) theirs_reads in
      subst (λ (l : NodeLinks). MayRelink mine theirs false (record mine { links = l })) (sym set_is) (candidate_may mine theirs live theirs_live between)

  -- a predecessor, if there is none or a farther one
  pub may_rectify : theirs.phase ≢ Gone → (gives : Bool) → gives ≡ true → gives ≡ gives_way read.me theirs_read.me true read.predecessor → links ≡ rectified_links read theirs_read.me gives
      → MayRelink mine theirs false (record mine { links = links })
  may_rectify theirs_live gives told answer set =
      let way : gives_way mine.links.me theirs.links.me true mine.links.predecessor ≡ true =
      ap (λ (l : NodeLinks). gives_way mine.links.me l.me true mine.links.predecessor) (sym theirs_reads)
      ∙ ap (λ (l : NodeLinks). gives_way l.me theirs_read.me true l.predecessor) (sym reads) ∙ sym answer ∙ told in
      let set_is : links ≡ rectified_links mine.links theirs.links.me true =
      set ∙ ap (λ gave. rectified_links read theirs_read.me gave) told ∙ ap (λ (l : NodeLinks). rectified_links l theirs_read.me true) reads
      ∙ ap (λ (l : NodeLinks). rectified_links mine.links l.me true) theirs_reads in
      subst (λ (l : NodeLinks). MayRelink mine theirs false (record mine { links = l })) (sym set_is)
      (rectify_may mine theirs live theirs_live (gives_always mine.links.me theirs.links.me mine.links.predecessor way))

-- without the first entry, which departed
pub may_drop : (mine theirs : Node) (links : NodeLinks) (crashed : Bool) → mine.phase ≢ Gone → (crashed ≡ true) ⊎ (theirs.phase ≡ Gone) → (first_entry mine.links).number ≡ theirs.number
    → links ≡ without_head mine.links → MayRelink mine theirs crashed (record mine { links = links })
may_drop mine theirs links crashed live out first set =
    subst (λ (l : NodeLinks). MayRelink mine theirs crashed (record mine { links = l })) (sym set) (drop_may mine theirs crashed live out (sym first))

-- with itself as its predecessor, which departed
pub may_forget : (mine theirs : Node) (links : NodeLinks) (crashed : Bool) → mine.phase ≢ Gone → (crashed ≡ true) ⊎ (theirs.phase ≡ Gone) → HasPredecessor theirs.number mine.links.predecessor
    → links ≡ rectified_links mine.links mine.links.me true → MayRelink mine theirs crashed (record mine { links = links })
may_forget mine theirs links crashed live out has set =
    subst (λ (l : NodeLinks). MayRelink mine theirs crashed (record mine { links = l })) (sym set) (by_case mine.links.predecessor refl has)
  where
    by_case : (p : Option Peer) → mine.links.predecessor ≡ p → HasPredecessor theirs.number p → MayRelink mine theirs crashed (record mine { links = rectified_links mine.links mine.links.me true })
    by_case None is has = absurd has
    by_case (Some peer) is has = alone_may mine theirs crashed peer live out is (sym has)

none_if : (o : Option Peer) → is_some o ≡ false → o ≡ None
none_if None none = refl
none_if (Some peer) none = cc

-- with itself as its predecessor, where it has none
pub may_stand : (shown inside new : Node) (read set : NodeLinks) (me : Peer) → inside ≡ shown → read ≡ inside.links → shown.phase ≢ Gone → is_some read.predecessor ≡ false → me ≡ read.me
    → set ≡ rectified_links read me true → new ≡ record inside { links = set } → MayRelink shown shown false new
may_stand shown inside new read set me is reads live none own becomes put =
    let links : read ≡ shown.links = reads ∙ ap (λ (n : Node). n.links) is in
    let alone : shown.links.predecessor ≡ None = sym (ap (λ (l : NodeLinks). l.predecessor) links) ∙ none_if read.predecessor none in
    let set_is : set ≡ rectified_links shown.links shown.links.me true =
    becomes ∙ ap (λ (p : Peer). rectified_links read p true) own ∙ ap (λ (l : NodeLinks). rectified_links l l.me true) links in
    let new_is : new ≡ record shown { links = rectified_links shown.links shown.links.me true } =
    put ∙ ap (λ (n : Node). record n { links = set }) is ∙ ap (λ (l : NodeLinks). record shown { links = l }) set_is in
    subst (λ (n : Node). MayRelink shown shown false n) (sym new_is) (first_may shown live alone)
