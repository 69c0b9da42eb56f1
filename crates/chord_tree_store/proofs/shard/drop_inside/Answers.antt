use Rattle.std.proofs.Common.{◌≡◌, ℕ, Bor, refl, not, rules}
use Rattle.std.proofs.lemmas.Map.Entries.{filter_from_retain_pairs}
use Rattle.chord_ident.specs.declared.span.Span.{Span}
use Rattle.chord_ident.specs.Circle.{in_span}
use Rattle.chord_tree_store.specs.declared.slot.Slot.{Slot}
use Rattle.chord_tree_store.proofs.shard.drop_inside.Goals as goal

pub returns : goal.returns
returns c =
    filter_from_retain_pairs _ (λ (f : record { 0 : Bor Span }). f.0.now ≡ c.args.span.now) (λ (e : ℕ × Slot). not (in_span c.args.span.now e.0)) (λ g k v b w h same told. (search rules, search rules, search rules)) _ _ _ refl c.retain.ensures.filtered
