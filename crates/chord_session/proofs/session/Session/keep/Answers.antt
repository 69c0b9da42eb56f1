use Rattle.std.proofs.Common.{◌<◌, ℕ, length, ap, ◌∙◌, arith}
use Rattle.chord_session.specs.SessionState.{SessionState}
use Rattle.chord_session.specs.Session.{frame_at, place_of}
use Rattle.chord_session.proofs.Places.{set_frame, state_of}
use Rattle.chord_session.proofs.session.Session.keep.Goals as goal

pub returns : goal.returns
returns c =
    let kept = c.self.inside.kept.items in
    let floor = c.self.inside.floor in
    let frame = c.args.frame in
    let place-is = c.place_of-place.ensures in
    let floor-is = ap (λ (s : SessionState). s.floor) c.self.view_is in
    let kept-is = ap (λ (s : SessionState). length s.kept) c.self.view_is in
    let lt : c.place_of-place.result < length kept = omega (arith, place-is, floor-is, kept-is, c.requires.kept, c.requires.above) in
    ap (state_of floor) (set_frame kept c.place_of-place.result c.index_mut.result.now frame lt c.index_mut.ensures.value)
    ∙ ap (λ (place : ℕ). state_of floor (frame_at kept place frame)) place-is
    ∙ ap (λ (s : SessionState). state_of s.floor (frame_at s.kept (place_of c.args.self.now c.args.number) frame)) c.self.view_is
