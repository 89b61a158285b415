use Rattle.std.proofs.Common.{◌≡◌, true, false, refl, sym, ◌∙◌}
use Rattle.amf_graph.specs.Rooted.{content}
use Rattle.amf_iso.specs.Walking.{NodePair}
use Rattle.amf_iso.proofs.Meeting.{met_still, sound_with, ok_met_with}
use Rattle.amf_iso.proofs.compare.node_pair_meets.Goals as goal

pub returns-then-not-heads_match : goal.returns-then-not-heads_match
returns-then-not-heads_match c =
    let l = c.args.graphs.now.left.now in
    let r = c.args.graphs.now.right.now in
    met_still l.arena r.arena c.args.walk.now _ c.heads_match.new.texts (NodePair (content l) (content r) c.args.i.0 c.args.j.0) false c.requires.sound refl c.heads_match.ensures.known (λ pairs. (
      λ t. absurd (let no : false ≡ true = t in cc),
      λ z. absurd (let no : false ≡ true = sym c.if-not-heads_match.true ∙ c.heads_match.ensures.same.1 z.head in cc),
    ))

pub parts_meet-requires-clause-sound : goal.parts_meet-requires-clause-sound
parts_meet-requires-clause-sound c = sound_with c.args.graphs.now.left.now.arena c.args.graphs.now.right.now.arena c.args.walk.now c.heads_match.new.texts c.requires.sound c.heads_match.ensures.known

pub returns : goal.returns
returns c =
    let l = c.args.graphs.now.left.now in
    let r = c.args.graphs.now.right.now in
    ok_met_with l.arena r.arena c.parts_meet.result c.args.walk.now c.parts_meet.new.walk c.heads_match.new.texts (NodePair (content l) (content r) c.args.i.0 c.args.j.0) c.parts_meet.ensures
