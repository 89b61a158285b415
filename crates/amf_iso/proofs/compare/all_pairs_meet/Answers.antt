use Rattle.std.proofs.Common.{◌≡◌, ◌<◌, ◌≤◌, length, slice_get, Some, refl, subst, arith}
use Rattle.std.specs.Prelude.{Bool}
use Rattle.std.proofs.lemmas.List.{length-map}
use Rattle.std.proofs.lemmas.Option.{slice_get_read}
use Rattle.amf_graph.specs.Rooted.{content}
use Rattle.amf_iso.specs.Walking.{met, Met, NodePair}
use Rattle.amf_iso.proofs.Looking.{pair_at, left_within, right_within, pairs_few, looked_none, looked_more, looked_other, looked_all}
use Rattle.amf_iso.proofs.compare.all_pairs_meet.Goals as goal

pub loop-next-init : goal.loop-next-init
loop-next-init c = looked_none c.args.graphs.now.left.now.arena c.args.graphs.now.right.now.arena (content c.args.graphs.now.left.now) (content c.args.graphs.now.right.now) c.args.walk.now c.requires.sound

pub node_pair_meets-requires-clause-left : goal.node_pair_meets-requires-clause-left
node_pair_meets-requires-clause-left c =
    let a = c.args.graphs.now.left.now.arena in
    let b = c.args.graphs.now.right.now.arena in
    let w = c.loop-next.walk in
    let next = c.loop-next.next in
    let pair = c.index.result.now in
    let there : next < length w.pairs.items = omega (arith, c.loop-next-test.true, c.len.ensures, w.pairs.ok) in
    let at : slice_get (met w) next ≡ Some (pair.0.0, pair.1.0) = pair_at w next pair (slice_get_read w.pairs.items (length w.pairs.items) next pair refl there c.index.ensures) in
    left_within a b w next pair.0.0 pair.1.0 c.loop-next.invariant.sound at

pub node_pair_meets-requires-clause-right : goal.node_pair_meets-requires-clause-right
node_pair_meets-requires-clause-right c =
    let a = c.args.graphs.now.left.now.arena in
    let b = c.args.graphs.now.right.now.arena in
    let w = c.loop-next.walk in
    let next = c.loop-next.next in
    let pair = c.index.result.now in
    let there : next < length w.pairs.items = omega (arith, c.loop-next-test.true, c.len.ensures, w.pairs.ok) in
    let at : slice_get (met w) next ≡ Some (pair.0.0, pair.1.0) = pair_at w next pair (slice_get_read w.pairs.items (length w.pairs.items) next pair refl there c.index.ensures) in
    right_within a b w next pair.0.0 pair.1.0 c.loop-next.invariant.sound at

pub returns-then-not-branch : goal.returns-then-not-branch
returns-then-not-branch c =
    let a = c.args.graphs.now.left.now.arena in
    let b = c.args.graphs.now.right.now.arena in
    let w = c.loop-next.walk in
    let next = c.loop-next.next in
    let pair = c.index.result.now in
    let there : next < length w.pairs.items = omega (arith, c.loop-next-test.true, c.len.ensures, w.pairs.ok) in
    let at : slice_get (met w) next ≡ Some (pair.0.0, pair.1.0) = pair_at w next pair (slice_get_read w.pairs.items (length w.pairs.items) next pair refl there c.index.ensures) in
    let m = subst (λ (r : Bool). Met a b w c.node_pair_meets.new.walk (NodePair (content c.args.graphs.now.left.now) (content c.args.graphs.now.right.now) pair.0.0 pair.1.0) r) c.if-not-branch.true c.in_ok-node_pair_meets.ensures in
    looked_other a b (content c.args.graphs.now.left.now) (content c.args.graphs.now.right.now) c.args.walk.now w c.node_pair_meets.new.walk next pair.0.0 pair.1.0 c.loop-next.invariant at m

pub loop-next-smaller : goal.loop-next-smaller
loop-next-smaller c =
    let w = c.loop-next.walk in
    let there : c.loop-next.next < length w.pairs.items = omega (arith, c.loop-next-test.true, c.len.ensures, w.pairs.ok) in
    omega (arith, there, pairs_few c.args.graphs.now.left.now.arena c.args.graphs.now.right.now.arena w c.loop-next.invariant.sound)

pub loop-next-preserved : goal.loop-next-preserved
loop-next-preserved c =
    let a = c.args.graphs.now.left.now.arena in
    let b = c.args.graphs.now.right.now.arena in
    let w = c.loop-next.walk in
    let next = c.loop-next.next in
    let pair = c.index.result.now in
    let there : next < length w.pairs.items = omega (arith, c.loop-next-test.true, c.len.ensures, w.pairs.ok) in
    let at : slice_get (met w) next ≡ Some (pair.0.0, pair.1.0) = pair_at w next pair (slice_get_read w.pairs.items (length w.pairs.items) next pair refl there c.index.ensures) in
    let m = subst (λ (r : Bool). Met a b w c.node_pair_meets.new.walk (NodePair (content c.args.graphs.now.left.now) (content c.args.graphs.now.right.now) pair.0.0 pair.1.0) r) c.if-not-branch.false c.in_ok-node_pair_meets.ensures in
    looked_more a b (content c.args.graphs.now.left.now) (content c.args.graphs.now.right.now) c.args.walk.now w c.node_pair_meets.new.walk next pair.0.0 pair.1.0 c.loop-next.invariant at m

pub returns : goal.returns
returns c =
    let w = c.loop-next.walk in
    let long : length (met w) ≡ length w.pairs.items = length-map w.pairs.items (λ p. (p.0.0, p.1.0)) in
    let end : length (met w) ≤ c.loop-next.next = omega (arith, long, c.loop-next-test.false, c.len.ensures, w.pairs.ok) in
    looked_all c.args.graphs.now.left.now.arena c.args.graphs.now.right.now.arena (content c.args.graphs.now.left.now) (content c.args.graphs.now.right.now) c.args.walk.now w c.loop-next.next c.loop-next.invariant end
