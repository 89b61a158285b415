-- A content that is new gets the place of its text.
use Rattle.std.proofs.Common.{◌<◌, ◌≤◌, ◌++◌, ◌∷◌, [], length, ap, ◌∙◌, arith}
use Rattle.amf_graph.specs.TextNumbers.{contents_of}
use Rattle.amf_tables.proofs.TextFirsts.{pushed_new, pushed_kept}
use Rattle.amf_tables.proofs.hashed_texts.HashedTexts.push.Goals as goal

pub invariant_of-self-in-Continue-branch-3 : goal.invariant_of-self-in-Continue-branch-3
invariant_of-self-in-Continue-branch-3 c =
    let same = ap length c.reserve.ensures.items in
    let more : length c.self.inside.firsts.items < length (contents_of c.push.new.self) = omega (arith, same) in
    pushed_new c.self.inside.texts c.push.new.self c.self.inside.firsts.items c.push-then-content_count-len.new.self.items c.args.bytes.now c.len-place.result
    c.in_ok-push.ensures.ok c.len-place.ensures (omega arith) (c.in_ok-push-2.ensures.items ∙ ap (λ w. w ++ c.len-place.result ∷ []) c.reserve.ensures.items) more c.self.invariant

pub invariant_of-self-else-content_count-len : goal.invariant_of-self-else-content_count-len
invariant_of-self-else-content_count-len c =
    let same = ap length c.reserve.ensures.items in
    let few : length (contents_of c.push.new.self) ≤ length c.self.inside.firsts.items = omega (arith, same) in
    pushed_kept c.self.inside.texts c.push.new.self c.self.inside.firsts.items c.reserve.new.self.items c.args.bytes.now
    c.in_ok-push.ensures.ok (omega arith) c.reserve.ensures.items few c.self.invariant
