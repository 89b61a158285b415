-- The next number has its hash, and stands at the front of its bucket's chain. Its mark is added.
use Rattle.std.proofs.Common.{◌≡◌, [], ◌∷◌, ◌++◌, ◌+◌, length, drop, sym, ap, ◌∙◌, arith}
use Rattle.std.proofs.lemmas.List.{length-set, take_at}
use Rattle.amf_graph.specs.Chains.{hashes_of, with_mark}
use Rattle.amf_graph.proofs.Links.{count_of, link_pushed}
use Rattle.amf_graph.proofs.Marks.{many_marks, found_push}
use Rattle.amf_graph.proofs.chains.Chains.push.Goals as goal

pub invariant_of-self-2 : goal.invariant_of-self-2
invariant_of-self-2 c =
    let many : length c.self.inside.links.items ≡ length c.make_room.new.links =
    sym (count_of c.self.inside.links.items) ∙ ap (λ w. length (hashes_of w)) (sym c.deref_mut.ensures.value) ∙ ap length (sym c.make_room.ensures.same) ∙ count_of c.make_room.new.links in
    let all = take_at c.make_room.new.links (drop (length c.make_room.new.links) c.self.inside.links.items) c.self.inside.links.len (sym many ∙ sym c.self.inside.links.ok.0) in
    let found = c.make_room.ensures.found in
    let room = c.in_ok-make_room.ensures.room in
    let pushed = c.in_ok-push.ensures.items ∙ ap (λ w. w ++ record { hash = c.args.hash; next = c.index-next.result.now } ∷ []) all in
    let marked : c.mark.new.marks ≡ with_mark c.args.hash c.make_room.new.marks.items = c.mark.ensures ∙ ap (with_mark c.args.hash) c.deref_mut-2.ensures.value in
    let as_many = ap length marked ∙ many_marks c.args.hash c.make_room.new.marks.items in
    let marks = take_at c.mark.new.marks (drop (length c.mark.new.marks) c.make_room.new.marks.items) c.make_room.new.marks.len (as_many ∙ sym c.make_room.new.marks.ok.0) in
    found_push c.make_room.new.links c.push.new.self.items c.make_room.new.buckets.items c.make_room.new.marks.items _ _ c.args.hash c.index-next.result.now
    (let count = found.count in omega arith)
    pushed
    (marks ∙ marked)
    (length-set c.make_room.new.buckets.items c.bucket_of-bucket.result (c.len-number.result + 1))
    (link_pushed c.make_room.new.links c.push.new.self.items c.make_room.new.buckets.items c.args.hash c.len-number.result c.len.result c.bucket_of-bucket.result c.index-next.result.now
    pushed
    c.index-next.ensures
    c.bucket_of-bucket.ensures.bucket
    (c.len.ensures ∙ c.make_room.new.buckets.ok.0)
    (c.len-number.ensures ∙ c.self.inside.links.ok.0 ∙ many)
    (omega arith)
    room
    found.chains)
    found
