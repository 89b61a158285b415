-- The first link of a bucket leads to the greatest number of it, and a hash whose mark is not there has none.
use Rattle.std.proofs.Common.{◌≡◌, ◌-◌, length, get_or, bit_and, sym, ◌∙◌, subst, arith}
use Rattle.amf_graph.specs.Chains.{LeadsTo, bucket_at, hashes_of, nexts_of, AreNexts}
use Rattle.amf_graph.proofs.Links.{count_of}
use Rattle.std.proofs.lemmas.Bool.{eqb-true}
use Rattle.amf_graph.proofs.Marks.{no_hash, no_number}
use Rattle.amf_graph.proofs.chains.first_of.Goals as goal
use Rattle.amf_graph.proofs.chains.first_of.Goals.{then-is_empty-via-then-is_empty, then-is_empty-via-else-is_empty+then-not-is_marked}

pub returns-then-is_empty : goal.returns-then-is_empty
returns-then-is_empty c =
    elim c.then-is_empty.branch [
      | then-is_empty-via-then-is_empty w ↦ let none : length c.args.marks.now ≡ 0 = eqb-true (length c.args.marks.now) 0 (sym c.is_empty.ensures ∙ w.if-is_empty.true) in
          no_hash (hashes_of c.args.links.now) c.args.hash (length c.args.links.now) (let r = c.requires.chains.room in let s = c.requires.count in let n = count_of c.args.links.now in omega arith)
      | then-is_empty-via-else-is_empty+then-not-is_marked w ↦ no_number (hashes_of c.args.links.now) c.args.marks.now c.args.hash (length c.args.links.now) (sym (count_of c.args.links.now)) c.requires.marked (w.is_marked.ensures w.if-not-is_marked.true)
    ]

pub returns : goal.returns
returns c =
    let h = c.requires.chains in
    let there = c.bucket_of-bucket.ensures.there in
    let count = count_of c.args.links.now in
    let head = h.linked.heads c.bucket_of-bucket.result (omega arith) in
    c.link_of.ensures (length c.args.buckets.now - 1) (length c.args.links.now)
    (subst (λ n. AreNexts (length c.args.buckets.now - 1) n (hashes_of c.args.links.now) (nexts_of c.args.links.now)) count h.linked.nexts)
    (subst (λ n. LeadsTo (bucket_at (length c.args.buckets.now - 1) (hashes_of c.args.links.now)) n (bit_and c.args.hash (length c.args.buckets.now - 1)) (get_or c.args.buckets.now c.bucket_of-bucket.result 0)) count
    (subst (λ b. LeadsTo (bucket_at (length c.args.buckets.now - 1) (hashes_of c.args.links.now)) (length (hashes_of c.args.links.now)) b (get_or c.args.buckets.now c.bucket_of-bucket.result 0)) c.bucket_of-bucket.ensures.bucket head))
    (omega arith)
