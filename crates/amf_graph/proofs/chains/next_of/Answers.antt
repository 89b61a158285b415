-- The link of a number leads to the next lower one of its bucket.
use Rattle.std.proofs.Common.{◌-◌, ◌<◌, length, get_or, bit_and, sym, subst, arith}
use Rattle.amf_graph.specs.Chains.{LeadsTo, hash_at, bucket_at, hashes_of, nexts_of, AreNexts}
use Rattle.amf_graph.proofs.Links.{no_link, count_of, hash_kept, next_kept}
use Rattle.amf_graph.proofs.chains.next_of.Goals as goal

pub link_of-requires-clause-from : goal.link_of-requires-clause-from
link_of-requires-clause-from c =
    let count = count_of c.args.links.now in
    let some = c.requires.some in
    let there : c.args.link - 1 < length (hashes_of c.args.links.now) = let w = c.requires.there in omega arith in
    let lower = (c.requires.chains.linked.nexts (c.args.link - 1) there).within in
    let is = next_kept c.args.links.now (c.args.link - 1) in
    omega arith

pub returns : goal.returns
returns c =
    let h = c.requires.chains in
    let mask = length c.args.buckets.now - 1 in
    let hashes = hashes_of c.args.links.now in
    let count = count_of c.args.links.now in
    let some = c.requires.some in
    let there : c.args.link - 1 < length (hashes_of c.args.links.now) = let w = c.requires.there in omega arith in
    let hash_is = hash_kept c.args.links.now (c.args.link - 1) in
    subst (λ w. LeadsTo (hash_at hashes) (c.args.link - 1) w c.link_of.result) hash_is
    (c.link_of.ensures mask (c.args.link - 1)
    (subst (λ n. AreNexts mask n hashes (nexts_of c.args.links.now)) count h.linked.nexts)
    (subst (λ w. LeadsTo (bucket_at mask hashes) (c.args.link - 1) (bit_and w mask) (get_or c.args.links.now (c.args.link - 1) no_link).next) (sym hash_is)
    (subst (LeadsTo (bucket_at mask hashes) (c.args.link - 1) (bucket_at mask hashes (c.args.link - 1))) (sym (next_kept c.args.links.now (c.args.link - 1))) (h.linked.nexts (c.args.link - 1) there)))
    (omega arith))
