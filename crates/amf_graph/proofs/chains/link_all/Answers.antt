-- Each number gets the link that its bucket had.
use Rattle.std.proofs.Common.{◌≡◌, ◌-◌, ◌+◌, length, get_or, set, bit_and, ◌∙◌, ap, subst, arith}
use Rattle.std.proofs.lemmas.List.{length-set}
use Rattle.amf_graph.specs.Chains.{hashes_of, nexts_of, AreLinked}
use Rattle.amf_graph.proofs.Links.{no_link, relinked, same_hashes}
use Rattle.amf_graph.proofs.chains.link_all.Goals as goal

pub loop-place-preserved : goal.loop-place-preserved
loop-place-preserved c =
    let count = c.loop-place.invariant.count in
    let there = c.requires.there in
    let many = c.loop-place.auto.links in
    let hash = (get_or c.loop-place.links c.loop-place.place no_link).hash in
    record {
      same = same_hashes c.loop-place.links c.loop-place.place c.enter.result ∙ c.loop-place.invariant.same;
      count = ap length c.enter.ensures.entered ∙ length-set c.loop-place.buckets (bit_and hash (length c.loop-place.buckets - 1)) (c.loop-place.place + 1) ∙ count;
      linked =
          relinked (length c.args.buckets.now - 1) c.loop-place.place c.enter.result c.args.links.now c.loop-place.links c.loop-place.buckets c.enter.new.buckets
          c.loop-place.invariant.same (omega arith) (omega arith)
          (c.enter.ensures.head ∙ ap (λ n. get_or c.loop-place.buckets (bit_and hash (n - 1)) 0) count)
          (c.enter.ensures.entered ∙ ap (λ n. set c.loop-place.buckets (bit_and hash (n - 1)) (c.loop-place.place + 1)) count)
          c.loop-place.invariant.linked;
    }

pub returns : goal.returns
returns c = record {
  same = c.loop-place.invariant.same;
  linked =
      let all : c.loop-place.place ≡ length c.args.links.now = let end = c.loop-place.auto.place-end in omega arith in
      subst (λ n. AreLinked (length c.args.buckets.now - 1) n (hashes_of c.args.links.now) (nexts_of c.loop-place.links) c.loop-place.buckets) all c.loop-place.invariant.linked;
  count = c.loop-place.invariant.count;
}
