-- Each hash's mark is added, and those that were there stay.
use Rattle.std.proofs.Common.{length, get_or, ap, ◌∙◌, sym, subst, arith}
use Rattle.amf_graph.specs.Chains.{hash_at, hashes_of, IsMarked}
use Rattle.amf_graph.proofs.Links.{no_link, hash_kept, count_of}
use Rattle.amf_graph.proofs.Marks.{many_marks, marked_on}
use Rattle.amf_graph.proofs.chains.mark_all.Goals as goal

pub loop-link-preserved : goal.loop-link-preserved
loop-link-preserved c = record {
  marked = λ i l.
      subst (λ w. IsMarked w (hash_at (hashes_of c.args.links.now) i)) (sym c.mark.ensures)
      (marked_on (hashes_of c.args.links.now) c.loop-link.marks (get_or c.args.links.now c.loop-link.link-index no_link).hash c.loop-link.link-index
      (let w = c.requires in let e = c.loop-link.auto.marks in omega arith) (hash_kept c.args.links.now c.loop-link.link-index) c.loop-link.invariant.marked i l);
  count = ap length c.mark.ensures ∙ many_marks (get_or c.args.links.now c.loop-link.link-index no_link).hash c.loop-link.marks ∙ c.loop-link.invariant.count;
}

pub returns-clause-marked : goal.returns-clause-marked
returns-clause-marked c = λ i l. c.loop-link.invariant.marked i (let w = count_of c.args.links.now in let e = c.loop-link.auto.link-index-end in omega arith)
