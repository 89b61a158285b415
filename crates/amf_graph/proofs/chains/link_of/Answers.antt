-- A chain that is gone along passes no number of the hash.
use Rattle.std.proofs.Common.{◌≡◌, ◌-◌, ◌<◌, length, ◌∙◌, sym, subst, arith}
use Rattle.amf_graph.specs.Chains.{hashes_of, nexts_of}
use Rattle.amf_graph.proofs.Links.{OnTheWay, hash_kept, next_kept, passed_on, arrived, set_off}
use Rattle.amf_graph.proofs.chains.link_of.Goals as goal

pub loop-link-init : goal.loop-link-init
loop-link-init c = record {
  within = c.requires.from;
  way = λ mask bound nexts from few. set_off mask bound (hashes_of c.args.links.now) c.args.hash c.args.from from;
}

pub loop-link-smaller : goal.loop-link-smaller
loop-link-smaller c =
    let there : c.loop-link.link - 1 < length c.args.links.now = let w = c.loop-link.invariant.within in omega arith in
    let lower = c.requires.lower (c.loop-link.link - 1) there in
    let is = next_kept c.args.links.now (c.loop-link.link - 1) in
    omega arith

pub loop-link-preserved : goal.loop-link-preserved
loop-link-preserved c =
    let there : c.loop-link.link - 1 < length c.args.links.now = let w = c.loop-link.invariant.within in omega arith in
    let lower = c.requires.lower (c.loop-link.link - 1) there in
    let is = next_kept c.args.links.now (c.loop-link.link - 1) in
    record {
      within = omega arith;
      way = λ mask bound nexts from few.
          subst (OnTheWay mask bound (hashes_of c.args.links.now) c.args.hash) (sym is)
          (passed_on mask bound (length c.args.links.now) (hashes_of c.args.links.now) (nexts_of c.args.links.now) c.loop-link.link c.args.hash nexts few (omega arith) (λ e. c.if-at-hash.false (hash_kept c.args.links.now (c.loop-link.link - 1) ∙ e)) (c.loop-link.invariant.way mask bound nexts from few));
    }

pub returns-then-at-hash : goal.returns-then-at-hash
returns-then-at-hash c = λ mask bound nexts from few. arrived mask bound (hashes_of c.args.links.now) c.args.hash c.loop-link.link (c.loop-link.invariant.way mask bound nexts from few) (λ l. sym (hash_kept c.args.links.now (c.loop-link.link - 1)) ∙ c.if-at-hash.true)

pub returns : goal.returns
returns c = λ mask bound nexts from few.
    let none : c.loop-link.link ≡ 0 = omega arith in
    arrived mask bound (hashes_of c.args.links.now) c.args.hash 0 (subst (OnTheWay mask bound (hashes_of c.args.links.now) c.args.hash) none (c.loop-link.invariant.way mask bound nexts from few)) (λ l. absurd (omega arith))
