use Rattle.std.proofs.Common.{◌∙◌, sym, subst, arith, get_or}
use Rattle.amf_graph.specs.declared.value.Value.TheVariants.{Undefined}
use Rattle.amf_graph.specs.Arena.{Arena, Names}
use Rattle.amf_graph.proofs.Alls.{all_at}
use Rattle.flex_msgs.proofs.Partly.{all_taken}
use Rattle.amf_poll_session.specs.Listened.{Spells}
use Rattle.amf_poll_session.specs.Steps.{bodies_at}
use Rattle.amf_poll_session.proofs.Spelling.{body_more}
use Rattle.amf_poll_session.proofs.output.spelled.Goals as goal

pub rooted_at-rooted-requires : goal.rooted_at-rooted-requires
rooted_at-rooted-requires c =
    subst (λ (a : Arena). Names a (get_or c.args.bodies.now c.loop-body.body-index Undefined)) (sym c.loop-body.invariant.arena)
    (all_at (Names c.args.graph.arena) c.args.bodies.now c.loop-body.body-index Undefined c.loop-body-test.true c.requires)

pub loop-body-preserved : goal.loop-body-preserved
loop-body-preserved c = record {
  arena = c.rooted_at-rooted.ensures.arena ∙ c.loop-body.invariant.arena;
  spelled = body_more c.args.graph c.rooted_at-rooted.result c.args.bodies.now c.loop-body.body-index Undefined c.loop-body.out.items c.write3_keyed.new.out.items c.loop-body-test.true
      (c.rooted_at-rooted.ensures.arena ∙ c.loop-body.invariant.arena) c.rooted_at-rooted.ensures.root c.loop-body.invariant.spelled c.in-Ok.ensures.written;
}

pub returns : goal.returns
returns c =
    subst (λ xs. Spells (bodies_at c.args.graph xs) c.loop-body.out.items) (all_taken c.args.bodies.now c.loop-body.body-index (omega arith)) c.loop-body.invariant.spelled
