-- Of a batch that is not new nothing is written.
use Rattle.std.proofs.Common.{arith, rules, ◌≡◌, false, List, sym, ap, subst}
use Rattle.amf_graph.specs.Graph.{Graph}
use Rattle.amf_poll_session.specs.Listened.{HasSpelled}
use Rattle.amf_poll_session.specs.Steps.{new_bodies, bodies_at}
use Rattle.amf_poll_session.proofs.Steps.{spelled_none}
use Rattle.amf_poll_session.proofs.over_link.put_new.Goals as goal

pub returns-then-not-is_new-clause-puts : goal.returns-then-not-is_new-clause-puts
returns-then-not-is_new-clause-puts g c =
    let old : c.args.is_new ≡ false = first_of (cc, grind arith, search rules) in
    let held = g.O.Sink.held c.args.out.now in
    λ t. subst (λ (l : List Graph). HasSpelled l held held) (sym (ap (λ b. new_bodies b (bodies_at c.args.graph c.args.bodies.items)) old)) (spelled_none held)
