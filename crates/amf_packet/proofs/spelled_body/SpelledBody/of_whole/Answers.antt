use Rattle.std.proofs.Common.{ℕ, List, Option, subst}
use Rattle.amf_graph.specs.Rooted.{content}
use Rattle.amf_packet.specs.SpelledBodies.{TellsSpelling}
use Rattle.amf_packet.proofs.spelled_body.SpelledBody.of_whole.Goals as goal

pub returns : goal.returns
returns c = subst (λ (o : Option (List ℕ)). TellsSpelling c.args.form (content c.args.graph.now) o) c.in-Some.is c.in_ok-spelling.ensures

pub unreachable-requires : goal.unreachable-requires
unreachable-requires c =
    let none = subst (λ (o : Option (List ℕ)). TellsSpelling c.args.form (content c.args.graph.now) o) c.in-None.is c.in_ok-spelling.ensures in
    c.requires none.0.node none.0.kind none.1
