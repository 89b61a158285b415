use Rattle.std.proofs.Common.{◌≡◌, ◌<◌, ◌-◌, length, false, sym, ◌∙◌, ap, subst, arith}
use Rattle.std.specs.List.{AllByRecursion}
use Rattle.amf_graph.specs.Arena.{graph_of}
use Rattle.amf_vectors.specs.Making.{reference}
use Rattle.amf_vectors.proofs.Steps.{all_closed, made_content}
use Rattle.amf_vectors.proofs.maker.make.Goals as goal

pub finished-requires-clause-there : goal.finished-requires-clause-there
finished-requires-clause-there c = subst (λ a. 0 < length a.nodes) (sym c.in_ok-build.ensures.made) (omega arith)

pub finished-requires-clause-closed : goal.finished-requires-clause-closed
finished-requires-clause-closed c = subst (λ a. AllByRecursion (λ m. m.is_open ≡ false) a.nodes) (sym c.in_ok-build.ensures.made) (all_closed c.args.seed (c.args.size - 1))

pub returns-clause-made : goal.returns-clause-made
returns-clause-made c =
    ap (λ g. graph_of g.arena g.root) c.finished.ensures ∙ ap (λ a. graph_of a (reference 0)) c.in_ok-build.ensures.made ∙ made_content c.args.seed c.args.size
