-- What is gathered is exactly what is used.
use Rattle.std.proofs.Common.{ℕ, sym, ap, subst}
use Rattle.std.specs.Prelude.{◌↔◌}
use Rattle.amf_graph.specs.Order.{IsDistinct}
use Rattle.amf_graph.specs.Gather.{Placed, traits_of_nodes}
use Rattle.amf_graph.specs.Grafting.{StandsAt, UsesTraits, UsesText}
use Rattle.amf_graph.proofs.Used.{distinct_all, traits_exact, texts_exact, all_texts}
use Rattle.amf_graph.proofs.copying.Copying.of.Goals as goal

pub returns-clause-exact : goal.returns-clause-exact
returns-clause-exact c =
    let a = c.args.graph.now.arena in
    let vs = c.args.values.now in
    let nodes = c.in_ok-nodes.nodes.items in
    let traits = ap (λ (p : Placed). p.items) c.in_ok-traits.ensures in
    let texts = ap (λ (p : Placed). p.items) c.in_ok-texts.ensures in
    let used = λ (t : ℕ). subst (λ xs. StandsAt xs t ↔ UsesTraits a vs t) (sym traits) (traits_exact a vs nodes c.in_ok-nodes.ensures.reached t) in
    record {
      once_texts = subst IsDistinct (sym texts) (distinct_all (all_texts a vs nodes c.in_ok-nodes.ensures.reached c.in_ok-traits.traits.items used));
      once_traits = subst IsDistinct (sym traits) (distinct_all (traits_of_nodes a nodes));
      once_nodes = c.in_ok-nodes.ensures.once;
      texts = λ x. subst (λ xs. StandsAt xs x ↔ UsesText a vs x) (sym texts) (texts_exact a vs nodes c.in_ok-nodes.ensures.reached c.in_ok-traits.traits.items used x);
      traits = used;
      nodes = c.in_ok-nodes.ensures.reached;
    }
