use Rattle.std.proofs.Common.{◌++◌, ap, ◌∙◌, subst, sym}
use Rattle.amf_graph.specs.Rooted.{content}
use Rattle.amf_show.specs.Heads.{AreTexts}
use Rattle.amf_show.specs.Listing.{shown_graph}
use Rattle.amf_show.proofs.listing.graph_listing.Goals as goal

pub invariant_of-lister : goal.invariant_of-lister
invariant_of-lister c = record { ready = subst (λ w. AreTexts c.args.graph.now.arena w) (sym c.deref.ensures.value) c.in_ok-classes.ensures }

pub returns : goal.returns
returns c =
    let g = content c.args.graph.now in
    let n = c.in_ok-numbering.numbering in
    record { listed = (n, c.in_ok-numbering.ensures.order, c.in_ok-push_graph.ensures ∙ ap (λ w. w ++ shown_graph g n) c.new-listing.ensures.items) }
