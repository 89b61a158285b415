-- The numbered nodes are a part of the graph, and their numbers are their places.
use Rattle.std.proofs.Common.{◌≡◌, length, sym, ap, ◌∙◌, subst}
use Rattle.amf_graph.specs.Isomorphic.{Isomorphic}
use Rattle.amf_graph.specs.Order.{IsOrder}
use Rattle.amf_graph.specs.Rooted.{RootedArena, content}
use Rattle.amf_graph.specs.Renumbered.{numbers_of, renumbered, IsSelfContained}
use Rattle.amf3_spelling.specs.KeptTables.{below}
use Rattle.amf_iso.proofs.ClosedOrders.{order_is_self_contained}
use Rattle.amf_iso.proofs.Orders.{ok_implies}
use Rattle.amf_iso.proofs.Relabelled.{relabelled_count, relabelled_order, relabelled_isomorphic}
use Rattle.amf_iso.proofs.relabelling.relabel.Goals as goal

pub renumbered-requires : goal.renumbered-requires
renumbered-requires c = subst (IsSelfContained c.args.graph.now) (sym c.nodes.ensures) (order_is_self_contained c.args.graph.now c.args.numbering.now c.requires)

pub returns-clause-isomorphic : goal.returns-clause-isomorphic
returns-clause-isomorphic c =
    let g : RootedArena = c.args.graph.now in
    ok_implies c.renumbered.result (λ (h : RootedArena). h ≡ renumbered (numbers_of c.nodes.result.now) g) (λ (h : RootedArena). Isomorphic (content g) (content h))
    (λ h e. subst (λ (x : RootedArena). Isomorphic (content g) (content x)) (sym (e ∙ ap (λ order. renumbered order g) c.nodes.ensures)) (relabelled_isomorphic g c.args.numbering.now c.requires)) c.renumbered.ensures

pub returns-clause-numbered : goal.returns-clause-numbered
returns-clause-numbered c =
    let g : RootedArena = c.args.graph.now in
    ok_implies c.renumbered.result (λ (h : RootedArena). h ≡ renumbered (numbers_of c.nodes.result.now) g) (λ (h : RootedArena). IsOrder (content h) (below (length c.args.numbering.now)))
    (λ h e. subst (λ (x : RootedArena). IsOrder (content x) (below (length c.args.numbering.now))) (sym (e ∙ ap (λ order. renumbered order g) c.nodes.ensures)) (relabelled_order g c.args.numbering.now c.requires)) c.renumbered.ensures

pub returns-clause-count : goal.returns-clause-count
returns-clause-count c =
    let g : RootedArena = c.args.graph.now in
    ok_implies c.renumbered.result (λ (h : RootedArena). h ≡ renumbered (numbers_of c.nodes.result.now) g) (λ (h : RootedArena). length (content h).nodes ≡ length c.args.numbering.now)
    (λ h e. subst (λ (x : RootedArena). length (content x).nodes ≡ length c.args.numbering.now) (sym (e ∙ ap (λ order. renumbered order g) c.nodes.ensures)) (relabelled_count g c.args.numbering.now c.requires)) c.renumbered.ensures
