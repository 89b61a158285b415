use Rattle.std.proofs.Common.{sym, ap, ◌∙◌, subst}
use Rattle.amf_iso.specs.Contents.{pairs_of, ArePairs}
use Rattle.amf_iso.proofs.InOrder.{already_by_name}
use Rattle.amf_iso.proofs.Orders.{on_ok_implies, true_is}
use Rattle.amf_iso.proofs.met.push_by_name.Goals as goal

pub returns-then-are_by_name : goal.returns-then-are_by_name
returns-then-are_by_name c =
    let a = c.args.graph.now.arena in
    let ps = c.args.pairs.now in
    on_ok_implies c.push_seconds.result _ _ (λ e. record { sorted = ps; items = e; content = already_by_name (pairs_of a ps) (c.are_by_name.ensures.0 (true_is c.are_by_name.result c.if-are_by_name.true)); names = c.requires }) c.push_seconds.ensures

pub returns : goal.returns
returns c =
    let a = c.args.graph.now.arena in
    let ps = c.deref.result.now in
    on_ok_implies c.push_seconds-2.result _ _ (λ e. record { sorted = ps; items = e; content = ap (pairs_of a) c.deref.ensures.value ∙ c.in_ok-sorted.ensures.content; names = subst (ArePairs a) (sym c.deref.ensures.value) c.in_ok-sorted.ensures.names }) c.push_seconds-2.ensures
