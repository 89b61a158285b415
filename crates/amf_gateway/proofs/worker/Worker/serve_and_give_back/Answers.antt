use Rattle.std.proofs.Common.{◌∙◌, sym}
use Rattle.amf_gateway.specs.ServesLink.{end_of}
use Rattle.amf_gateway.proofs.SoFar.{served_next, counts_few}
use Rattle.amf_gateway.proofs.ServedEnds.{at_most_each, all_answered_unless}
use Rattle.amf_gateway.proofs.worker.Worker.serve_and_give_back.Goals as goal

pub returns-clause-served : goal.returns-clause-served
returns-clause-served g c =
    let s = c.serve_link_keyed-end.ensures.served in
    let b = c.back.ensures in
    served_next _ _ _ _ _ _ c.serve_link_keyed-end.new.aid _ (record { came = c.args.link; left = c.serve_link_keyed-end.new.link; took = s.0; end = end_of c.serve_link_keyed-end.result }) _ s.1
    (record { tells = b.tells; coming = b.coming; served = b.served; none_out = b.out; faults = b.faults; moments = b.moments; words = b.words }) c.is_starved.ensures

pub returns-clause-calls : goal.returns-clause-calls
returns-clause-calls g c = counts_few _ _ _ _ _ (at_most_each (end_of c.serve_link_keyed-end.result)) c.serve_link_keyed-end.ensures.calls

pub returns-clause-all_answered : goal.returns-clause-all_answered
returns-clause-all_answered g c = λ e more.
    let end = end_of c.serve_link_keyed-end.result in
    all_answered_unless end _ _ _ _ (sym c.is_starved.ensures ∙ e) c.serve_link_keyed-end.ensures.served.1.budget more c.serve_link_keyed-end.ensures.calls
