-- The members of each class.
use Rattle.std.proofs.lemmas.Result.{err_from_is_err_and}
use Rattle.amf_graph.specs.Rooted.{content}
use Rattle.amf_graph.specs.Views.{named}
use Rattle.std.proofs.Common.{Some}
use Rattle.flex_msgs.specs.declared.request.Member.TheVariants as member
use Rattle.flex_msgs.specs.Asked.{told}
use Rattle.flex_msgs.specs.Classes.{correlation_name}
use Rattle.flex_msgs.specs.Lookup.{value_named}
use Rattle.flex_msgs.specs.KeptPairs.{pairs_content}
use Rattle.flex_msgs.specs.Viewing.{text_or_null, served_view}
use Rattle.flex_msgs.proofs.Telling.{refused, class_refused, no_correlation, correlated}
use Rattle.flex_msgs.proofs.viewing.request_of.Goals as goal

pub returns-in_err-common-clause-err : goal.returns-in_err-common-clause-err
returns-in_err-common-clause-err c =
    let g = content c.args.graph.now in
    let ps = pairs_content c.args.graph.now.arena (named c.args.pairs.now) in
    let p = err_from_is_err_and c.from_residual.result c.from_residual.ensures.1 in
    rw (p.1, p.2) (class_refused g ps c.args.class c.in_err-common.field-0.0 c.in_err-common.ensures.err)

pub returns-in_err-correlation-in-Async-clause-err : goal.returns-in_err-correlation-in-Async-clause-err
returns-in_err-correlation-in-Async-clause-err c =
    let a = c.args.graph.now.arena in
    let g = content c.args.graph.now in
    let ps = pairs_content a (named c.args.pairs.now) in
    let p = err_from_is_err_and c.from_residual-in_err-correlation-in-Async.result c.from_residual-in_err-correlation-in-Async.ensures.1 in
    rw (p.1, p.2) (refused c.in_err-correlation-in-Async.field-0.0 member.CorrelationId (text_or_null (value_named correlation_name ps)) (served_view g (Some c.args.class) ps) c.in_err-correlation-in-Async.ensures.err (no_correlation g ps c.args.class c.in-Async.is (told a c.in_ok-common.common) c.in_ok-common.ensures.ok))

pub returns-in_ok-correlation-in-Async-clause-ok : goal.returns-in_ok-correlation-in-Async-clause-ok
returns-in_ok-correlation-in-Async-clause-ok c =
    let a = c.args.graph.now.arena in
    let g = content c.args.graph.now in
    let ps = pairs_content a (named c.args.pairs.now) in
    correlated g ps c.args.class c.in-Async.is (told a c.in_ok-common.common) c.in_ok-common.ensures.ok c.in_ok-correlation-in-Async.correlation c.in_ok-correlation-in-Async.ensures.ok
