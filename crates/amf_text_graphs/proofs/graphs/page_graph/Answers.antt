use Rattle.std.proofs.Common.{◌∙◌, ap}
use Rattle.std.proofs.lemmas.Result.{IfOk-weaker}
use Rattle.amf_graph.specs.Rooted.{content}
use Rattle.amf_text_graphs.proofs.Wholes.{page_told}
use Rattle.amf_text_graphs.proofs.graphs.page_graph.Goals as goal

pub finish-requires-clause-told : goal.finish-requires-clause-told
finish-requires-clause-told c =
    (page_told c.few_nodes.ensures c.args.page c.in_ok-rows.rows c.tell_all.new.book c.value.new.book c.into_sheet.result c.in_ok-root.root
    c.in_ok-rows.ensures c.in_ok-tell_all.ensures.count c.in_ok-tell_all.ensures.shown
    c.in_ok-root.ensures.adds c.in_ok-root.ensures.shows c.into_sheet.ensures c.requires).told

pub finish-requires-clause-root : goal.finish-requires-clause-root
finish-requires-clause-root c =
    (page_told c.few_nodes.ensures c.args.page c.in_ok-rows.rows c.tell_all.new.book c.value.new.book c.into_sheet.result c.in_ok-root.root
    c.in_ok-rows.ensures c.in_ok-tell_all.ensures.count c.in_ok-tell_all.ensures.shown
    c.in_ok-root.ensures.adds c.in_ok-root.ensures.shows c.into_sheet.ensures c.requires).root

pub returns : goal.returns
returns c =
    let told =
    page_told c.few_nodes.ensures c.args.page c.in_ok-rows.rows c.tell_all.new.book c.value.new.book c.into_sheet.result c.in_ok-root.root
    c.in_ok-rows.ensures c.in_ok-tell_all.ensures.count c.in_ok-tell_all.ensures.shown
    c.in_ok-root.ensures.adds c.in_ok-root.ensures.shows c.into_sheet.ensures c.requires in
    IfOk-weaker c.finish.result _ _ (λ g e. ap content e ∙ told.content) c.finish.ensures
