use Rattle.std.proofs.Common.{◌<◌, ◌≤◌, length, get_or, map, arith, ap, ◌∙◌}
use Rattle.amf_tables.specs.KnownTexts.{content_at}
use Rattle.amf_tables.proofs.KnownTexts.{numbered}
use Rattle.amf_iso.proofs.NamedPairs.{pair_there}
use Rattle.amf_iso.proofs.LastOrders.{names_pushed, all_pushed, no_pair}
use Rattle.amf_iso.proofs.last_order.push_names.Goals as goal

pub text_number-requires : goal.text_number-requires
text_number-requires c =
    let within : c.loop-index.index < length c.args.pairs.now = omega arith in
    (pair_there c.args.graph.now.arena c.args.pairs.now c.loop-index.index no_pair c.requires.pairs within).0

pub loop-index-preserved : goal.loop-index-preserved
loop-index-preserved c =
    let a = c.args.graph.now.arena in
    let ps = c.args.pairs.now in
    let i = c.loop-index.index in
    let there : i < length ps = omega arith in
    ap (map (content_at a)) c.in_ok-push.ensures.items ∙ names_pushed a c.loop-index.names.items c.text_number.result ps i there (numbered a c.text_number.result (get_or ps i no_pair).0.0 c.text_number.ensures) c.loop-index.invariant

pub returns : goal.returns
returns c =
    let all : length c.args.pairs.now ≤ c.loop-index.index = omega arith in
    all_pushed c.args.graph.now.arena c.loop-index.names.items c.args.pairs.now c.loop-index.index all c.loop-index.invariant
