use Rattle.std.proofs.Common.{◌≡◌, ◌<◌, ◌≤◌, length, get_or, rules, arith, ap, ◌∙◌}
use Rattle.amf_tables.specs.KnownTexts.{content_at}
use Rattle.amf_tables.proofs.KnownTexts.{numbered}
use Rattle.amf_iso.proofs.NamedPairs.{pair_there}
use Rattle.amf_iso.proofs.LastOrders.{names_more, all_named, no_pair}
use Rattle.amf_iso.proofs.last_order.are_names.Goals as goal

pub text_number-requires : goal.text_number-requires
text_number-requires c =
    let within : c.loop-index.index < length c.args.pairs.now = omega arith in
    (pair_there c.args.graph.now.arena c.args.pairs.now c.loop-index.index no_pair c.requires within).0

pub loop-index-preserved : goal.loop-index-preserved
loop-index-preserved c =
    let a = c.args.graph.now.arena in
    let ns = c.args.names.now in
    let ps = c.args.pairs.now in
    let i = c.loop-index.index in
    let within : i < length ns = omega arith in
    let there : i < length ps = omega arith in
    let same : get_or ns i 0 ≡ c.text_number.result = search rules in
    names_more a ns ps i within there (ap (content_at a) same ∙ numbered a c.text_number.result (get_or ps i no_pair).0.0 c.text_number.ensures) c.loop-index.invariant

pub returns : goal.returns
returns c = λ t.
    let past : length c.args.names.now ≤ c.loop-index.index = omega arith in
    let all : length c.args.pairs.now ≤ c.loop-index.index = omega arith in
    all_named c.args.graph.now.arena c.args.names.now c.args.pairs.now c.loop-index.index past all c.loop-index.invariant
