use Rattle.std.proofs.Common.{◌<◌, ◌++◌, length, get_or, arith, ap, ◌∙◌}
use Rattle.amf_graph.specs.declared.value.Value.{Value}
use Rattle.amf_graph.specs.declared.value.TextId.{TextId}
use Rattle.amf_graph.specs.declared.value.Value.TheVariants.{Undefined}
use Rattle.amf_graph.specs.Arena.{value_content}
use Rattle.amf_iso.proofs.NamedPairs.{pair_there}
use Rattle.amf_show.specs.Listing.{shown_pair}
use Rattle.amf_show.proofs.Joined.{pairs_step}
use Rattle.amf_show.proofs.lister.Lister.push_each.Goals as goal

pub text-requires : goal.text-requires
text-requires c = (pair_there c.args.self.now.graph.now.arena c.args.pairs.now c.loop-place.place _ c.requires (omega arith)).0

pub push_pair-requires : goal.push_pair-requires
push_pair-requires c = (pair_there c.args.self.now.graph.now.arena c.args.pairs.now c.loop-place.place _ c.requires (omega arith)).1

pub loop-place-preserved : goal.loop-place-preserved
loop-place-preserved c =
    let order = c.args.self.now.numbering.now in
    let a = c.args.self.now.graph.now.arena in
    let pairs = c.args.pairs.now in
    let i = c.loop-place.place in
    let d : TextId × Value = (record { 0 = 0 }, Undefined) in
    let within : i < length pairs = omega arith in
    let named = ap (λ x. c.push_separator.new.out.items ++ shown_pair order (x, value_content a (get_or pairs i d).1)) c.text.ensures in
    pairs_step (shown_pair order) a c.args.out.now.items c.loop-place.out.items c.push_separator.new.out.items c.push_pair.new.out.items pairs i d within c.loop-place.invariant c.in_ok-push_separator.ensures (c.in_ok-push_pair.ensures ∙ named)
