use Rattle.std.proofs.Common.{◌<◌, ◌++◌, length, get_or, arith, ap, ◌∙◌}
use Rattle.amf_graph.specs.declared.value.Value.TheVariants.{Undefined}
use Rattle.amf_graph.specs.Arena.{Names, value_content}
use Rattle.amf_tables.proofs.ShownTexts.{id_within}
use Rattle.amf_show.specs.Listing.{shown_pair}
use Rattle.amf_show.proofs.Held.{each_there}
use Rattle.amf_show.proofs.Joined.{sealed_step}
use Rattle.amf_show.proofs.lister.Lister.push_each_sealed.Goals as goal

pub text-requires : goal.text-requires
text-requires c = id_within c.args.self.now.graph.now.arena c.args.names.now c.loop-place.place _ c.requires.names (omega arith)

pub push_pair-requires : goal.push_pair-requires
push_pair-requires c =
    let within : c.loop-place.place < length c.args.values.now = omega (arith, c.requires.each) in
    each_there (Names c.args.self.now.graph.now.arena) c.args.values.now c.loop-place.place Undefined c.requires.values within

pub loop-place-preserved : goal.loop-place-preserved
loop-place-preserved c =
    let order = c.args.self.now.numbering.now in
    let a = c.args.self.now.graph.now.arena in
    let names = c.args.names.now in
    let values = c.args.values.now in
    let i = c.loop-place.place in
    let within : i < length names = omega arith in
    let named = ap (λ x. c.push_separator.new.out.items ++ shown_pair order (x, value_content a (get_or values i Undefined))) c.text.ensures in
    sealed_step order a c.args.out.now.items c.loop-place.out.items c.push_separator.new.out.items c.push_pair.new.out.items names values i (record { 0 = 0 }) Undefined within c.requires.each c.loop-place.invariant c.in_ok-push_separator.ensures (c.in_ok-push_pair.ensures ∙ named)
