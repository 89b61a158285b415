use Rattle.std.proofs.Common.{◌<◌, ◌++◌, length, arith, ap, ◌∙◌}
use Rattle.amf_graph.specs.declared.value.Value.TheVariants.{Undefined}
use Rattle.amf_graph.specs.Arena.{Names, traits_at}
use Rattle.amf_show.proofs.Headed.{ready_long, ready_head}
use Rattle.amf_show.proofs.Held.{each_there}
use Rattle.amf_show.proofs.Joined.{headed_step}
use Rattle.amf_show.proofs.lister.Lister.push_headed.Goals as goal

pub index-requires : goal.index-requires
index-requires c = omega (arith, c.requires.each, ready_long c.args.class.now.heads.items (traits_at c.args.self.now.graph.now.arena c.args.class.now.traits.0).sealed c.requires.text.1)

pub push_value-requires : goal.push_value-requires
push_value-requires c = each_there (Names c.args.self.now.graph.now.arena) c.args.values.now c.loop-place.place Undefined c.requires.values (omega arith)

pub loop-place-preserved : goal.loop-place-preserved
loop-place-preserved c =
    let a = c.args.self.now.graph.now.arena in
    let names = (traits_at a c.args.class.now.traits.0).sealed in
    let values = c.args.values.now in
    let i = c.loop-place.place in
    let within : i < length names = omega (arith, c.requires.each) in
    let head = ready_head c.args.class.now.heads.items names i c.index.result.now c.requires.text.1 c.index.ensures within in
    headed_step c.args.self.now.numbering.now a c.args.out.now.items c.loop-place.out.items c.push.new.out.items c.push_value.new.out.items names values i Undefined within c.requires.each c.loop-place.invariant (c.in_ok-push.ensures ∙ ap (λ w. c.loop-place.out.items ++ w) head) c.in_ok-push_value.ensures
