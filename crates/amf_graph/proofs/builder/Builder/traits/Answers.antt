-- Traits that are kept leave the arena built.
use Rattle.std.proofs.Common.{arith}
use Rattle.std.proofs.lemmas.List.{length-map}
use Rattle.amf_graph.specs.declared.value.TextId.{TextId}
use Rattle.amf_graph.specs.Arena.{IsTraitsIn}
use Rattle.amf_graph.specs.Building.{stored_traits}
use Rattle.amf_graph.proofs.Built.{built_traits, within_traits}
use Rattle.amf_graph.proofs.builder.Builder.traits.Goals as goal

pub invariant_of-self-2 : goal.invariant_of-self-2
invariant_of-self-2 c =
    let own : IsTraitsIn c.self.inside.store (stored_traits c.args.class c.args.dynamic c.args.sealed.now) = rw (← c.self.view_is) at c.requires in
    rw c.in_ok-keep_traits.ensures.ok (built_traits _ _ c.self.invariant.0 own, within_traits _ _ c.self.invariant.1 (omega arith) (omega (arith, length-map c.args.sealed.now (λ (x : TextId). x.0))))
