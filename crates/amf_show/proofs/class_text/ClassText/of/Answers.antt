use Rattle.std.proofs.Common.{ap, sym, ◌∙◌}
use Rattle.amf_graph.specs.Graph.{Traits}
use Rattle.amf_iso.proofs.HeadFacts.{sealed_in, traits_shown}
use Rattle.amf_show.specs.Joining.{heads_from, object_opening}
use Rattle.amf_show.proofs.class_text.ClassText.of.Goals as goal

pub heads-requires : goal.heads-requires
heads-requires c = sealed_in c.args.graph.now.arena c.args.traits.0 c.traits-class.result c.is_finished.ensures.finished c.requires c.traits-class.ensures

pub returns : goal.returns
returns c =
    let shown = sym (traits_shown c.args.graph.now.arena c.args.traits.0 c.traits-class.result c.traits-class.ensures) in
    (c.of.ensures ∙ c.in_ok-front.ensures ∙ ap object_opening c.text.ensures ∙ ap (λ (t : Traits). object_opening t.class) shown, c.in_ok-before.ensures ∙ ap (λ (t : Traits). heads_from 0 t.sealed) shown, ap (λ (t : Traits). t.dynamic) shown)
