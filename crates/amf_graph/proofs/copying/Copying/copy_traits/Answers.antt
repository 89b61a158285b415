-- Each name is copied.
use Rattle.std.proofs.Common.{◌<◌, List, map, subst, ap, ◌∙◌}
use Rattle.std.specs.List.{AllByRecursion}
use Rattle.amf_graph.specs.declared.value.TextId.{TextId}
use Rattle.amf_graph.specs.Arena.{StoredTraits}
use Rattle.amf_graph.specs.Copying.{renaming_of}
use Rattle.amf_graph.proofs.Copied.{id_at, ids_more}
use Rattle.amf_graph.proofs.copying.Copying.copy_traits.Goals as goal

pub text-requires : goal.text-requires
text-requires c =
    let same = ap (λ (t : StoredTraits). t.sealed) c.traits-class.ensures in
    id_at (λ x. x < c.args.self.now.texts.count) c.traits-class.result.sealed.now c.loop-name.name-index (record { 0 = 0 })
    (subst (AllByRecursion (λ x. x < c.args.self.now.texts.count)) same c.requires.counted.sealed) c.loop-name-test.true

pub loop-name-preserved : goal.loop-name-preserved
loop-name-preserved c =
    ap (λ (xs : List TextId). map (λ x. x.0) xs) c.in_ok-push.ensures.items
    ∙ ids_more (renaming_of c.args.self.now).texts c.traits-class.result.sealed.now c.loop-name.sealed.items c.loop-name.name-index (record { 0 = 0 }) c.text.result c.loop-name-test.true c.text.ensures c.loop-name.invariant
