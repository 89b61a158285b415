use Rattle.std.proofs.Common.{refl, subst, List, ℕ}
use Rattle.amf_graph.specs.Arena.{no_traits, traits_at, IsTraitsIn}
use Rattle.amf_graph.specs.ByName.{by_name}
use Rattle.amf_graph.proofs.Alls.{all_at}
use Rattle.amf_iso.specs.Contents.{pairs_of}
use Rattle.amf0_write.specs.Writes0.{Adds, object_front, pairs_then}
use Rattle.amf0_write.proofs.MetValues0.{text_in}
use Rattle.amf0_write.proofs.Opening0.{opens_object}
use Rattle.amf0_write.proofs.Runs0.{on_ok}
use Rattle.amf0_write.proofs.output.Output.made_object.Goals as goal

pub returns-clause-opened : goal.returns-clause-opened
returns-clause-opened c =
    let a = c.args.graph.now.arena in
    let t = traits_at a c.args.traits.0 in
    let there = (all_at (IsTraitsIn a) a.traits c.args.traits.0 no_traits c.requires.traits c.is_finished.ensures.finished.built.traits).class in
    on_ok c.push_made.result (λ e. record {
      bytes = object_front t.class;
      segments = pairs_then (by_name (pairs_of a c.args.members.items));
      is = opens_object _ t refl c.requires.open (text_in a _ c.is_finished.ensures.finished there) c.requires.class;
      adds = subst (λ (y : List ℕ). Adds (object_front y) c.args.self.now c.object_front.new.self) c.requires.is_class c.in_ok-object_front.ensures.adds;
      left = e;
    }) c.push_made.ensures.left
