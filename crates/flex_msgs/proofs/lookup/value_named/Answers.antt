-- One pair more.
use Rattle.std.proofs.Common.{◌≡◌, true, false, get_or, sym, ap, ◌∙◌, subst}
use Rattle.std.specs.Prelude.{bytes_eq}
use Rattle.amf_graph.specs.declared.value.Value.TheVariants.{Undefined}
use Rattle.amf_graph.specs.declared.value.Value.{Value as Stored}
use Rattle.amf_graph.specs.declared.value.TextId.{TextId}
use Rattle.amf_graph.specs.Arena.{Names, text_at, value_content}
use Rattle.amf_graph.proofs.Copied.{named_at}
use Rattle.flex_msgs.specs.KeptPairs.{IsPairIn}
use Rattle.flex_msgs.proofs.Looking.{found, passed}
use Rattle.flex_msgs.proofs.lookup.value_named.Goals as goal
use Rattle.flex_msgs.proofs.lookup.value_named.Goals.{then-eq, else-eq}

pub text-requires : goal.text-requires
text-requires c = (named_at (IsPairIn c.args.graph.now.arena) c.args.pairs.now c.loop-text.text-index (record { 0 = 0 }, Undefined) c.requires c.loop-text-test.true).0

pub loop-text-preserved : goal.loop-text-preserved
loop-text-preserved c =
    let a = c.args.graph.now.arena in
    let ps = c.args.pairs.now in
    let k = c.loop-text.text-index in
    let x = c.args.name.now in
    let d : TextId × Stored = (record { 0 = 0 }, Undefined) in
    let l = c.loop-text-test.true in
    let one = named_at (IsPairIn a) ps k d c.requires l in
    let same = c.eq.ensures ∙ ap (λ w. bytes_eq w x) c.text.ensures in
    elim c.if-eq.branch [
      | then-eq w ↦ record {
        value = ap (value_content a) w.last-is ∙ found a x ps k d l (sym same ∙ w.if-eq.true);
        names = subst (Names a) (sym w.last-is) one.1;
      }
      | else-eq w ↦ record {
        value = ap (value_content a) w.last-is ∙ c.loop-text.invariant.value ∙ passed a x ps k d l (sym same ∙ w.if-eq.false);
        names = subst (Names a) (sym w.last-is) c.loop-text.invariant.names;
      }
    ]
