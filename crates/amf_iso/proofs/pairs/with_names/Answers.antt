use Rattle.std.proofs.Common.{◌≡◌, ◌<◌, ◌∷◌, ◌++◌, [], length, get_or, take, arith, sym, ap, ◌∙◌, subst}
use Rattle.std.proofs.lemmas.List.{map-append}
use Rattle.amf_graph.specs.declared.value.Value.{Value}
use Rattle.amf_graph.specs.declared.value.TextId.{TextId}
use Rattle.amf_graph.specs.declared.value.Value.TheVariants.{Undefined}
use Rattle.amf_wire.specs.Text.{IsText}
use Rattle.amf_graph.specs.Arena.{text_at, value_content}
use Rattle.amf_iso.specs.Contents.{pairs_of, pair_content, named_pairs, AreNamedPairs}
use Rattle.amf_iso.proofs.NamedPairs.{all_push, pair_there, pairs_more, text_there, text_short}
use Rattle.amf_iso.proofs.pairs.with_names.Goals as goal

pub text-requires : goal.text-requires
text-requires c = let within : c.loop-name.name-index < length c.args.pairs.now = omega arith in (pair_there c.args.graph.now.arena c.args.pairs.now c.loop-name.name-index _ c.requires within).0

pub loop-name-preserved : goal.loop-name-preserved
loop-name-preserved c =
    let a = c.args.graph.now.arena in
    let ps = c.args.pairs.now in
    let i = c.loop-name.name-index in
    let d : TextId × Value = (record { 0 = 0 }, Undefined) in
    let within : i < length ps = omega arith in
    let there = pair_there a ps i d c.requires within in
    let named : (text_at a (get_or ps i d).0.0, value_content a (get_or ps i d).1) ≡ (c.text.result.now, value_content a (get_or ps i d).1) = ap (λ x. (x, value_content a (get_or ps i d).1)) (sym c.text.ensures) in
    record {
      content = ap (named_pairs a) c.in_ok-push.ensures.items ∙ map-append (pair_content a) c.loop-name.named.items _ ∙ ap (λ w. w ++ (c.text.result.now, value_content a (get_or ps i d).1) ∷ []) c.loop-name.invariant.content
          ∙ ap (λ x. pairs_of a (take i ps) ++ x ∷ []) (sym named) ∙ sym (pairs_more a ps i d within);
      names = subst (λ w. AreNamedPairs a w) (sym c.in_ok-push.ensures.items) (all_push _ c.loop-name.named.items _ c.loop-name.invariant.names (
        subst (λ x. IsText x) (sym c.text.ensures) (text_there a (get_or ps i d).0.0 c.is_finished.ensures.finished there.0),
        subst (λ x. length x < 268435456) (sym c.text.ensures) (text_short a (get_or ps i d).0.0 c.is_finished.ensures.bounds there.0),
        there.1,
      ));
    }
