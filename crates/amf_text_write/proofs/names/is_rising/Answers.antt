use Rattle.std.proofs.Common.{◌≡◌, ◌+◌, ◌-◌, ◌<◌, ◌≤◌, length, drop, arith, sym, ◌∙◌, ap, subst}
use Rattle.std.proofs.lemmas.List.{length-drop}
use Rattle.std.specs.Ordering.{is_lt}
use Rattle.amf_graph.specs.declared.value.Value.{Value}
use Rattle.amf_graph.specs.declared.value.TextId.{TextId}
use Rattle.amf_graph.specs.declared.value.Value.TheVariants.{Undefined}
use Rattle.amf_text_write.proofs.NameTests.{rising_names, rising_next, rising_not, rising_end}
use Rattle.amf_text_write.proofs.names.is_rising.Goals as goal

pub returns-then-not-is_lt : goal.returns-then-not-is_lt
returns-then-not-is_lt c =
    let i = c.loop-index.index in
    let d : TextId × Value = (record { 0 = 0 }, Undefined) in
    let within : i < length c.args.pairs.now = omega arith in
    rising_not c.args.graph.now.arena c.args.pairs.now (i - 1) i d (omega (arith, c.loop-index.invariant.some)) within (sym (c.is_lt.ensures ∙ ap is_lt c.compare_texts.ensures) ∙ c.if-not-is_lt.true) c.loop-index.invariant.rising

pub loop-index-preserved : goal.loop-index-preserved
loop-index-preserved c =
    let i = c.loop-index.index in
    let d : TextId × Value = (record { 0 = 0 }, Undefined) in
    let within : i < length c.args.pairs.now = omega arith in
    let back : i + 1 - 1 ≡ i = omega arith in
    record {
      some = omega arith;
      rising = subst (λ k. rising_names c.args.graph.now.arena (drop k c.args.pairs.now) ≡ rising_names c.args.graph.now.arena c.args.pairs.now) (sym back)
          (rising_next c.args.graph.now.arena c.args.pairs.now (i - 1) i d (omega (arith, c.loop-index.invariant.some)) within (sym (c.is_lt.ensures ∙ ap is_lt c.compare_texts.ensures) ∙ c.if-not-is_lt.false) c.loop-index.invariant.rising);
    }

pub returns : goal.returns
returns c =
    let i = c.loop-index.index in
    let past : length c.args.pairs.now ≤ i = omega arith in
    let few : length (drop (i - 1) c.args.pairs.now) ≤ 1 = omega (arith, length-drop (i - 1) c.args.pairs.now) in
    rising_end c.args.graph.now.arena c.args.pairs.now (i - 1) few c.loop-index.invariant.rising
