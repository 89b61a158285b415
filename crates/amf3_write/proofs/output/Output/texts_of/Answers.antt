use Rattle.std.proofs.Common.{◌<◌, length, get_or, sym, subst, arith, take}
use Rattle.amf_graph.specs.Arena.{text_at}
use Rattle.amf3_write.specs.Writes.{WritesTexts}
use Rattle.amf_tables.specs.ShownTraits.{texts_at}
use Rattle.amf_tables.proofs.ShownTexts.{id_within, texts_more}
use Rattle.amf3_write.proofs.Wrote.{wrote_more_text}
use Rattle.amf3_write.proofs.output.Output.texts_of.Goals as goal

pub text_of-requires-clause-id : goal.text_of-requires-clause-id
text_of-requires-clause-id c = id_within c.args.graph.now.arena c.args.texts.now c.loop-text.text-index _ c.requires.texts (omega arith)

pub loop-text-preserved : goal.loop-text-preserved
loop-text-preserved c =
    let a = c.args.graph.now.arena in
    let i = c.loop-text.text-index in
    let within : i < length c.args.texts.now = omega arith in
    record {
      written = subst (λ xs. WritesTexts xs c.args.self.now c.text_of.new.self) (sym (texts_more a c.args.texts.now i (record { 0 = 0 }) within))
          (wrote_more_text (texts_at a (take i c.args.texts.now)) (text_at a (get_or c.args.texts.now i (record { 0 = 0 })).0) c.args.self.now c.loop-text.self c.text_of.new.self c.loop-text.invariant.written c.in_ok-text_of.ensures.ok);
      keeps = λ front h. c.in_ok-text_of.ensures.keeps front (c.loop-text.invariant.keeps front h);
      ready = c.in_ok-text_of.ensures.ready;
    }
