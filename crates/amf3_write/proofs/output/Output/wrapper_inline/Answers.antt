use Rattle.std.proofs.Common.{ℕ, ◌<◌, List, [], length, refl, sym, subst}
use Rattle.amf_wire.specs.Text.{IsText}
use Rattle.amf_graph.specs.Graph.{class_name}
use Rattle.amf3_spelling.specs.Tables.{external}
use Rattle.amf3_spelling.specs.ByteSpelling.{word}
use Rattle.amf3_spelling.proofs.Steps3.{class_text, class_short}
use Rattle.amf3_write.specs.Writes.{WritesStep}
use Rattle.amf3_write.proofs.Ready.{ready_same, ready_with_entry}
use Rattle.amf3_write.proofs.Wrote.{wrote_entry, wrote_no_text, wrote_first_text}
use Rattle.amf3_write.proofs.output.Output.wrapper_inline.Goals as goal

pub text-requires : goal.text-requires
text-requires c = record {
  is_text = subst (λ x. IsText x) (sym c.class_name.ensures) (class_text c.args.class);
  short = subst (λ (x : List ℕ). length x < 268435456) (sym c.class_name.ensures) (class_short c.args.class);
}

pub returns-clause-ok : goal.returns-clause-ok
returns-clause-ok c =
    let named = subst (λ x. WritesStep (word x) c.number.new.self c.text.new.self) c.class_name.ensures c.in_ok-text.ensures.ok in
    wrote_entry (external c.args.class) c.args.self.now c.number.new.self c.text.new.self _ _ c.requires (0, refl, refl) c.in_ok-number.ensures.ok
    (wrote_first_text (class_name c.args.class) [] c.number.new.self c.text.new.self c.text.new.self named (wrote_no_text c.text.new.self))
    c.in_ok-add_wrapped.ensures.ok refl

pub returns-in_err-text-clause-ready : goal.returns-in_err-text-clause-ready
returns-in_err-text-clause-ready c = λ a r. c.text.ensures.ready a (ready_same a c.args.self.now.tables c.number.new.self.tables c.args.self.now.known c.number.new.self.known r c.number.ensures.tables c.number.ensures.known)

pub returns-in_err-add_wrapped-clause-ready : goal.returns-in_err-add_wrapped-clause-ready
returns-in_err-add_wrapped-clause-ready c = λ a r.
    let begun = ready_same a c.args.self.now.tables c.number.new.self.tables c.args.self.now.known c.number.new.self.known r c.number.ensures.tables c.number.ensures.known in
    ready_same a c.text.new.self.tables c.add_wrapped.new.self c.text.new.self.known c.text.new.self.known (c.text.ensures.ready a begun) c.in_err-add_wrapped.ensures.err refl

pub returns-clause-ready : goal.returns-clause-ready
returns-clause-ready c = λ a r.
    let begun = ready_same a c.args.self.now.tables c.number.new.self.tables c.args.self.now.known c.number.new.self.known r c.number.ensures.tables c.number.ensures.known in
    ready_with_entry a c.text.new.self.tables c.add_wrapped.new.self c.text.new.self.known c.text.new.self.known _ (c.text.ensures.ready a begun) c.in_ok-add_wrapped.ensures.ok refl
