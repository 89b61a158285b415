use Rattle.std.proofs.Common.{◌≡◌, ◌<◌, ℕ, List, length, arith, sym, ap, ◌∙◌, subst}
use Rattle.amf_wire.specs.Text.{IsText}
use Rattle.amf_graph.specs.Arena.{text_at}
use Rattle.amf3_spelling.specs.ByteSpelling.{word}
use Rattle.amf_iso.proofs.NamedPairs.{text_there, text_short}
use Rattle.amf3_write.specs.Writes.{WritesStep}
use Rattle.amf3_write.proofs.Whole.{taken_back, own_front, on_ok_then, on_err_then}
use Rattle.amf3_write.proofs.PartWritten.{text_written}
use Rattle.amf3_write.proofs.part.write_text.Goals as goal

pub returns-clause-written : goal.returns-clause-written
returns-clause-written c =
    on_ok_then _ _ c.text-result.result (λ ok h.
    text_written (text_at c.args.graph.now.arena c.args.text.0) c.in_ok-output.output c.text-result.new.self c.args.tables.now.tables c.put_back.new.tables.tables c.args.out.now.items c.put_back.new.bytes.items
    c.in_ok-output.ensures.tables (ap (λ v. v.items) c.in_ok-output.ensures.bytes) c.put_back.ensures.tables (ap (λ v. v.items) (c.put_back.ensures.whole (c.is_err.ensures.value ∙ ok))) (subst (λ y. WritesStep (word y) c.in_ok-output.output c.text-result.new.self) c.text.ensures h)) c.text-result.ensures.ok

pub returns-clause-untouched : goal.returns-clause-untouched
returns-clause-untouched c =
    let old = c.args.out.now.items in
    let len : c.len-start.result ≡ length old = omega (arith, c.len-start.ensures, c.args.out.now.ok.0) in
    let front = c.text-result.ensures.keeps _ (own_front c.in_ok-output.output c.args.tables.now.tables old c.in_ok-output.ensures.tables (ap (λ v. v.items) c.in_ok-output.ensures.bytes)) in
    on_err_then _ c.text-result.result (λ ended. c.put_back.ensures.cut (c.is_err.ensures.value ∙ ended) ∙ taken_back old c.text-result.new.self.bytes.items c.len-start.result len front.bytes)

pub text-result-requires-clause-is_text : goal.text-result-requires-clause-is_text
text-result-requires-clause-is_text c = subst IsText (sym c.text.ensures) (text_there c.args.graph.now.arena c.args.text.0 c.is_finished.ensures.finished c.requires)

pub text-result-requires-clause-short : goal.text-result-requires-clause-short
text-result-requires-clause-short c = subst (λ (x : List ℕ). length x < 268435456) (sym c.text.ensures) (text_short c.args.graph.now.arena c.args.text.0 c.is_finished.ensures.bounds c.requires)
