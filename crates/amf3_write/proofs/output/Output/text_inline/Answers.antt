use Rattle.std.proofs.Common.{refl, ap, ◌∙◌}
use Rattle.amf3_spelling.specs.Tables.{Tables, with_words, add_text}
use Rattle.amf3_write.proofs.Ready.{ready_with_text}
use Rattle.amf3_write.proofs.Wrote.{wrote_text}
use Rattle.amf3_write.proofs.output.Output.text_inline.Goals as goal

pub returns-clause-ok : goal.returns-clause-ok
returns-clause-ok c =
    wrote_text c.args.text.now c.args.self.now c.number.new.self c.raw.new.self _ _ c.requires.is_text c.requires.not_empty c.requires.unnamed refl
    c.in_ok-number.ensures.ok c.in_ok-raw.ensures.ok c.in_ok-add_text.ensures.ok refl

pub returns-clause-ready : goal.returns-clause-ready
returns-clause-ready c = λ a r.
    let same = c.raw.ensures.tables ∙ c.number.ensures.tables in
    ready_with_text a c.args.self.now.tables c.add_text.new.self c.args.self.now.known c.raw.new.self.known c.args.text.now r
    (c.in_ok-add_text.ensures.ok ∙ ap (λ (t : Tables). with_words t (add_text t.words c.args.text.now)) same) (c.raw.ensures.known ∙ c.number.ensures.known)
