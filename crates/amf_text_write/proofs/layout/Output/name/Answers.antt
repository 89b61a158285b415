use Rattle.std.proofs.Common.{sym, ap, ◌∙◌, subst, ◌∷◌, []}
use Rattle.std.specs.Str.{IsUtf8}
use Rattle.json.specs.Token.{key}
use Rattle.amf_graph.specs.Arena.{text_at}
use Rattle.amf_iso.proofs.NamedPairs.{text_there}
use Rattle.amf_text_write.specs.Laid.{with_more}
use Rattle.amf_text_write.specs.Ways.{arena_in}
use Rattle.amf_text.proofs.PlainTexts.{plain_is_utf8}
use Rattle.amf_text_write.proofs.Telling.{on_ok}
use Rattle.amf_text_write.proofs.layout.Output.name.Goals as goal

pub unreachable-requires : goal.unreachable-requires
unreachable-requires c =
    let a = arena_in c.args.way.now in
    let i = c.args.name.0 in
    c.in-Err.ensures.cases.0 (subst IsUtf8 (sym c.text.ensures) (plain_is_utf8 (text_at a i) (text_there a i c.is_finished.ensures.finished c.requires.there) c.requires.plain))

pub returns : goal.returns
returns c = on_ok c.key.result (λ e. e ∙ ap (λ x. with_more c.args.self.now (key x ∷ [])) (c.in-Ok.ensures.cases.0 ∙ c.text.ensures)) c.key.ensures
