use Rattle.std.proofs.Common.{◌++◌, ◌∷◌, [], refl, ap, ◌∙◌}
use Rattle.amf3_spelling.specs.Markers3.{marker_byte}
use Rattle.amf3_write.proofs.output.Output.marker.Goals as goal

pub returns-clause-ok : goal.returns-clause-ok
returns-clause-ok c =
    let o = c.args.self.now.bytes.items in
    record {
      bytes = marker_byte c.args.marker ∷ [];
      spelled = (c.args.self.now.tables.words, (refl, refl), refl);
      appended = c.push_reserved.ensures.items ∙ ap (λ w. w ++ c.byte.result ∷ []) c.in_ok-make_room.ensures.same ∙ ap (λ b. o ++ b ∷ []) c.byte.ensures;
    }
