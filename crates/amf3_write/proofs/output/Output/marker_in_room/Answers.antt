use Rattle.std.proofs.Common.{◌++◌, ◌∷◌, [], refl, ap, ◌∙◌}
use Rattle.amf3_spelling.specs.Markers3.{marker_byte}
use Rattle.amf3_write.proofs.output.Output.marker_in_room.Goals as goal

pub returns-clause-writes : goal.returns-clause-writes
returns-clause-writes c =
    let o = c.args.self.now.bytes.items in
    record {
      bytes = marker_byte c.args.marker ∷ [];
      spelled = (c.args.self.now.tables.words, (refl, refl), refl);
      appended = c.push_reserved.ensures.items ∙ ap (λ b. o ++ b ∷ []) c.byte.ensures;
    }
