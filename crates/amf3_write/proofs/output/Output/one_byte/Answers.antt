use Rattle.std.proofs.Common.{◌∷◌, [], refl}
use Rattle.amf_wire.specs.Style.{canonical}
use Rattle.amf_wire.proofs.Shortest.{small}
use Rattle.amf3_write.proofs.output.Output.one_byte.Goals as goal

pub returns-clause-writes : goal.returns-clause-writes
returns-clause-writes c = record {
  bytes = c.args.number ∷ [];
  spelled = (c.args.self.now.tables.words, (small canonical c.args.number c.requires.small, refl), refl);
  appended = c.push_reserved.ensures.items;
}
