use Rattle.std.proofs.Common.{◌%◌, ◌/◌, ◌+◌, ◌∷◌, [], refl}
use Rattle.amf_wire.proofs.Digits.{two_digits}
use Rattle.amf3_write.proofs.Wrote.{one_more}
use Rattle.amf3_write.proofs.output.Output.two_bytes.Goals as goal

pub returns-clause-writes : goal.returns-clause-writes
returns-clause-writes c =
    let n = c.args.number in
    let first = 128 + n / 128 % 128 in
    record {
      bytes = first ∷ (n % 128) ∷ [];
      spelled = (c.args.self.now.tables.words, (two_digits n c.requires.large c.requires.small, refl), refl);
      appended = one_more c.args.self.now.bytes.items c.push_reserved.new.self.items c.push_reserved-2.new.self.items (first ∷ []) (n % 128) c.push_reserved.ensures.items c.push_reserved-2.ensures.items;
    }
