use Rattle.std.proofs.Common.{◌%◌, ◌/◌, ◌+◌, ◌∷◌, [], refl}
use Rattle.amf_wire.proofs.Digits.{three_digits}
use Rattle.amf3_write.proofs.Wrote.{one_more}
use Rattle.amf3_write.proofs.output.Output.three_bytes.Goals as goal

pub returns-clause-writes : goal.returns-clause-writes
returns-clause-writes c =
    let n = c.args.number in
    let o = c.args.self.now.bytes.items in
    let x = 128 + n / 16384 % 128 in let y = 128 + n / 128 % 128 in
    record {
      bytes = x ∷ y ∷ (n % 128) ∷ [];
      spelled = (c.args.self.now.tables.words, (three_digits n c.requires.large c.requires.small, refl), refl);
      appended = one_more o c.push_reserved-2.new.self.items c.push_reserved-3.new.self.items (x ∷ y ∷ []) (n % 128)
          (one_more o c.push_reserved.new.self.items c.push_reserved-2.new.self.items (x ∷ []) y c.push_reserved.ensures.items c.push_reserved-2.ensures.items)
          c.push_reserved-3.ensures.items;
    }
