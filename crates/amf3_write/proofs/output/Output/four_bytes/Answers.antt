use Rattle.std.proofs.Common.{◌%◌, ◌/◌, ◌+◌, ◌∷◌, [], refl}
use Rattle.amf_wire.proofs.Digits.{four_digits}
use Rattle.amf3_write.proofs.Wrote.{one_more}
use Rattle.amf3_write.proofs.output.Output.four_bytes.Goals as goal

pub returns-clause-writes : goal.returns-clause-writes
returns-clause-writes c =
    let n = c.args.number in
    let o = c.args.self.now.bytes.items in
    let x = 128 + n / 4194304 % 128 in let y = 128 + n / 32768 % 128 in let z = 128 + n / 256 % 128 in
    record {
      bytes = x ∷ y ∷ z ∷ (n % 256) ∷ [];
      spelled = (c.args.self.now.tables.words, (four_digits n c.requires.large c.requires.small, refl), refl);
      appended = one_more o c.push_reserved-3.new.self.items c.push_reserved-4.new.self.items (x ∷ y ∷ z ∷ []) (n % 256)
          (one_more o c.push_reserved-2.new.self.items c.push_reserved-3.new.self.items (x ∷ y ∷ []) z
          (one_more o c.push_reserved.new.self.items c.push_reserved-2.new.self.items (x ∷ []) y c.push_reserved.ensures.items c.push_reserved-2.ensures.items)
          c.push_reserved-3.ensures.items)
          c.push_reserved-4.ensures.items;
    }
