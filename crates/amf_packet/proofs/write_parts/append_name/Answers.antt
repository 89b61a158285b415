use Rattle.std.proofs.Common.{ℕ, List, length, ◌<◌, ◌^◌, ◌++◌, ap, ◌∙◌, sym, subst}
use Rattle.amf_wire.specs.Text.{IsText}
use Rattle.amf0_spelling.specs.Segments0.{Short}
use Rattle.amf_packet.specs.WriteParts.{Appends}
use Rattle.amf_packet.proofs.WriteFields.{name_written}
use Rattle.amf_packet.proofs.WriteJoins.{appends_grow}
use Rattle.amf_packet.proofs.write_parts.append_name.Goals as goal

pub returns-clause-written : goal.returns-clause-written
returns-clause-written c =
    let x = c.as_bytes-bytes.result.now in
    let same = c.as_bytes-bytes.ensures in
    subst (λ (y : List ℕ). Appends (Short y) c.args.out.now.items c.extend_from_slice-2.new.self.items) same
    (name_written x c.args.out.now.items c.extend_from_slice.new.self.items c.extend_from_slice-2.new.self.items (subst (λ (y : List ℕ). IsText y) (sym same) c.requires.0.0) (subst (λ (y : List ℕ). length y < 2 ^ 16) (sym same) c.requires.0.1) (c.in_ok-extend_from_slice.ensures.items ∙ ap (λ w. c.args.out.now.items ++ w) c.to_be_bytes.ensures) c.in_ok-extend_from_slice-2.ensures.items)

pub returns-clause-grows : goal.returns-clause-grows
returns-clause-grows c = appends_grow (Short c.args.name.now) c.args.out.now.items c.extend_from_slice-2.new.self.items (returns-clause-written c)
