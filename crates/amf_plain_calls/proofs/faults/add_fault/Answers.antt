-- The texts of a fault, and the object that names them.
use Rattle.std.proofs.Common.{◌∙◌, refl, sym, ap, subst, codes}
use Rattle.amf_wire.specs.Text.{IsText}
use Rattle.amf_graph.specs.Building.{kept_text}
use Rattle.amf_graph.specs.Grafting.{node_value}
use Rattle.amf_plain_calls.proofs.Faulty.{a_text, object_first, fault_made}
use Rattle.amf_plain_calls.proofs.faults.add_fault.Goals as goal

pub text-requires-2 : goal.text-requires-2
text-requires-2 c = a_text (codes "code") refl

pub text-requires-3 : goal.text-requires-3
text-requires-3 c = subst IsText (sym c.as_bytes.ensures) c.requires.code.text

pub text-requires-4 : goal.text-requires-4
text-requires-4 c = a_text (codes "description") refl

pub text-requires-5 : goal.text-requires-5
text-requires-5 c = subst IsText (sym c.as_bytes-2.ensures) c.requires.text.text

pub text-requires-6 : goal.text-requires-6
text-requires-6 c = a_text (codes "level") refl

pub text-requires-7 : goal.text-requires-7
text-requires-7 c = a_text (codes "error") refl

pub returns-clause-made : goal.returns-clause-made
returns-clause-made c = λ e0.
    let b0 = c.args.builder.now in
    let b8 = c.traits.new.self in (
      fault_made c.args.fault.now b0 c.text.new.self c.text-2.new.self c.text-3.new.self c.text-4.new.self c.text-5.new.self c.text-6.new.self c.text-7.new.self b8 c.add_members.new.builder
          c.in_ok-class.class c.in_ok-code.code c.in_ok-code_text.code_text c.in_ok-description.description c.in_ok-description_text.description_text c.in_ok-level.level c.in_ok-level_text.level_text c.in_ok-traits.traits.0
          e0 c.in_ok-class.ensures.ok c.in_ok-code.ensures.ok (c.in_ok-code_text.ensures.ok ∙ ap (kept_text c.text-2.new.self) c.as_bytes.ensures) c.in_ok-description.ensures.ok (c.in_ok-description_text.ensures.ok ∙ ap (kept_text c.text-4.new.self) c.as_bytes-2.ensures)
          c.in_ok-level.ensures.ok c.in_ok-level_text.ensures.ok c.in_ok-traits.ensures.ok
          c.in_ok-class.ensures.id c.in_ok-code.ensures.id c.in_ok-code_text.ensures.id c.in_ok-description.ensures.id c.in_ok-description_text.ensures.id c.in_ok-level.ensures.id c.in_ok-level_text.ensures.id c.in_ok-traits.ensures.id
          c.in_ok-node.ensures.ok,
      ap node_value (object_first c.args.fault.now b0 c.text.new.self c.text-2.new.self c.text-3.new.self c.text-4.new.self c.text-5.new.self c.text-6.new.self c.text-7.new.self b8 c.add_members.new.builder
          c.in_ok-class.class c.in_ok-code.code c.in_ok-code_text.code_text c.in_ok-description.description c.in_ok-description_text.description_text c.in_ok-level.level c.in_ok-level_text.level_text c.in_ok-traits.traits.0
          e0 c.in_ok-class.ensures.ok c.in_ok-code.ensures.ok (c.in_ok-code_text.ensures.ok ∙ ap (kept_text c.text-2.new.self) c.as_bytes.ensures) c.in_ok-description.ensures.ok (c.in_ok-description_text.ensures.ok ∙ ap (kept_text c.text-4.new.self) c.as_bytes-2.ensures)
          c.in_ok-level.ensures.ok c.in_ok-level_text.ensures.ok c.in_ok-traits.ensures.ok
          c.in_ok-class.ensures.id c.in_ok-code.ensures.id c.in_ok-code_text.ensures.id c.in_ok-description.ensures.id c.in_ok-description_text.ensures.id c.in_ok-level.ensures.id c.in_ok-level_text.ensures.id c.in_ok-traits.ensures.id
          c.in_ok-node.node.0 c.in_ok-node.ensures.id),
    )
