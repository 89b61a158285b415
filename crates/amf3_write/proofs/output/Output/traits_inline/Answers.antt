use Rattle.std.proofs.Common.{◌≡◌, ◌+◌, ◌*◌, cond, ap, refl, sym, ◌∙◌}
use Rattle.amf_graph.specs.Arena.{text_at}
use Rattle.amf_tables.specs.ShownTraits.{shown_entry, texts_at}
use Rattle.amf3_write.proofs.Ready.{ready_with_entry}
use Rattle.amf3_write.proofs.Wrote.{wrote_entry, wrote_first_text, flags_are}
use Rattle.amf3_write.proofs.output.Output.traits_inline.Goals as goal
use Rattle.amf3_write.proofs.output.Output.traits_inline.Goals.{then-traits, else-traits}

pub add_traits-requires-clause-known : goal.add_traits-requires-clause-known
add_traits-requires-clause-known c = c.in_ok-texts_of.ensures.ready.known

pub returns-clause-ok : goal.returns-clause-ok
returns-clause-ok c =
    let a = c.args.graph.now.arena in
    let t = c.args.traits.now in
    let flags : c.if-traits.flags ≡ 8 * cond t.dynamic 1 0 + 3 = elim c.if-traits.branch [
      | then-traits w ↦ w.flags-is ∙ ap (λ f. 8 * cond f 1 0 + 3) (sym w.if-traits.true)
      | else-traits w ↦ w.flags-is ∙ ap (λ f. 8 * cond f 1 0 + 3) (sym w.if-traits.false)
    ] in
    wrote_entry (shown_entry a t) c.args.self.now c.number.new.self c.texts_of.new.self _ _ c.requires.unnamed (flags_are a t.sealed.now _ _ flags) c.in_ok-number.ensures.ok
    (wrote_first_text (text_at a t.class.0) (texts_at a t.sealed.now) c.number.new.self c.text_of.new.self c.texts_of.new.self c.in_ok-text_of.ensures.ok c.in_ok-texts_of.ensures.ok)
    c.in_ok-add_traits.ensures.ok refl

pub returns-clause-ready : goal.returns-clause-ready
returns-clause-ready c = ready_with_entry c.args.graph.now.arena c.texts_of.new.self.tables c.add_traits.new.tables c.texts_of.new.self.known c.texts_of.new.self.known _ c.in_ok-texts_of.ensures.ready c.in_ok-add_traits.ensures.ok refl
