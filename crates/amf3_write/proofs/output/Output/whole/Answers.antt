use Rattle.std.proofs.Common.{[], ◌∷◌, true, false, sym, subst, w32}
use Rattle.std.proofs.lemmas.Int.{to_z-of_z}
use Rattle.amf_wire.specs.Integer.{IsInteger, integer_bits}
use Rattle.amf_graph.specs.Arena.{Names, text_at, value_content}
use Rattle.amf_graph.specs.Graph.{leaf, undefined, null, boolean, integer, double, text}
use Rattle.amf_graph.specs.Rooted.{content}
use Rattle.amf3_spelling.specs.ByteSpelling.{step, value, byte, number, word}
use Rattle.amf3_write.specs.Writes.{Leads, WritesSteps}
use Rattle.amf3_write.proofs.Leading.{leads_leaf}
use Rattle.amf3_write.proofs.WroteSegments.{wrote_one, wrote_two, fits_wide}
use Rattle.amf3_write.proofs.output.Output.whole.Goals as goal

pub returns-in_ok-integer-in-Integer-clause-leads : goal.returns-in_ok-integer-in-Integer-clause-leads
returns-in_ok-integer-in-Integer-clause-leads c = λ ps.
    let g = content c.args.graph.now in
    let a = c.args.graph.now.arena in
    let n = c.in-Integer.integer in
    let own : IsInteger n = subst (λ v. Names a v) c.in-Integer.is c.requires.value in
    subst (λ v. Leads g (value (value_content a v) ∷ ps) ps c.args.self.now c.integer.new.self) (sym c.in-Integer.is)
    (leads_leaf g (integer n) ps c.args.self.now c.integer.new.self own
    (subst (λ k. WritesSteps (step (byte 4) ∷ step (number (integer_bits k)) ∷ []) c.args.self.now c.integer.new.self) (to_z-of_z w32 n (fits_wide n own)) c.in_ok-integer-in-Integer.ensures.ok))

pub returns-in_ok-double-in-Double-clause-leads : goal.returns-in_ok-double-in-Double-clause-leads
returns-in_ok-double-in-Double-clause-leads c = λ ps.
    let g = content c.args.graph.now in
    let a = c.args.graph.now.arena in
    subst (λ v. Leads g (value (value_content a v) ∷ ps) ps c.args.self.now c.double.new.self) (sym c.in-Double.is)
    (leads_leaf g (double c.in-Double.double.0) ps c.args.self.now c.double.new.self (subst (λ v. Names a v) c.in-Double.is c.requires.value) c.in_ok-double-in-Double.ensures.ok)

pub returns-in_ok-text_of-in-Text-clause-leads : goal.returns-in_ok-text_of-in-Text-clause-leads
returns-in_ok-text_of-in-Text-clause-leads c = λ ps.
    let g = content c.args.graph.now in
    let a = c.args.graph.now.arena in
    let x = text_at a c.in-Text.text.0 in
    subst (λ v. Leads g (value (value_content a v) ∷ ps) ps c.args.self.now c.text_of.new.self) (sym c.in-Text.is)
    (leads_leaf g (text x) ps c.args.self.now c.text_of.new.self c.in_ok-text_of-in-Text.ensures.text (wrote_two (byte 6) (word x) c.args.self.now c.marker-in-Text.new.self c.text_of.new.self c.in_ok-marker-in-Text.ensures.ok c.in_ok-text_of-in-Text.ensures.ok))

pub returns-in_ok-marker-in-Undefined-clause-leads : goal.returns-in_ok-marker-in-Undefined-clause-leads
returns-in_ok-marker-in-Undefined-clause-leads c = λ ps.
    let g = content c.args.graph.now in
    let a = c.args.graph.now.arena in
    let o = c.args.self.now in
    let m = c.marker.new.self in
    subst (λ v. Leads g (value (value_content a v) ∷ ps) ps o m) (sym c.in-Undefined.is) (leads_leaf g undefined ps o m tt (wrote_one (λ _ _ _ _. ⊥) (byte 0) o m c.in_ok-marker-in-Undefined.ensures.ok))

pub returns-in_ok-marker-in-Null-clause-leads : goal.returns-in_ok-marker-in-Null-clause-leads
returns-in_ok-marker-in-Null-clause-leads c = λ ps.
    let g = content c.args.graph.now in
    let a = c.args.graph.now.arena in
    let o = c.args.self.now in
    let m = c.marker-in-Null.new.self in
    subst (λ v. Leads g (value (value_content a v) ∷ ps) ps o m) (sym c.in-Null.is) (leads_leaf g null ps o m tt (wrote_one (λ _ _ _ _. ⊥) (byte 1) o m c.in_ok-marker-in-Null.ensures.ok))

pub returns-in_ok-marker-in-Bool-false-clause-leads : goal.returns-in_ok-marker-in-Bool-false-clause-leads
returns-in_ok-marker-in-Bool-false-clause-leads c = λ ps.
    let g = content c.args.graph.now in
    let a = c.args.graph.now.arena in
    let o = c.args.self.now in
    let m = c.marker-in-Bool-false.new.self in
    subst (λ v. Leads g (value (value_content a v) ∷ ps) ps o m) (sym c.in-Bool-false.is)
    (subst (λ w. Leads g (value (leaf (boolean w)) ∷ ps) ps o m) (sym c.in-Bool-false.field-0-test)
    (leads_leaf g (boolean false) ps o m tt (wrote_one (λ _ _ _ _. ⊥) (byte 2) o m c.in_ok-marker-in-Bool-false.ensures.ok)))

pub returns-in_ok-marker-in-Bool-true-clause-leads : goal.returns-in_ok-marker-in-Bool-true-clause-leads
returns-in_ok-marker-in-Bool-true-clause-leads c = λ ps.
    let g = content c.args.graph.now in
    let a = c.args.graph.now.arena in
    let o = c.args.self.now in
    let m = c.marker-in-Bool-true.new.self in
    subst (λ v. Leads g (value (value_content a v) ∷ ps) ps o m) (sym c.in-Bool-true.is)
    (subst (λ w. Leads g (value (leaf (boolean w)) ∷ ps) ps o m) (sym c.in-Bool-true.field-0-test)
    (leads_leaf g (boolean true) ps o m tt (wrote_one (λ _ _ _ _. ⊥) (byte 3) o m c.in_ok-marker-in-Bool-true.ensures.ok)))
