use Rattle.std.proofs.Common.{◌≡◌, true, false, sym, ap, ◌∙◌}
use Rattle.std.specs.Prelude.{bytes_eq}
use Rattle.std.proofs.lemmas.Slice.Eq.{bytes_eq-Decides}
use Rattle.amf_wire_fields.proofs.LayoutBinds.{passed_on}
use Rattle.amf_sol.proofs.ExactReads.{exact_came, exact_refused, exact_ended}
use Rattle.amf_sol.proofs.head.read_exactly.Goals as goal

pub returns-in_err-found-clause-answers : goal.returns-in_err-found-clause-answers
returns-in_err-found-clause-answers g c =
    let S = g.S.Source in
    let end = c.in_err-found.field-0.0 in
    passed_on S.tells S.left S.faults _ _ c.args.cursor.now c.read_contents.new.cursor c.from_residual.result end c.from_residual.ensures.1
    (exact_ended S.tells S.left S.faults c.args.reason c.args.bytes.now c.requires.some c.args.cursor.now c.read_contents.new.cursor end c.in_err-found.ensures.answers)

pub returns-then-eq-clause-answers : goal.returns-then-eq-clause-answers
returns-then-eq-clause-answers g c =
    let S = g.S.Source in
    let h = c.in_ok-found.ensures in
    let x = c.in_ok-found.found.items in
    let bytes = c.args.bytes.now in
    let same : bytes_eq x bytes ≡ true = ap (λ w. bytes_eq w bytes) (sym c.as_slice.ensures.value) ∙ sym c.eq.ensures ∙ c.if-eq.true in
    exact_came S.tells S.left S.faults c.args.reason bytes c.requires.some c.args.cursor.now c.read_contents.new.cursor x
    (let y = h.goes in record { told = y.told; same_source = y.same_source; same_bound = y.same_bound; one_past = y.one_past; cause = y.cause; none_ahead = y.none_ahead; total = y.total }) h.placed ((bytes_eq-Decides x bytes).0 same) h.answers

pub returns-clause-answers : goal.returns-clause-answers
returns-clause-answers g c =
    let S = g.S.Source in
    let h = c.in_ok-found.ensures in
    let x = c.in_ok-found.found.items in
    let bytes = c.args.bytes.now in
    let other : bytes_eq x bytes ≡ false = ap (λ w. bytes_eq w bytes) (sym c.as_slice.ensures.value) ∙ sym c.eq.ensures ∙ c.if-eq.false in
    exact_refused S.tells S.left S.faults c.args.reason bytes c.requires.some c.args.cursor.now c.read_contents.new.cursor x c.at-start.result c.refused.result
    (λ e. let clash : true ≡ false = sym ((bytes_eq-Decides x bytes).1 e) ∙ other in cc) h.answers c.at-start.ensures.place c.refused.ensures
