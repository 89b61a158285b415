use Rattle.std.proofs.Common.{sym, ◌∙◌, subst, arith}
use Rattle.amf3_spelling.specs.declared.marker.Marker.TheVariants as marker
use Rattle.amf3_read.specs.Plain.{IsIntegerAt, IsDoubleAt, IsTextAt}
use Rattle.amf3_read.proofs.PlainReads.{if_some, all_behind}
use Rattle.amf3_read.proofs.plain.plain_at.Goals as goal

pub returns-in-Undefined-clause-some : goal.returns-in-Undefined-clause-some
returns-in-Undefined-clause-some c =
    let e = c.in_ok-from_byte.ensures.known in
    if_some c.told.result (λ x h. record { marker = marker.Undefined; known = e.0; marks = sym c.in-Undefined.is ∙ e.1; behind = (h.1, h.0) }) c.told.ensures

pub returns-in-Undefined-clause-few : goal.returns-in-Undefined-clause-few
returns-in-Undefined-clause-few c = if_some c.told.result (λ x h. let u = h.1 in omega arith) c.told.ensures

pub returns-in-Null-clause-some : goal.returns-in-Null-clause-some
returns-in-Null-clause-some c =
    let e = c.in_ok-from_byte.ensures.known in
    if_some c.told-in-Null.result (λ x h. record { marker = marker.Null; known = e.0; marks = sym c.in-Null.is ∙ e.1; behind = (h.1, h.0) }) c.told-in-Null.ensures

pub returns-in-Null-clause-few : goal.returns-in-Null-clause-few
returns-in-Null-clause-few c = if_some c.told-in-Null.result (λ x h. let u = h.1 in omega arith) c.told-in-Null.ensures

pub returns-in-False-clause-some : goal.returns-in-False-clause-some
returns-in-False-clause-some c =
    let e = c.in_ok-from_byte.ensures.known in
    if_some c.told-in-False.result (λ x h. record { marker = marker.False; known = e.0; marks = sym c.in-False.is ∙ e.1; behind = (h.1, h.0) }) c.told-in-False.ensures

pub returns-in-False-clause-few : goal.returns-in-False-clause-few
returns-in-False-clause-few c = if_some c.told-in-False.result (λ x h. let u = h.1 in omega arith) c.told-in-False.ensures

pub returns-in-True-clause-some : goal.returns-in-True-clause-some
returns-in-True-clause-some c =
    let e = c.in_ok-from_byte.ensures.known in
    if_some c.told-in-True.result (λ x h. record { marker = marker.True; known = e.0; marks = sym c.in-True.is ∙ e.1; behind = (h.1, h.0) }) c.told-in-True.ensures

pub returns-in-True-clause-few : goal.returns-in-True-clause-few
returns-in-True-clause-few c = if_some c.told-in-True.result (λ x h. let u = h.1 in omega arith) c.told-in-True.ensures

pub returns-in-Integer-clause-some : goal.returns-in-Integer-clause-some
returns-in-Integer-clause-some c =
    let e = c.in_ok-from_byte.ensures.known in
    if_some c.integer_at.result (λ x h. record { marker = marker.Integer; known = e.0; marks = sym c.in-Integer.is ∙ e.1; behind = subst (λ w. IsIntegerAt w x.value x.used) (all_behind c.args.bytes.now (omega arith)) h }) c.integer_at.ensures.some

pub returns-in-Integer-clause-few : goal.returns-in-Integer-clause-few
returns-in-Integer-clause-few c = if_some c.integer_at.result (λ x h. omega arith) c.integer_at.ensures.few

pub returns-in-Double-clause-some : goal.returns-in-Double-clause-some
returns-in-Double-clause-some c =
    let e = c.in_ok-from_byte.ensures.known in
    if_some c.double_at.result (λ x h. record { marker = marker.Double; known = e.0; marks = sym c.in-Double.is ∙ e.1; behind = subst (λ w. IsDoubleAt w x.value x.used) (all_behind c.args.bytes.now (omega arith)) h }) c.double_at.ensures

pub returns-in-Double-clause-few : goal.returns-in-Double-clause-few
returns-in-Double-clause-few c = if_some c.double_at.result (λ x h. let u = h.eight in omega arith) c.double_at.ensures

pub returns-in-Text-clause-some : goal.returns-in-Text-clause-some
returns-in-Text-clause-some c =
    let e = c.in_ok-from_byte.ensures.known in
    if_some c.text_at.result (λ x h. record { marker = marker.Text; known = e.0; marks = sym c.in-Text.is ∙ e.1; behind = subst (λ w. IsTextAt c.args.tables.now w x.value x.used) (all_behind c.args.bytes.now (omega arith)) h }) c.text_at.ensures.some

pub returns-in-Text-clause-few : goal.returns-in-Text-clause-few
returns-in-Text-clause-few c = if_some c.text_at.result (λ x h. omega arith) c.text_at.ensures.few
