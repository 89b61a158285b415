use Rattle.std.proofs.Common.{◌≢◌, [], sym, ◌∙◌}
use Rattle.amf_graph.specs.Arena.{text_at}
use Rattle.amf_tables.proofs.TextCodes.{no_bytes, some_bytes, empty_coded, place_coded, absent_uncoded, last_uncoded}
use Rattle.amf_tables.proofs.text_codes.code_of.Goals as goal

pub returns-then-is_empty : goal.returns-then-is_empty
returns-then-is_empty c = empty_coded c.args.texts.now (text_at c.args.graph.now.arena c.args.text.0) (sym c.text.ensures ∙ no_bytes c.text.result.now (sym c.is_empty.ensures ∙ c.if-is_empty.true))

pub returns-in_err-place : goal.returns-in_err-place
returns-in_err-place c =
    let x = text_at c.args.graph.now.arena c.args.text.0 in
    let other : x ≢ [] = λ e. some_bytes c.text.result.now (sym c.is_empty.ensures ∙ c.if-is_empty.false) (c.text.ensures ∙ e) in
    rw (c.from_residual.ensures) (absent_uncoded c.args.texts.now x other c.in_err-place.ensures.none)

pub returns-then-place : goal.returns-then-place
returns-then-place c =
    let x = text_at c.args.graph.now.arena c.args.text.0 in
    let other : x ≢ [] = λ e. some_bytes c.text.result.now (sym c.is_empty.ensures ∙ c.if-is_empty.false) (c.text.ensures ∙ e) in
    last_uncoded c.args.texts.now x c.in_ok-place.place other c.if-place.true c.in_ok-place.ensures.first

pub returns-else-place : goal.returns-else-place
returns-else-place c =
    let x = text_at c.args.graph.now.arena c.args.text.0 in
    let other : x ≢ [] = λ e. some_bytes c.text.result.now (sym c.is_empty.ensures ∙ c.if-is_empty.false) (c.text.ensures ∙ e) in
    place_coded c.args.texts.now x c.in_ok-place.place other c.if-place.false c.in_ok-place.ensures.first
