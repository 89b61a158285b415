use Rattle.std.proofs.Common.{◌≤◌, ◌||◌, true, false, length, sym, ap, ◌∙◌, arith}
use Rattle.std.proofs.lemmas.Bool.{false≢true}
use Rattle.json.specs.Lex.{between}
use Rattle.amf_text.specs.Scan.{comma_last, scan}
use Rattle.amf_text.specs.Refused.{tokens_of}
use Rattle.amf_text_read.specs.Places.{is_cut_text}
use Rattle.amf_text_read.specs.Scanned.{behind_comma, last_opens, last_place, placed_lexemes}
use Rattle.amf_text_read.proofs.Stopping.{by_comma, by_fault, by_inside, stop_at, text_scanned}
use Rattle.amf_text_read.proofs.stop.early_stop.Goals as goal
use Rattle.amf_text_read.proofs.stop.early_stop.Goals.{else-ends_inside-via-then-ends_inside+then-at-last+else-can_begin, else-ends_inside-via-then-ends_inside+else-at-last, else-ends_inside-via-else-ends_inside}

pub returns-then-at-text : goal.returns-then-at-text
returns-then-at-text c =
    let text = c.args.text.now in
    let ls = placed_lexemes between 0 text in
    let few : c.args.tokens ≤ length (scan text).tokens = omega (arith, c.requires.count) in
    let p = stop_at text c.args.tokens c.place_of-at.result c.requires.count (c.place_of-at.ensures few) in
    ap comma_last c.last_lexeme-last.ensures.at
    ∙ by_comma (is_cut_text text) (last_opens true (tokens_of (scan text).tokens) || behind_comma false false ls) (last_place 0 ls) (length text) (scan text).stop
    (text_scanned text).kind c.requires.early (sym p ∙ c.if-at-text.true)

pub returns-then-can_begin : goal.returns-then-can_begin
returns-then-can_begin c =
    let text = c.args.text.now in
    let ls = placed_lexemes between 0 text in
    let few : c.args.tokens ≤ length (scan text).tokens = omega (arith, c.requires.count) in
    let p = stop_at text c.args.tokens c.place_of-at.result c.requires.count (c.place_of-at.ensures few) in
    let can = ap (λ x. x || c.last_lexeme-last.result.is_behind_comma) c.requires.opens ∙ ap (λ y. last_opens true (tokens_of (scan text).tokens) || y) c.last_lexeme-last.ensures.comma in
    by_inside (is_cut_text text) (last_opens true (tokens_of (scan text).tokens) || behind_comma false false ls) (last_place 0 ls) (length text) c.place_of-at.result (scan text).stop
    (text_scanned text).kind c.requires.early p c.if-at-text.false (sym c.ends_inside.ensures ∙ c.if-ends_inside.true) (c.if-at-last.true ∙ c.last_lexeme-last.ensures.at)
    (sym can ∙ sym c.can_begin.ensures ∙ c.if-can_begin.true)

pub returns-else-ends_inside : goal.returns-else-ends_inside
returns-else-ends_inside c =
    let text = c.args.text.now in
    let ls = placed_lexemes between 0 text in
    let few : c.args.tokens ≤ length (scan text).tokens = omega (arith, c.requires.count) in
    let p = stop_at text c.args.tokens c.place_of-at.result c.requires.count (c.place_of-at.ensures few) in
    let can = ap (λ x. x || c.last_lexeme-last.result.is_behind_comma) c.requires.opens ∙ ap (λ y. last_opens true (tokens_of (scan text).tokens) || y) c.last_lexeme-last.ensures.comma in
    by_fault (is_cut_text text) (last_opens true (tokens_of (scan text).tokens) || behind_comma false false ls) (last_place 0 ls) (length text) c.place_of-at.result (scan text).stop
    (text_scanned text).kind c.requires.early p c.if-at-text.false (
    elim c.else-ends_inside.branch [
      | else-ends_inside-via-then-ends_inside+then-at-last+else-can_begin w ↦ λ _ _ d. false≢true (sym w.if-can_begin.false ∙ w.can_begin.ensures ∙ can ∙ d)
      | else-ends_inside-via-then-ends_inside+else-at-last w ↦ λ _ l _. w.if-at-last.false (l ∙ sym c.last_lexeme-last.ensures.at)
      | else-ends_inside-via-else-ends_inside w ↦ λ e _ _. false≢true (sym w.if-ends_inside.false ∙ c.ends_inside.ensures ∙ e)
    ])
