use Rattle.std.proofs.Common.{◌≡◌, [], ◌∷◌, Some, length, slice_get, sym, ap, ◌∙◌, arith}
use Rattle.json.specs.Lex.{tokens}
use Rattle.amf_text.specs.Asks.{start}
use Rattle.amf_text_read.specs.LabelNumbers.{label_numbers}
use Rattle.amf_text_read.proofs.LabelNumbers.{no_place, place_is}
use Rattle.amf_text_read.proofs.Lexed.{few_tokens}
use Rattle.amf_text_read.proofs.called.label_place.Goals as goal

pub label_token-requires : goal.label_token-requires
label_token-requires c =
    let text = c.args.text.now in
    let same : length c.in_ok-reader.reader ≡ length (tokens text) = ap length c.in_ok-reader.ensures.ok in
    let few = few_tokens text in
    let limit = c.requires.few in
    omega (arith, same, few, limit)

pub returns-in-Some : goal.returns-in-Some
returns-in-Some c =
    let text = c.args.text.now in
    let stands = rw c.as_bytes.ensures.value at c.place_of.ensures in
    let number = ap (λ ts. slice_get (label_numbers 0 (Some (start ∷ [])) ts) c.args.label) (sym c.in_ok-reader.ensures.ok) ∙ sym c.in_ok-token.ensures ∙ c.in-Some.is in
    place_is text c.args.label c.in-Some.token c.place_of.result c.requires.ended number stands

pub returns : goal.returns
returns c =
    let text = c.args.text.now in
    let number = ap (λ ts. slice_get (label_numbers 0 (Some (start ∷ [])) ts) c.args.label) (sym c.in_ok-reader.ensures.ok) ∙ sym c.in_ok-token.ensures ∙ c.in-None.is in
    no_place text c.args.label c.requires.ended number
