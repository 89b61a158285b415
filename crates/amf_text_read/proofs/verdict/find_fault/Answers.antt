use Rattle.std.proofs.Common.{◌≡◌, length, ap, ◌∙◌, subst, arith}
use Rattle.std.proofs.lemmas.Str.{utf8_valid_len_le}
use Rattle.json.specs.Lex.{tokens}
use Rattle.amf_text.specs.Refused.{front}
use Rattle.amf_text_read.specs.Places.{is_cut_text}
use Rattle.amf_text_read.specs.Judgements.{IsJudged}
use Rattle.amf_text_read.proofs.Faults.{front_length}
use Rattle.amf_text_read.proofs.Lexed.{few_tokens}
use Rattle.amf_text_read.proofs.verdict.find_fault.Goals as goal

pub judge-requires : goal.judge-requires
judge-requires c =
    let text = c.args.text.now in
    let same : length c.in_ok-reader.reader ≡ length (tokens (front text)) = ap length (c.in_ok-reader.ensures.ok ∙ ap tokens c.front_of-whole.ensures) in
    let few = few_tokens (front text) in
    let long = front_length text in
    let within = utf8_valid_len_le text in
    let limit = c.requires.few in
    omega (arith, same, few, long, within, limit)

pub fault_of-requires-clause-judged : goal.fault_of-requires-clause-judged
fault_of-requires-clause-judged c =
    let f = front c.args.text.now in
    let cut : c.ends_inside-is_cut.result ≡ is_cut_text f = c.ends_inside-is_cut.ensures ∙ ap is_cut_text (c.as_bytes.ensures.value ∙ c.front_of-whole.ensures) in
    let same : c.in_ok-reader.reader ≡ tokens f = c.in_ok-reader.ensures.ok ∙ ap tokens c.front_of-whole.ensures in
    subst (λ b. IsJudged b (tokens f) c.in_ok-judged.judged) cut (subst (λ ts. IsJudged c.ends_inside-is_cut.result ts c.in_ok-judged.judged) same c.in_ok-judged.ensures)
