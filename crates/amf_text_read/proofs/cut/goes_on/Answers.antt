use Rattle.std.proofs.Common.{◌≡◌, get_or, sym, ap, ◌∙◌}
use Rattle.amf_text_read.proofs.CanEnds.{other_test, quote_test, string_iff, word_iff}
use Rattle.amf_text_read.proofs.cut.goes_on.Goals as goal

pub returns-then-as_bytes-eq34 : goal.returns-then-as_bytes-eq34
returns-then-as_bytes-eq34 c =
    let same : get_or c.args.front.now 0 0 ≡ get_or c.as_bytes.result.now 0 0 = ap (λ l. get_or l 0 0) (sym c.as_bytes.ensures.value) in
    string_iff c.args.front.now c.string_goes_on.result c.requires (quote_test _ (same ∙ c.if-as_bytes-eq34.true)) c.string_goes_on.ensures.yes c.string_goes_on.ensures.no

pub returns-else-as_bytes-eq34 : goal.returns-else-as_bytes-eq34
returns-else-as_bytes-eq34 c =
    let same : get_or c.as_bytes.result.now 0 0 ≡ get_or c.args.front.now 0 0 = ap (λ l. get_or l 0 0) c.as_bytes.ensures.value in
    word_iff c.args.front.now c.word_goes_on.result c.requires (other_test _ (λ e. c.if-as_bytes-eq34.false (same ∙ e))) c.word_goes_on.ensures.yes c.word_goes_on.ensures.no
