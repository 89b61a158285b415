use Rattle.std.proofs.Common.{length, sym, ap, ◌∙◌}
use Rattle.amf_text.specs.Refused.{front}
use Rattle.amf_text_read.proofs.Faults.{colon_broken, colon_cut, colon_few}
use Rattle.amf_text_read.proofs.verdict.no_colon.Goals as goal

pub returns-then-is_broken : goal.returns-then-is_broken
returns-then-is_broken c = colon_broken c.args.text.now c.args.tokens _ c.requires.key (sym c.is_broken.ensures ∙ c.if-is_broken.true) (ap length c.requires.front)

pub returns-else-is_broken : goal.returns-else-is_broken
returns-else-is_broken c =
    let place = rw (c.as_bytes.ensures.value, c.requires.front) at c.place_of.ensures in
    colon_cut c.args.text.now c.args.tokens c.place_of.result c.requires.key (sym c.is_broken.ensures ∙ c.if-is_broken.false) (place (colon_few (front c.args.text.now) c.args.tokens c.requires.key))
