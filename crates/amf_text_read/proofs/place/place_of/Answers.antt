use Rattle.std.proofs.Common.{◌≡◌, get_or, sym, ap, ◌∙◌, arith}
use Rattle.amf_text_read.specs.Places.{token_places}
use Rattle.amf_text_read.proofs.Scanning.{place_is}
use Rattle.amf_text_read.proofs.place.place_of.Goals as goal

pub returns : goal.returns
returns c = λ few.
    let e : c.loop.counter ≡ c.args.token = omega arith in
    sym (place_is c.args.text.now c.loop.counter c.loop.at (c.loop.invariant few)) ∙ ap (λ n. get_or (token_places c.args.text.now) n 0) e
