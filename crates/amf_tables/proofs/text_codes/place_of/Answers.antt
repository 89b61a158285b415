use Rattle.std.proofs.Common.{subst}
use Rattle.amf_tables.specs.FirstPlace.{IsFirstPlace}
use Rattle.amf_tables.proofs.KnownTexts.{numbered}
use Rattle.amf_tables.proofs.text_codes.place_of.Goals as goal

pub returns-in-Some-clause-first : goal.returns-in-Some-clause-first
returns-in-Some-clause-first c =
    let n = c.text_number.result in
    subst (λ x. IsFirstPlace c.args.texts.now x c.in-Some.place) (numbered c.args.graph.now.arena n c.args.text.0 c.text_number.ensures) (c.requires.known.places n c.in-Some.place c.in-Some.ensures.known.0 c.in-Some.ensures.known.1)
