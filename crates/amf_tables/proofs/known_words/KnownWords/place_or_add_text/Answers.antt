use Rattle.std.proofs.Common.{refl, sym, subst}
use Rattle.amf_tables.specs.FirstPlace.{IsFirstPlace}
use Rattle.amf_tables.specs.KnownWords.{AreKnownOf}
use Rattle.amf_tables.proofs.KnownTexts.{numbered}
use Rattle.amf_tables.proofs.known_words.KnownWords.place_or_add_text.Goals as goal

pub returns-in-Some-clause-ok : goal.returns-in-Some-clause-ok
returns-in-Some-clause-ok c =
    let known = subst (λ w. AreKnownOf c.args.graph.now.arena c.args.tables.now.words w) (sym c.self.view_is) c.requires.known in
    let n = c.text_number-number.result in
    let known_text = known.texts.places n c.in-Some.place c.in-Some.ensures.known.0 c.in-Some.ensures.known.1 in
    (subst (λ x. IsFirstPlace c.args.tables.now.words.texts x c.in-Some.place) (numbered c.args.graph.now.arena n c.args.text.0 c.text_number-number.ensures) known_text, refl)
