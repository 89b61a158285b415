use Rattle.std.proofs.Common.{◌∙◌, sym, subst}
use Rattle.amf_tables.specs.FirstPlace.{IsFirstPlace}
use Rattle.amf_tables.proofs.KnownTexts.{noted_more, numbered}
use Rattle.amf_tables.proofs.known_words.note_text.Goals as goal

pub returns-then-is_some : goal.returns-then-is_some
returns-then-is_some c = c.requires.known

pub returns-in-Some : goal.returns-in-Some
returns-in-Some c =
    let texts = c.args.tables.now.words.texts in
    let a = c.args.graph.now.arena in
    let n = c.text_number-number.result in
    noted_more a texts c.args.known.now c.keep.new.self n c.in-Some.place c.requires.known
    (subst (λ x. IsFirstPlace texts x c.in-Some.place) (c.text-bytes.ensures ∙ sym (numbered a n c.args.text.0 c.text_number-number.ensures)) c.in-Some.ensures.first)
    c.keep.ensures.knows c.keep.ensures.keeps c.keep.ensures.covered

pub returns-in-None : goal.returns-in-None
returns-in-None c = c.requires.known
