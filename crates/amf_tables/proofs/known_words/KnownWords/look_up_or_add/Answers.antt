use Rattle.std.proofs.Common.{◌∙◌, ap, sym, subst}
use Rattle.amf_graph.specs.Arena.{text_at}
use Rattle.amf_tables.specs.KnownPlaces.{HasPlace}
use Rattle.amf_tables.specs.KnownWords.{Known, AreKnownOf}
use Rattle.amf_tables.specs.TextPlaces.{IsEntered}
use Rattle.amf3_spelling.specs.Tables.{Tables, with_words, add_text}
use Rattle.amf_tables.proofs.KnownTexts.{numbered, absent_by_cover, known_old, known_new, known_next}
use Rattle.amf_tables.proofs.known_words.KnownWords.look_up_or_add.Goals as goal

pub returns-in-Old-clause-known : goal.returns-in-Old-clause-known
returns-in-Old-clause-known c =
    let a = c.args.graph.now.arena in
    let known = subst (λ w. AreKnownOf a c.args.tables.now.words w) (sym c.self.view_is) c.requires.known in
    let n = c.args.number in
    let entered = subst (λ x. IsEntered c.args.tables.now.words.texts x c.place_or_add_text.new.self.words.texts c.in_ok-found.found) (c.text-bytes.ensures ∙ sym (numbered a n c.args.text.0 c.requires.number)) c.in_ok-found.ensures.ok in
    known_old a c.args.tables.now.words c.place_or_add_text.new.self.words _ n c.in-Old.place c.in_ok-found.found c.keep.new.self c.in-Old.is known
    entered (ap (λ (t : Tables). t.words.traits) c.in_ok-found.ensures.rest) c.keep.ensures.knows c.keep.ensures.keeps c.keep.ensures.covered

pub returns-in-New-clause-known : goal.returns-in-New-clause-known
returns-in-New-clause-known c =
    let a = c.args.graph.now.arena in
    let known = subst (λ w. AreKnownOf a c.args.tables.now.words w) (sym c.self.view_is) c.requires.known in
    let n = c.args.number in
    let entered = subst (λ x. IsEntered c.args.tables.now.words.texts x c.place_or_add_text.new.self.words.texts c.in_ok-found.found) (c.text-bytes.ensures ∙ sym (numbered a n c.args.text.0 c.requires.number)) c.in_ok-found.ensures.ok in
    known_new a c.args.tables.now.words c.place_or_add_text.new.self.words _ n c.in-New.place c.in_ok-found.found c.keep-in-New.new.self c.in-New.is known
    entered (ap (λ (t : Tables). t.words.traits) c.in_ok-found.ensures.rest) c.keep-in-New.ensures.knows c.keep-in-New.ensures.keeps c.keep-in-New.ensures.covered

pub returns-then-count-lt-MAX_ENTRIES-clause-known : goal.returns-then-count-lt-MAX_ENTRIES-clause-known
returns-then-count-lt-MAX_ENTRIES-clause-known c =
    let a = c.args.graph.now.arena in
    let t = c.args.tables.now in
    let known = subst (λ w. AreKnownOf a t.words w) (sym c.self.view_is) c.requires.known in
    let n = c.args.number in
    let x = text_at a c.args.text.0 in
    let all = c.covers.ensures.0 c.if-covers.true ∙ c.text_count-count.ensures in
    let unknown = subst (λ (w : Known). HasPlace w.texts.places n → ⊥) (sym c.self.view_is) c.requires.unknown in
    let none = absent_by_cover a t.words.texts _ n x known.texts all unknown c.requires.number in
    known_next a t c.add_text.new.self _ n x c.text_count-count.result c.keep_next.new.self known all c.requires.number none c.text_count-count.ensures
    (c.in_ok-add_text.ensures.ok ∙ ap (λ w. with_words t (add_text t.words w)) c.text-bytes.ensures) c.keep_next.ensures.knows c.keep_next.ensures.keeps
