use Rattle.std.proofs.Common.{sym, subst}
use Rattle.amf_tables.specs.FirstPlace.{IsFirstPlace}
use Rattle.amf_tables.specs.KnownWords.{entry_at, AreKnownOf}
use Rattle.amf_tables.proofs.KnownPlaces.{known_more}
use Rattle.amf_tables.proofs.known_words.KnownWords.place_of_traits.Goals as goal

pub returns-in-Some-clause-first : goal.returns-in-Some-clause-first
returns-in-Some-clause-first c =
    let known = subst (λ w. AreKnownOf c.args.graph.now.arena c.args.tables.now.words w) (sym c.self.view_is) c.requires.known in
    c.in-Some.ensures.first c.args.tables.now.words.traits known.traits

pub returns-in-Some-clause-known : goal.returns-in-Some-clause-known
returns-in-Some-clause-known c =
    let known = subst (λ w. AreKnownOf c.args.graph.now.arena c.args.tables.now.words w) (sym c.self.view_is) c.requires.known in
    record { texts = known.texts; traits = c.known_place.ensures.known c.args.tables.now.words.traits known.traits }

pub note_traits-requires-clause-known : goal.note_traits-requires-clause-known
note_traits-requires-clause-known c = (subst (λ w. AreKnownOf c.args.graph.now.arena c.args.tables.now.words w) (sym c.self.view_is) c.requires.known).texts

pub place_of_known-requires-clause-known : goal.place_of_known-requires-clause-known
place_of_known-requires-clause-known c = c.note_traits.ensures

pub returns-in_err-place-clause-known : goal.returns-in_err-place-clause-known
returns-in_err-place-clause-known c =
    let known = subst (λ w. AreKnownOf c.args.graph.now.arena c.args.tables.now.words w) (sym c.self.view_is) c.requires.known in
    record { texts = c.note_traits.ensures; traits = c.known_place.ensures.known c.args.tables.now.words.traits known.traits }

pub returns-clause-known : goal.returns-clause-known
returns-clause-known c =
    let a = c.args.graph.now.arena in
    let known = subst (λ w. AreKnownOf a c.args.tables.now.words w) (sym c.self.view_is) c.requires.known in
    let first : IsFirstPlace c.args.tables.now.words.traits (entry_at a c.args.traits.0) c.in_ok-place.place = rw (c.traits-shown.ensures) c.in_ok-place.ensures.first in
    record { texts = c.note_traits.ensures; traits = known_more (entry_at a) c.args.tables.now.words.traits _ c.keep.new.self c.args.traits.0 c.in_ok-place.place (c.known_place.ensures.known c.args.tables.now.words.traits known.traits) first c.keep.ensures.knows }
