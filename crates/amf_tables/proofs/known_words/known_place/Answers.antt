use Rattle.amf_tables.specs.KnownWords.{entry_at}
use Rattle.amf_tables.proofs.KnownPlaces.{known_more}
use Rattle.amf_tables.proofs.known_words.known_place.Goals as goal

pub returns-in-Some-clause-first : goal.returns-in-Some-clause-first
returns-in-Some-clause-first c = λ entries known. known c.args.traits.0 c.in-Some.place c.in-Some.ensures.known.0 c.in-Some.ensures.known.1

pub returns-clause-known : goal.returns-clause-known
returns-clause-known c = λ entries known.
    known_more (entry_at c.args.graph.now.arena) entries c.args.known.now c.keep.new.self c.args.traits.0 c.in_ok-place.place known (c.in_ok-place.ensures entries known) c.keep.ensures.knows
