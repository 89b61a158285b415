-- The traits stand at none of the places so far.
use Rattle.std.proofs.Common.{map}
use Rattle.amf3_spelling.specs.Words3.{NoPlaceBelow}
use Rattle.amf_tables.specs.ShownTraits.{shown_entry}
use Rattle.amf_tables.specs.WrittenParts.{entry_of}
use Rattle.amf_tables.proofs.traits_table.first_plain.Given as goal

abbrev pub invariant-loop-place : goal.invariant-loop-place
invariant-loop-place l = NoPlaceBelow l.place (map (entry_of l.texts) l.entries) (shown_entry l.graph.arena l.traits)
