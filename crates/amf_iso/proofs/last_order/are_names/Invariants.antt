use Rattle.std.proofs.Common.{◌≡◌, map, take}
use Rattle.amf_tables.specs.KnownTexts.{content_at}
use Rattle.amf_iso.specs.Remembered.{ids_of, bytes_of}
use Rattle.amf_iso.proofs.last_order.are_names.Given as goal

abbrev pub invariant-loop-index : goal.invariant-loop-index
invariant-loop-index l = map (content_at l.graph.arena) (take l.index l.names) ≡ map (bytes_of l.graph.arena) (take l.index (ids_of l.pairs))
