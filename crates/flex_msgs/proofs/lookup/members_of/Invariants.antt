use Rattle.std.proofs.Common.{◌≡◌, take, get_or}
use Rattle.amf_graph.specs.Arena.{no_traits}
use Rattle.amf_graph.specs.Views.{named}
use Rattle.flex_msgs.specs.KeptPairs.{stored_pairs}
use Rattle.flex_msgs.proofs.lookup.members_of.Given as goal

abbrev pub invariant-loop-place : goal.invariant-loop-place
invariant-loop-place l = named l.pairs.items ≡ stored_pairs (get_or l.graph.arena.traits l.fn.traits.0 no_traits).sealed (take l.place l.sealed)
