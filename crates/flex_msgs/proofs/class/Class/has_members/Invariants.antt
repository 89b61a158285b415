use Rattle.std.proofs.Common.{◌≡◌, ℕ, ◌<◌, [], get_or}
use Rattle.amf_graph.specs.Arena.{text_at}
use Rattle.flex_msgs.specs.Classes.{class_traits}
use Rattle.flex_msgs.proofs.class.Class.has_members.Given as goal

abbrev pub invariant-loop-place : goal.invariant-loop-place
invariant-loop-place l = (k : ℕ) → k < l.place → text_at l.graph.arena (get_or l.names k (record { 0 = 0 })).0 ≡ get_or (class_traits l.self).sealed k []
