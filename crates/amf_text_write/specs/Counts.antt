-- At how many places nodes are met. A device of proofs.
use Rattle.std.specs.Prelude.{◌≡◌, ℕ, zero, suc, List, [], ◌∷◌, length, slice_get, Some, ◌==◌, if◌then◌else◌}
use Rattle.amf_graph.specs.Graph.{Value, leaf, node}
use Rattle.amf_text_write.specs.declared.meetings.Meetings.{Meetings}
use Rattle.amf_text_write.specs.declared.meetings.Meetings.TheVariants as meetings

abbrev pub met_times : ℕ → List Value → ℕ
met_times i [] = 0
met_times i (leaf x ∷ vs) = met_times i vs
met_times i (node j ∷ vs) = if j == i then suc (met_times i vs) else met_times i vs

abbrev pub meetings_of : ℕ → Meetings
meetings_of zero = meetings.None
meetings_of (suc zero) = meetings.One
meetings_of (suc (suc n)) = meetings.More

-- by number, at how many of these places each node is met
pub record AreCounts (order : List ℕ) (vs : List Value) (counts : List Meetings) : Type 0 where
  pub all : length counts ≡ length order
  pub each : (k i : ℕ) → slice_get order k ≡ Some i → slice_get counts k ≡ Some (meetings_of (met_times i vs))
