use Rattle.std.proofs.Common.{◌≡◌, ◌≤◌, ◌-◌, true}
use Rattle.amf_vectors.specs.Made.{number}
use Rattle.amf_vectors.specs.Making.{making}
use Rattle.amf_vectors.proofs.maker.build.Given as goal

abbrev pub invariant-loop-place : goal.invariant-loop-place
invariant-loop-place l = (1 ≤ l.place) × (l.place ≤ l.size) × (l.builder ≡ making true l.seed (l.place - 1)) × (l.number ≡ number l.seed (l.place - 1))
