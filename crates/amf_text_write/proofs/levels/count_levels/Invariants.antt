use Rattle.std.proofs.Common.{◌≡◌, get_or}
use Rattle.amf_graph.specs.Rooted.{content}
use Rattle.amf_text_write.specs.Levels.{next_level}
use Rattle.amf_text_write.proofs.LevelSteps.{LevelsSoFar}
use Rattle.amf_text_write.proofs.levels.count_levels.Given as goal

abbrev pub invariant-loop-number : goal.invariant-loop-number
invariant-loop-number l = LevelsSoFar (content l.graph) l.numbering l.number 0 l.levels.items

abbrev pub invariant-loop-value : goal.invariant-loop-value
invariant-loop-value l = record {
  sofar : LevelsSoFar (content l.graph) l.numbering l.number l.value-index l.levels.items;
  level : l.level ≡ next_level (get_or l.levels.items l.number 0);
}
