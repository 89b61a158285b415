use Rattle.std.proofs.Common.{◌≡◌, ◌≤◌, length, take}
use Rattle.amf_graph.specs.Rooted.{content}
use Rattle.amf0_spelling.specs.Lacks0.{entered}
use Rattle.amf0_write.proofs.FirstReasons.{NoneBelow}
use Rattle.amf0_write.proofs.first_lack.first_of.Given as goal

abbrev pub invariant-loop-number : goal.invariant-loop-number
invariant-loop-number l = record {
  none : NoneBelow (content l.graph) l.outside l.numbering l.number;
  place : l.entered ≡ length (entered (content l.graph) (take l.number l.numbering));
  few : l.entered ≤ l.number;
}
