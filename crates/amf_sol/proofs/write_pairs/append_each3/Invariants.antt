use Rattle.std.proofs.Common.{ℕ, take}
use Rattle.amf_graph.specs.Rooted.{content}
use Rattle.amf_iso.specs.Contents.{pairs_of}
use Rattle.amf3_write.specs.PartTables.{AreTablesOf}
use Rattle.amf_sol.specs.SharedObject.{IsHolder}
use Rattle.amf_sol.proofs.HolderLacks3.{Written3}
use Rattle.amf_sol.proofs.write_pairs.append_each3.Given as goal

abbrev pub invariant-loop-pair : goal.invariant-loop-pair
invariant-loop-pair l = record {
  tables : AreTablesOf l.graph.arena l.tables;
  written : (h : ℕ) (holder : IsHolder (content l.graph) h) → Written3 (content l.graph) h holder (pairs_of l.graph.arena (take l.pair-index l.pairs)) l.tables.tables l.fn.out.items l.out.items;
}
