use Rattle.std.proofs.Common.{ℕ, take, drop}
use Rattle.amf_graph.specs.Rooted.{content}
use Rattle.amf_iso.specs.Contents.{pairs_of}
use Rattle.amf_sol.specs.SharedObject.{IsHolder}
use Rattle.amf_sol.proofs.HolderLacks0.{Written0}
use Rattle.amf_sol.proofs.write_pairs.append_each0.Given as goal

abbrev pub invariant-loop-pair : goal.invariant-loop-pair
invariant-loop-pair l = (h : ℕ) (holder : IsHolder (content l.low) h) → Written0 (content l.low) h holder (pairs_of l.low.arena (take l.pair-index l.pairs)) (pairs_of l.low.arena (drop l.pair-index l.pairs)) l.tables l.fn.out.items l.out.items
