use Rattle.std.proofs.Common.{◌++◌, [], sym}
use Rattle.amf_graph.specs.ByName.{by_name}
use Rattle.amf_graph.specs.Rooted.{content}
use Rattle.amf3_spelling.specs.ByteSpelling.{pairs_then}
use Rattle.amf_iso.specs.Contents.{pairs_of}
use Rattle.amf3_write.specs.Unwritten.{segments_left}
use Rattle.amf3_write.proofs.Wrote.{on_ok}
use Rattle.amf3_write.proofs.Leading.{leads_same}
use Rattle.amf3_write.proofs.output.Output.pairs_of.Goals as goal

pub returns-clause-leads : goal.returns-clause-leads
returns-clause-leads c =
    let g = content c.args.graph.now in
    let a = c.args.graph.now.arena in
    let old = segments_left a c.args.waiting.now.items in
    on_ok c.push_pairs.result (λ e. leads_same g (pairs_then (by_name (pairs_of a c.args.pairs.now)) [] ++ old) (segments_left a c.push_pairs.new.waiting.items) c.args.self.now (sym e)) c.push_pairs.ensures.left

pub returns-then-is_empty-clause-ready : goal.returns-then-is_empty-clause-ready
returns-then-is_empty-clause-ready c = c.text.ensures.ready c.args.graph.now.arena c.requires.ready
