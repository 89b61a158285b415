use Rattle.std.proofs.Common.{List, ℕ, subst}
use Rattle.amf_graph.specs.Arena.{text_at, value_content}
use Rattle.amf_graph.specs.Rooted.{content}
use Rattle.amf0_spelling.specs.Segments0.{Short}
use Rattle.amf0_write.specs.Written0.{tables0}
use Rattle.amf_sol.specs.FileParts.{Appends}
use Rattle.amf_sol.proofs.FileWrites.{pair0_written}
use Rattle.amf_sol.proofs.write_pairs.append_pair0.Goals as goal

pub returns-clause-written : goal.returns-clause-written
returns-clause-written c =
    let a = c.args.low.now.arena in
    pair0_written (content c.args.low.now) (text_at a c.args.pair.0.0) (value_content a c.args.pair.1) (tables0 c.args.tables.now) (tables0 c.write0_part.new.tables) c.args.out.now.items c.append_name.new.out.items c.write0_part.new.out.items c.push.new.self.items
    (subst (λ (x : List ℕ). Appends (Short x) c.args.out.now.items c.append_name.new.out.items) c.text-text.ensures c.in_ok-append_name.ensures) c.in_ok-write0_part.ensures.written c.in_ok-push.ensures.items
