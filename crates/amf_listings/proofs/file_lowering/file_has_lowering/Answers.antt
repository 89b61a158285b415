use Rattle.std.proofs.Common.{sym, ◌∙◌, subst}
use Rattle.amf_graph.specs.Rooted.{RootedArena, content}
use Rattle.amf0_spelling.specs.Lowered.{IsLoweringOf}
use Rattle.amf_sol.specs.StoredFile.{shared}
use Rattle.amf_listings.proofs.HasLow.{itself, of_graph}
use Rattle.amf_listings.proofs.file_lowering.file_has_lowering.Goals as goal

pub returns-in-Amf3 : goal.returns-in-Amf3
returns-in-Amf3 c = itself (shared c.args.file.now) (sym c.version.ensures ∙ c.in-Amf3.is)

pub returns-in-Amf0 : goal.returns-in-Amf0
returns-in-Amf0 c =
    let f = c.is_finished.ensures in
    let g = c.holder.result.now in
    let low = c.graphs_have_one_lowering.ensures.built g.arena g.root f.finished f.bounds f.names in
    of_graph (shared c.args.file.now) low.0 (sym c.version.ensures ∙ c.in-Amf0.is) (subst (λ (x : RootedArena). IsLoweringOf (content x) low.0) c.holder.ensures low.1.is)
