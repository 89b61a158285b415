-- After an end the first nodes alone are kept.
use Rattle.std.proofs.Common.{take, ap, ◌∙◌}
use Rattle.amf_graph.proofs.nodes.Nodes.append.Goals as goal

pub returns-in-Err-clause-err : goal.returns-in-Err-clause-err
returns-in-Err-clause-err c = c.truncate.ensures ∙ ap (λ n. take n c.append_all.new.self) c.len-count.ensures ∙ c.append_all.ensures.front
