-- The laws hold.
use Rattle.amf_text_trees.proofs.Laws.{tree_laws}
use Rattle.amf_text_trees.proofs.facts.tree_laws.Goals as goal

pub returns : goal.returns
returns c = tree_laws
