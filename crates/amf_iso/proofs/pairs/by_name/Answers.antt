-- The ids in by-name order, with their names.
use Rattle.std.proofs.Common.{◌∙◌, ap, subst, sym}
use Rattle.amf_iso.specs.Contents.{pairs_of, ArePairs}
use Rattle.amf_iso.proofs.pairs.by_name.Goals as goal

pub with_names-requires : goal.with_names-requires
with_names-requires c = subst (ArePairs c.args.graph.now.arena) (sym c.deref.ensures.value) c.in_ok-sorted.ensures.names

pub returns-clause-content : goal.returns-clause-content
returns-clause-content c = c.in_ok-named.ensures.content ∙ ap (pairs_of c.args.graph.now.arena) c.deref.ensures.value ∙ c.in_ok-sorted.ensures.content
