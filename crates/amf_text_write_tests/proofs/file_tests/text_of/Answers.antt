use Rattle.std.proofs.Common.{sym, ap, ◌∙◌}
use Rattle.amf_graph.specs.Arena.{value_content}
use Rattle.amf_text_write_tests.proofs.file_tests.text_of.Goals as goal

pub file_text-requires-clause-root : goal.file_text-requires-clause-root
file_text-requires-clause-root g c = (c.in-Node.field-0.0, ap (value_content c.args.graph.now.arena) (sym c.root.ensures ∙ c.in-Node.is))
