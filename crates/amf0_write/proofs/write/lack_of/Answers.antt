use Rattle.std.proofs.Common.{length, ◌∙◌}
use Rattle.std.proofs.lemmas.List.{length-map}
use Rattle.amf_graph.specs.Arena.{node_content}
use Rattle.amf_graph.specs.Rooted.{content}
use Rattle.amf0_write.specs.Written0.{tables0}
use Rattle.amf0_write.proofs.MetBefore.{loose_within}
use Rattle.amf0_write.proofs.write.lack_of.Goals as goal

pub meetings_before-requires : goal.meetings_before-requires
meetings_before-requires c = let a = c.args.graph.now.arena in record { within = loose_within (content c.args.graph.now) (tables0 c.requires.lacking.0) (tables0 c.args.tables.now) c.args.loose.now (length a.nodes) (length-map a.nodes (node_content a)) c.requires.lacking.2.0 }

pub part_lack-requires-clause-room : goal.part_lack-requires-clause-room
part_lack-requires-clause-room c = let a = c.args.graph.now.arena in (c.in_ok-meetings.ensures c.requires.lacking.0 c.requires.lacking.2).all ∙ length-map a.nodes (node_content a)

pub part_lack-requires-clause-lacking : goal.part_lack-requires-clause-lacking
part_lack-requires-clause-lacking c = (c.requires.lacking.0, c.in_ok-meetings.ensures c.requires.lacking.0 c.requires.lacking.2, c.requires.lacking.1)

pub returns : goal.returns
returns c = λ t h. c.part_lack.ensures t (c.in_ok-meetings.ensures t h)
