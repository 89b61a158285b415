use Rattle.std.proofs.Common.{arith}
use Rattle.amf_graph.specs.declared.value.Value.TheVariants.{Undefined}
use Rattle.amf_graph.specs.Arena.{Names, value_content}
use Rattle.amf_show.specs.Listing.{shown_value}
use Rattle.amf_show.proofs.Held.{each_there}
use Rattle.amf_show.proofs.Joined.{joined_step_of}
use Rattle.amf_show.proofs.lister.Lister.push_items.Goals as goal

pub push_value-requires : goal.push_value-requires
push_value-requires c = each_there (Names c.args.self.now.graph.now.arena) c.args.values.now c.loop-place.place Undefined c.requires (omega arith)

pub loop-place-preserved : goal.loop-place-preserved
loop-place-preserved c = joined_step_of (shown_value c.args.self.now.numbering.now) (value_content c.args.self.now.graph.now.arena) c.args.out.now.items c.loop-place.out.items c.push_separator.new.out.items c.push_value.new.out.items c.args.values.now c.loop-place.place Undefined (omega arith) c.loop-place.invariant c.in_ok-push_separator.ensures c.in_ok-push_value.ensures
