use Rattle.std.proofs.Common.{arith}
use Rattle.amf_graph.specs.declared.value.Value.TheVariants.{Undefined}
use Rattle.amf_show.proofs.Held.{entry_there}
use Rattle.amf_show.proofs.Joined.{entries_step}
use Rattle.amf_show.proofs.lister.Lister.push_entries.Goals as goal

pub push_entry-requires-clause-key : goal.push_entry-requires-clause-key
push_entry-requires-clause-key c = (entry_there c.args.self.now.graph.now.arena c.args.entries.now c.loop-place.place (Undefined, Undefined) c.requires (omega arith)).0

pub push_entry-requires-clause-value : goal.push_entry-requires-clause-value
push_entry-requires-clause-value c = (entry_there c.args.self.now.graph.now.arena c.args.entries.now c.loop-place.place (Undefined, Undefined) c.requires (omega arith)).1

pub loop-place-preserved : goal.loop-place-preserved
loop-place-preserved c = entries_step c.args.self.now.numbering.now c.args.self.now.graph.now.arena c.args.out.now.items c.loop-place.out.items c.push_separator.new.out.items c.push_entry.new.out.items c.args.entries.now c.loop-place.place (Undefined, Undefined) (omega arith) c.loop-place.invariant c.in_ok-push_separator.ensures c.in_ok-push_entry.ensures
