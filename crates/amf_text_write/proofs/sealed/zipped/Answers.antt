use Rattle.std.proofs.Common.{arith}
use Rattle.amf_graph.specs.declared.value.Value.TheVariants.{Undefined}
use Rattle.amf_text_write.proofs.SealedParts.{zip_next, zip_end}
use Rattle.amf_text_write.proofs.sealed.zipped.Goals as goal

pub loop-place-preserved : goal.loop-place-preserved
loop-place-preserved c = zip_next c.args.names.now c.args.values.now c.loop-place.place (record { 0 = 0 }) Undefined c.loop-place.pairs.items c.push.new.self.items (omega arith) c.requires c.in_ok-push.ensures.items c.loop-place.invariant

pub returns : goal.returns
returns c = zip_end c.args.names.now c.args.values.now c.loop-place.place c.loop-place.pairs.items (omega arith) c.loop-place.invariant
