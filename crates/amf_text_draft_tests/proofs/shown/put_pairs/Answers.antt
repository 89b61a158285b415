use Rattle.std.proofs.Common.{arith}
use Rattle.amf_graph.specs.Arena.{IsTextId, Names}
use Rattle.amf_graph.proofs.Copied.{named_at}
use Rattle.amf_text_draft_tests.proofs.shown.put_pairs.Goals as goal

pub text-requires : goal.text-requires
text-requires g c = (named_at (λ p. IsTextId c.args.graph.now.arena p.0 × Names c.args.graph.now.arena p.1) c.args.pairs.now c.loop-place.place _ c.requires (omega arith)).0

pub put_value-requires : goal.put_value-requires
put_value-requires g c = (named_at (λ p. IsTextId c.args.graph.now.arena p.0 × Names c.args.graph.now.arena p.1) c.args.pairs.now c.loop-place.place _ c.requires (omega arith)).1
