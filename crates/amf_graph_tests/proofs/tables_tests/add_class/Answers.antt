use Rattle.std.proofs.Common.{◌<◌, length, arith}
use Rattle.amf_graph_tests.proofs.tables_tests.add_class.Goals as goal

pub add_traits-requires : goal.add_traits-requires
add_traits-requires g c =
    let texts = c.args.graph.now.arena.texts in
    let first : 0 < length texts = omega (arith, c.requires) in
    let second : 1 < length texts = omega (arith, c.requires) in
    record { class = first; sealed = (second, tt) }
