-- Each node is read and copied.
use Rattle.std.proofs.Common.{get_or, arith}
use Rattle.amf_graph.specs.Building.{no_stored}
use Rattle.amf_graph.specs.HaveStandIns.{NodeHasStandIns}
use Rattle.amf_graph.specs.StandIns.{NodeStandsFor}
use Rattle.amf_graph.proofs.Alls.{all_at}
use Rattle.amf_graph.proofs.HeldCopies.{closed_at, has_sealed, has_names, has_values, held_stands}
use Rattle.amf_graph.proofs.Zipping.{zip_more}
use Rattle.amf_graph.proofs.stand_ins.stand_in_nodes.Goals as goal

pub keep_stand_in-requires-clause-sealed : goal.keep_stand_in-requires-clause-sealed
keep_stand_in-requires-clause-sealed c =
    let n = get_or c.args.nodes.now c.loop-place.place no_stored in
    has_sealed c.args.classes.now c.args.stand_ins.now n c.held-held.result c.held-held.ensures (all_at (NodeHasStandIns c.args.classes.now c.args.stand_ins.now) c.args.nodes.now c.loop-place.place no_stored (omega arith) c.requires.stand_ins)

pub keep_stand_in-requires-clause-names : goal.keep_stand_in-requires-clause-names
keep_stand_in-requires-clause-names c =
    let n = get_or c.args.nodes.now c.loop-place.place no_stored in
    has_names c.args.classes.now c.args.stand_ins.now n c.held-held.result c.held-held.ensures (all_at (NodeHasStandIns c.args.classes.now c.args.stand_ins.now) c.args.nodes.now c.loop-place.place no_stored (omega arith) c.requires.stand_ins)

pub keep_stand_in-requires-clause-values : goal.keep_stand_in-requires-clause-values
keep_stand_in-requires-clause-values c =
    let n = get_or c.args.nodes.now c.loop-place.place no_stored in
    has_values c.args.classes.now c.args.stand_ins.now n c.held-held.result c.held-held.ensures (all_at (NodeHasStandIns c.args.classes.now c.args.stand_ins.now) c.args.nodes.now c.loop-place.place no_stored (omega arith) c.requires.stand_ins)

pub loop-place-preserved : goal.loop-place-preserved
loop-place-preserved c =
    let ts = c.args.classes.now in
    let ins = c.args.stand_ins.now in
    let i = c.loop-place.place in
    let told = c.in_ok-keep_stand_in.ensures in
    let made = held_stands ts ins (get_or c.args.nodes.now i no_stored) c.held-held.result told.0 c.held-held.ensures (closed_at c.args.nodes.now i c.requires.closed) told.2 in
    rw (told.1) (zip_more (NodeStandsFor ts ins) c.args.nodes.now c.loop-place.copies i no_stored told.0 (omega arith) c.loop-place.invariant made)
