use Rattle.std.proofs.Common.{◌≡◌, ◌/◌, [], length, take, arith}
use Rattle.std.proofs.lemmas.List.{length-take}
use Rattle.std.proofs.lemmas.Result.{IfOk-at_ok}
use Rattle.amf_graph.specs.declared.value.NodeId.{NodeId}
use Rattle.amf_graph.specs.Arena as arena
use Rattle.amf_graph.specs.Building.{kept_node, closed}
use Rattle.amf_wire_fields.proofs.Ahead.{Passed}
use Rattle.amf3_read.proofs.NodeBegins.{room_for_leaf}
use Rattle.amf3_read.proofs.BytesAhead.{bytes_begin, bytes_ready}
use Rattle.amf3_read.proofs.node.enter_bytes.Given.{Over}
use Rattle.amf3_read.proofs.node.enter_bytes.Goals as goal

pub pass-requires : goal.pass-requires
pass-requires g c =
    let some = c.if-has_bytes.ensures.there in
    record { there = omega (arith, some, c.ahead-ahead.ensures.there); within = omega (arith, some, c.ahead-ahead.ensures.within) }

pub kept-requires : goal.kept-requires
kept-requires g c = λ e.
    let r = c.requires.ready.few_nodes in
    let small = c.requires.known.small in
    room_for_leaf (length c.args.builder.now.nodes) _ (omega arith) (omega (arith, length-take (c.args.header / 2) c.ahead-ahead.result.now)) (c.bytes-array.ensures.full.0 e)

passed : (g : Over) (c : goal.In_ok-push_node g) → Passed g.S.Source.left c.args.cursor.now c.pass.new.self c.ahead-ahead.result.now (c.args.header / 2)
passed g c = record {
  front = c.ahead-ahead.ensures.front;
  some = c.if-has_bytes.ensures.there;
  within = c.ahead-ahead.ensures.within;
  one_past = c.at-start.ensures.ahead;
  source = c.pass.ensures.source;
  name = c.pass.ensures.same_reference;
  same_bound = c.pass.ensures.bound;
  gone = c.pass.ensures.gives;
  taken = c.pass.ensures.place;
  fewer = c.pass.ensures.ahead;
}

array_kept : (g : Over) (c : goal.In_ok-push_node g) → c.bytes-array.new.self ≡ kept_node c.args.builder.now (closed (arena.bytes (take (c.args.header / 2) c.ahead-ahead.result.now)) [] [])
array_kept g c = IfOk-at_ok (λ (x : NodeId). c.bytes-array.new.self ≡ kept_node c.args.builder.now (closed (arena.bytes (take (c.args.header / 2) c.ahead-ahead.result.now)) [] [])) c.in_ok-node.ensures.ok c.bytes-array.ensures.ok

array_place : (g : Over) (c : goal.In_ok-push_node g) → c.in_ok-node.node.0 ≡ length c.args.builder.now.nodes
array_place g c = IfOk-at_ok (λ (x : NodeId). x.0 ≡ length c.args.builder.now.nodes) c.in_ok-node.ensures.ok c.bytes-array.ensures.id

pub returns-then-has_bytes-clause-begins : goal.returns-then-has_bytes-clause-begins
returns-then-has_bytes-clause-begins g c =
    let S = g.S.Source in
    bytes_begin S.tells S.left S.faults c.args.builder.now c.args.tables.now c.args.header c.args.cursor.now c.pass.new.self c.ahead-ahead.result.now (passed g c) c.has_bytes.ensures.bytes
    c.bytes-array.new.self c.push_node.new.self c.in_ok-node.node c.requires.ready (array_kept g c) (array_place g c) c.in_ok-push_node.ensures.ok

pub returns-then-has_bytes-clause-ready : goal.returns-then-has_bytes-clause-ready
returns-then-has_bytes-clause-ready g c =
    let S = g.S.Source in
    bytes_ready S.tells S.left S.faults c.args.builder.now c.args.tables.now c.args.header c.args.cursor.now c.pass.new.self c.ahead-ahead.result.now (passed g c) c.has_bytes.ensures.bytes
    c.bytes-array.new.self c.push_node.new.self c.in_ok-node.node c.requires.ready (array_kept g c) (array_place g c) c.in_ok-push_node.ensures.ok c.is_built.ensures.built
