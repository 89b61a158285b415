use Rattle.std.proofs.Common.{subst}
use Rattle.std.specs.Prelude.{IfSome}
use Rattle.amf_graph.specs.Arena.{IsTextId}
use Rattle.amf3_layout_laws.specs.Layout3State.{state_of}
use Rattle.amf3_read.proofs.GoesOn.{name_ended, name_empty, name_some, name_waits, name_opens, value_waits, value_holds, closed_goes, closed_still_ready, closed_holds}
use Rattle.amf3_read.proofs.Empties.{ended_step}
use Rattle.amf3_read.proofs.fill.go_on.Goals as goal

pub returns-in_err-name-in-Name-clause-answers : goal.returns-in_err-name-in-Name-clause-answers
returns-in_err-name-in-Name-clause-answers g c = λ v m lt.
    let S = g.S.Source in
    ended_step S.tells S.left v m c.args.node.0 c.args.todo (state_of c.args.builder.now c.args.tables.now) (state_of c.next_name.new.builder c.next_name.new.tables) c.args.cursor.now c.next_name.new.cursor c.from_residual.result c.in_err-name-in-Name.field-0.0 c.from_residual.ensures.1
    (name_ended S.tells S.left S.faults c.args.node.0 c.args.todo c.args.builder.now c.next_name.new.builder c.args.tables.now c.next_name.new.tables c.args.cursor.now c.next_name.new.cursor c.in-Name.ensures v m lt c.in_err-name-in-Name.field-0.0 c.in_err-name-in-Name.ensures.answers)

pub returns-in-Some-clause-answers : goal.returns-in-Some-clause-answers
returns-in-Some-clause-answers g c =
    let S = g.S.Source in
    let e = c.in_ok-name-in-Name.ensures in
    name_some S.tells S.left S.faults c.args.node.0 c.args.todo c.args.builder.now c.next_name.new.builder c.args.tables.now c.next_name.new.tables c.args.cursor.now c.next_name.new.cursor c.in-Name.ensures c.in_ok-name-in-Name.name e.goes e.answers e.continues e.moves
    c.in-Some.name c.in-Some.is

pub returns-in-Some-clause-holds : goal.returns-in-Some-clause-holds
returns-in-Some-clause-holds g c =
    let S = g.S.Source in
    let e = c.in_ok-name-in-Name.ensures in
    let name = c.in_ok-name-in-Name.name in
    name_waits S.tells S.left S.faults c.args.node.0 c.args.todo c.args.builder.now c.next_name.new.builder c.args.tables.now c.next_name.new.tables c.args.cursor.now c.next_name.new.cursor c.in-Name.ensures name e.goes e.answers e.continues e.moves
    c.requires.opened c.requires.ready.built c.requires.suits c.in-Some.name (subst (λ o. IfSome o (λ x. IsTextId c.next_name.new.builder x.0)) c.in-Some.is e.there)

pub returns-in-None-clause-answers : goal.returns-in-None-clause-answers
returns-in-None-clause-answers g c =
    let S = g.S.Source in
    let e = c.in_ok-name-in-Name.ensures in
    name_empty S.tells S.left S.faults c.args.node.0 c.args.todo c.args.builder.now c.next_name.new.builder c.args.tables.now c.next_name.new.tables c.args.cursor.now c.next_name.new.cursor c.in-Name.ensures c.in_ok-name-in-Name.name e.goes e.answers e.continues e.moves
    c.behind_pairs.result c.behind_pairs.ensures c.in-None.is

pub returns-in-None-clause-holds : goal.returns-in-None-clause-holds
returns-in-None-clause-holds g c =
    let S = g.S.Source in
    let e = c.in_ok-name-in-Name.ensures in
    name_opens S.tells S.left S.faults c.args.node.0 c.args.todo c.args.builder.now c.next_name.new.builder c.args.tables.now c.next_name.new.tables c.args.cursor.now c.next_name.new.cursor c.in-Name.ensures c.in_ok-name-in-Name.name e.goes e.answers e.continues e.moves
    c.requires.opened c.requires.ready.built c.requires.suits c.behind_pairs.result c.behind_pairs.ensures

pub returns-in-Value-clause-answers : goal.returns-in-Value-clause-answers
returns-in-Value-clause-answers g c =
    let S = g.S.Source in
    value_waits S.tells S.left S.faults c.args.node.0 c.args.todo c.args.builder.now c.args.tables.now c.args.cursor.now c.requires.ready.placed c.in-Value.role c.in-Value.rest c.in-Value.ensures

pub returns-in-Value-clause-holds : goal.returns-in-Value-clause-holds
returns-in-Value-clause-holds g c = value_holds c.args.node.0 c.args.todo c.args.builder.now c.in-Value.role c.in-Value.rest c.in-Value.ensures c.requires.suits

pub returns-in-Nothing-clause-answers : goal.returns-in-Nothing-clause-answers
returns-in-Nothing-clause-answers g c =
    let S = g.S.Source in
    closed_goes S.tells S.left S.faults c.args.node.0 c.args.todo c.args.builder.now c.args.tables.now c.args.cursor.now c.requires.ready.placed c.close_node.new.self c.close_node.ensures c.in-Nothing.ensures

pub returns-in-Nothing-clause-still_ready : goal.returns-in-Nothing-clause-still_ready
returns-in-Nothing-clause-still_ready g c = closed_still_ready c.args.node.0 c.args.todo c.args.builder.now c.close_node.new.self c.args.tables.now c.args.cursor.now c.requires.ready c.requires.opened c.requires.suits c.in-Nothing.ensures c.close_node.ensures

pub returns-in-Nothing-clause-holds : goal.returns-in-Nothing-clause-holds
returns-in-Nothing-clause-holds g c = closed_holds c.args.node.0 c.args.todo c.args.builder.now c.close_node.new.self c.args.tables.now c.args.cursor.now c.requires.ready c.requires.opened c.requires.suits c.in-Nothing.ensures c.close_node.ensures
