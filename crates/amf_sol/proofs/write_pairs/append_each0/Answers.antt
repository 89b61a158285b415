use Rattle.std.proofs.Common.{◌<◌, length, ap, ◌∙◌, arith}
use Rattle.amf_graph.specs.declared.value.Value.TheVariants.{Undefined}
use Rattle.amf_graph.specs.Rooted.{content}
use Rattle.amf3_spelling.specs.Tables.{Tables, add_done}
use Rattle.amf0_write.proofs.ShortNames.{pair_there}
use Rattle.amf0_write.specs.PartLacks0.{LacksOutside}
use Rattle.amf_sol.proofs.FileWrites.{handed_on}
use Rattle.amf_sol.proofs.PairSteps.{reached_at, begin0, step0, lack0, end0}
use Rattle.amf_sol.proofs.write_pairs.append_each0.Goals as goal

pub append_pair0-requires-clause-name : goal.append_pair0-requires-clause-name
append_pair0-requires-clause-name c = let within : c.loop-pair.pair-index < length c.args.pairs.now = omega arith in (pair_there c.args.low.now.arena c.args.pairs.now c.loop-pair.pair-index _ c.requires.names within).0

pub append_pair0-requires-clause-value : goal.append_pair0-requires-clause-value
append_pair0-requires-clause-value c = let within : c.loop-pair.pair-index < length c.args.pairs.now = omega arith in (pair_there c.args.low.now.arena c.args.pairs.now c.loop-pair.pair-index _ c.requires.names within).1

pub append_pair0-requires-clause-reached : goal.append_pair0-requires-clause-reached
append_pair0-requires-clause-reached c =
    let within : c.loop-pair.pair-index < length c.args.pairs.now = omega arith in
    let o = c.requires.holder in
    reached_at c.args.low.now o.0 o.1 c.args.pairs.now (c.requires.content o.0 o.1) c.loop-pair.pair-index _ within

pub append_pair0-requires-clause-tables : goal.append_pair0-requires-clause-tables
append_pair0-requires-clause-tables c = let o = c.requires.holder in let w = c.loop-pair.invariant o.0 o.1 in w.tables

pub loop-pair-init : goal.loop-pair-init
loop-pair-init c = λ h holder.
    begin0 c.args.low.now h holder c.args.pairs.now (c.requires.content h holder) c.holder_of.result.0 c.add_done.new.self c.args.out.now.items c.is_finished.ensures.finished c.is_finished.ensures.names c.holder_of.ensures.holder
    (c.in_ok-add_done.ensures.ok ∙ ap (λ (t : Tables). add_done t c.holder_of.result.0) c.requires.empty)

pub loop-pair-preserved : goal.loop-pair-preserved
loop-pair-preserved c = λ h holder.
    let within : c.loop-pair.pair-index < length c.args.pairs.now = omega arith in
    step0 c.args.low.now h holder c.args.pairs.now (c.requires.content h holder) c.loop-pair.pair-index (record { 0 = 0 }, Undefined) c.loop-pair.tables c.append_pair0.new.tables c.args.out.now.items c.loop-pair.out.items c.append_pair0.new.out.items within (c.loop-pair.invariant h holder) c.in_ok-append_pair0.ensures.tables c.in_ok-append_pair0.ensures.written

pub returns-in_err-append_pair0-clause-lack : goal.returns-in_err-append_pair0-clause-lack
returns-in_err-append_pair0-clause-lack c =
    let within : c.loop-pair.pair-index < length c.args.pairs.now = omega arith in
    let o = c.requires.holder in
    let r = c.from_residual-in_err-append_pair0 in
    handed_on (λ l. LacksOutside (content c.args.low.now) 1 l.node l.kind) c.in_err-append_pair0.field-0.0 r.result r.ensures.1
    (λ l e. lack0 c.args.low.now o.0 o.1 c.args.pairs.now (c.requires.content o.0 o.1) c.loop-pair.pair-index (record { 0 = 0 }, Undefined) c.loop-pair.tables c.args.out.now.items c.loop-pair.out.items within (c.loop-pair.invariant o.0 o.1) l.node l.kind (c.in_err-append_pair0.ensures.lack l e))

pub returns-clause-written : goal.returns-clause-written
returns-clause-written c =
    let o = c.requires.holder in
    end0 c.args.low.now o.0 o.1 c.args.pairs.now (c.requires.content o.0 o.1) c.loop-pair.pair-index c.loop-pair.tables c.args.out.now.items c.loop-pair.out.items (omega arith) (c.loop-pair.invariant o.0 o.1)
