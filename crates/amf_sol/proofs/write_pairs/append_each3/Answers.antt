use Rattle.std.proofs.Common.{◌<◌, length, arith}
use Rattle.amf_graph.specs.declared.value.Value.TheVariants.{Undefined}
use Rattle.amf_graph.specs.Rooted.{content}
use Rattle.amf0_write.proofs.ShortNames.{pair_there}
use Rattle.amf_sol.specs.declared.sol_version.SolVersion.TheVariants.{Amf3}
use Rattle.amf_sol.specs.FileLacks.{IsHolderLack}
use Rattle.amf_sol.proofs.FileWrites.{handed_on}
use Rattle.amf_sol.proofs.HolderLacks3.{none_written3}
use Rattle.amf_sol.proofs.PairSteps.{reached_at, step3, lack3, end3}
use Rattle.amf_sol.proofs.write_pairs.append_each3.Goals as goal

pub append_pair3-requires-clause-name : goal.append_pair3-requires-clause-name
append_pair3-requires-clause-name c = let within : c.loop-pair.pair-index < length c.args.pairs.now = omega arith in (pair_there c.args.graph.now.arena c.args.pairs.now c.loop-pair.pair-index _ c.requires.names within).0

pub append_pair3-requires-clause-value : goal.append_pair3-requires-clause-value
append_pair3-requires-clause-value c = let within : c.loop-pair.pair-index < length c.args.pairs.now = omega arith in (pair_there c.args.graph.now.arena c.args.pairs.now c.loop-pair.pair-index _ c.requires.names within).1

pub append_pair3-requires-clause-reached : goal.append_pair3-requires-clause-reached
append_pair3-requires-clause-reached c =
    let within : c.loop-pair.pair-index < length c.args.pairs.now = omega arith in
    let o = c.requires.holder in
    reached_at c.args.graph.now o.0 o.1 c.args.pairs.now (c.requires.content o.0 o.1) c.loop-pair.pair-index _ within

pub append_pair3-requires-clause-tables : goal.append_pair3-requires-clause-tables
append_pair3-requires-clause-tables c = c.loop-pair.invariant.tables

pub loop-pair-init : goal.loop-pair-init
loop-pair-init c = record {
  tables = c.requires.tables;
  written = λ h holder. none_written3 (content c.args.graph.now) h holder c.args.tables.now.tables c.args.out.now.items c.requires.empty;
}

pub loop-pair-preserved : goal.loop-pair-preserved
loop-pair-preserved c =
    let within : c.loop-pair.pair-index < length c.args.pairs.now = omega arith in
    record {
      tables = c.in_ok-append_pair3.ensures.tables;
      written = λ h holder. step3 c.args.graph.now h holder c.args.pairs.now (c.requires.content h holder) c.loop-pair.pair-index (record { 0 = 0 }, Undefined) c.loop-pair.tables.tables c.append_pair3.new.tables.tables c.args.out.now.items c.loop-pair.out.items c.append_pair3.new.out.items within (c.loop-pair.invariant.written h holder) c.in_ok-append_pair3.ensures.written;
    }

pub returns-in_err-append_pair3-clause-lack : goal.returns-in_err-append_pair3-clause-lack
returns-in_err-append_pair3-clause-lack c =
    let within : c.loop-pair.pair-index < length c.args.pairs.now = omega arith in
    let o = c.requires.holder in
    let r = c.from_residual in
    handed_on (λ l. IsHolderLack Amf3 (content c.args.graph.now) l.node l.kind) c.in_err-append_pair3.field-0.0 r.result r.ensures.1
    (λ l e. lack3 c.args.graph.now o.0 o.1 c.args.pairs.now (c.requires.content o.0 o.1) c.loop-pair.pair-index (record { 0 = 0 }, Undefined) c.loop-pair.tables.tables c.args.out.now.items c.loop-pair.out.items within (c.loop-pair.invariant.written o.0 o.1) l.node l.kind (c.in_err-append_pair3.ensures.lack l e))

pub returns-clause-written : goal.returns-clause-written
returns-clause-written c =
    let o = c.requires.holder in
    end3 c.args.graph.now o.0 o.1 c.args.pairs.now (c.requires.content o.0 o.1) c.loop-pair.pair-index c.loop-pair.tables.tables c.args.out.now.items c.loop-pair.out.items (omega arith) (c.loop-pair.invariant.written o.0 o.1)
