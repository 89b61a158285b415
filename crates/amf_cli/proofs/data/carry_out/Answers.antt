-- A command without an input is carried out over an input that has nothing.
use Rattle.std.proofs.Common.{[]}
use Rattle.amf_cli.proofs.NoInputLaws.{gen_takes_none, version_takes_none, reads_of_none, runs_of_none, takes_unless}
use Rattle.amf_cli.proofs.data.carry_out.Goals as goal

pub returns-in-Gen-clause-runs : goal.returns-in-Gen-clause-runs
returns-in-Gen-clause-runs g c = λ t.
    let left = g.I.Source.left c.args.input.now in
    runs_of_none c.args.command (gen_takes_none c.args.command c.in-Gen.seed c.in-Gen.size c.in-Gen.is) [] [] left left (g.O.Sink.tells c.perform.new.out) (g.O.Sink.held c.args.out.now) (g.O.Sink.held c.perform.new.out) c.perform.result
    c.perform.ensures.reading c.perform.ensures.alone (c.perform.ensures.runs tt)

pub returns-in-Gen-clause-reads : goal.returns-in-Gen-clause-reads
returns-in-Gen-clause-reads g c = reads_of_none c.args.command (gen_takes_none c.args.command c.in-Gen.seed c.in-Gen.size c.in-Gen.is) (g.I.Source.faults c.args.input.now) c.perform.result c.perform.ensures.reading

pub returns-in-Version-clause-runs : goal.returns-in-Version-clause-runs
returns-in-Version-clause-runs g c = λ t.
    let left = g.I.Source.left c.args.input.now in
    runs_of_none c.args.command (version_takes_none c.args.command c.in-Version.is) [] [] left left (g.O.Sink.tells c.perform-in-Version.new.out) (g.O.Sink.held c.args.out.now) (g.O.Sink.held c.perform-in-Version.new.out) c.perform-in-Version.result
    c.perform-in-Version.ensures.reading c.perform-in-Version.ensures.alone (c.perform-in-Version.ensures.runs tt)

pub returns-in-Version-clause-reads : goal.returns-in-Version-clause-reads
returns-in-Version-clause-reads g c = reads_of_none c.args.command (version_takes_none c.args.command c.in-Version.is) (g.I.Source.faults c.args.input.now) c.perform-in-Version.result c.perform-in-Version.ensures.reading

pub returns-in_default-clause-runs : goal.returns-in_default-clause-runs
returns-in_default-clause-runs g c = λ t. c.perform-in_default.ensures.runs (t (takes_unless c.args.command c.in_default.not-Gen c.in_default.not-Version))
