use Rattle.amf_media.proofs.StreamEnds.{stream_file_end, stream_reads, stream_writes, lists_stream, rechunks_stream}
use Rattle.amf_media.proofs.rtmp_run.rtmp_keyed.Goals as goal

pub returns-in-None-clause-runs : goal.returns-in-None-clause-runs
returns-in-None-clause-runs g c = λ x.
    let I = g.I.Source in
    let O = g.O.Sink in
    let p = c.pass_over.new.out in
    lists_stream c.pass_over.result c.end_of.result c.end_of.ensures c.args.size (I.left c.args.input.now) (I.left c.pass_over.new.input) (O.tells p) (O.held c.args.out.now) (O.held p) c.in-None.is (c.pass_over.ensures.passes x)

pub returns-in-None-clause-ends : goal.returns-in-None-clause-ends
returns-in-None-clause-ends g c = stream_file_end c.pass_over.result c.end_of.result c.end_of.ensures

pub returns-in-None-clause-reads : goal.returns-in-None-clause-reads
returns-in-None-clause-reads g c = stream_reads c.pass_over.result c.end_of.result c.end_of.ensures (g.I.Source.faults c.args.input.now) (g.I.Source.faults c.pass_over.new.input) c.pass_over.ensures.reads

pub returns-in-None-clause-writes : goal.returns-in-None-clause-writes
returns-in-None-clause-writes g c = stream_writes c.pass_over.result c.end_of.result c.end_of.ensures (g.O.Sink.faults c.args.out.now) (g.O.Sink.faults c.pass_over.new.out) c.pass_over.ensures.writes

pub returns-in-Some-clause-runs : goal.returns-in-Some-clause-runs
returns-in-Some-clause-runs g c = λ x.
    let I = g.I.Source in
    let O = g.O.Sink in
    let p = c.rechunk.new.out in
    rechunks_stream c.rechunk.result c.end_of-in-Some.result c.end_of-in-Some.ensures c.args.size (I.left c.args.input.now) (I.left c.rechunk.new.input) (O.tells p) (O.held c.args.out.now) (O.held p) c.in-Some.size c.in-Some.is (c.rechunk.ensures.passes x)

pub returns-in-Some-clause-ends : goal.returns-in-Some-clause-ends
returns-in-Some-clause-ends g c = stream_file_end c.rechunk.result c.end_of-in-Some.result c.end_of-in-Some.ensures

pub returns-in-Some-clause-reads : goal.returns-in-Some-clause-reads
returns-in-Some-clause-reads g c = stream_reads c.rechunk.result c.end_of-in-Some.result c.end_of-in-Some.ensures (g.I.Source.faults c.args.input.now) (g.I.Source.faults c.rechunk.new.input) c.rechunk.ensures.reads

pub returns-in-Some-clause-writes : goal.returns-in-Some-clause-writes
returns-in-Some-clause-writes g c = stream_writes c.rechunk.result c.end_of-in-Some.result c.end_of-in-Some.ensures (g.O.Sink.faults c.args.out.now) (g.O.Sink.faults c.rechunk.new.out) c.rechunk.ensures.writes
