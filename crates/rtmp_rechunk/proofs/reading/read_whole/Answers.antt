use Rattle.amf_io.specs.Cursor.{source_of, unread}
use Rattle.rtmp_rechunk.specs.Reads.{PutAll, PutSome}
use Rattle.rtmp_rechunk.specs.Ends.{reading}
use Rattle.rtmp_rechunk.proofs.Places.{taken_by}
use Rattle.rtmp_rechunk.proofs.Rests.{source_left, counted}
use Rattle.rtmp_rechunk.proofs.reading.read_whole.Goals as goal

pub returns-clause-passes : goal.returns-clause-passes
returns-clause-passes g c = λ x.
    let H = g.H.Handler in
    let S = g.S.Source in
    let O = g.O.Sink in
    let h = c.args.handler.now in
    let o = c.args.out.now in
    let p = c.read_all.new.out in
    source_left (H.begins h) (H.says h) (H.ends h) (unread S.left c.args.cursor.now) S.left c.read_all.new.cursor (PutAll (O.tells p) (O.held o) (O.held p) c.read_all.new.waiting.items) (PutSome (O.tells p) (O.held o) (O.held p)) c.read_all.result c.read_all.ensures.goes.none_ahead
    (c.read_all.ensures.passes x)

pub returns-clause-reads : goal.returns-clause-reads
returns-clause-reads g c = counted (g.S.Source.faults (source_of c.args.cursor.now).now) (g.S.Source.faults (source_of c.read_all.new.cursor).now) c.read_all.result c.read_all.ensures.goes.cause

pub returns-clause-taken : goal.returns-clause-taken
returns-clause-taken g c = λ x.
    let S = g.S.Source in
    taken_by S.tells S.left S.faults c.args.cursor.now c.read_all.new.cursor (reading c.read_all.result) c.requires.start c.requires.limit c.read_all.ensures.goes x
