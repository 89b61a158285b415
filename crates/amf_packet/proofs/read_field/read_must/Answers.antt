use Rattle.amf_packet.proofs.FieldReads.{must_reads, must_stays}
use Rattle.amf_packet.proofs.read_field.read_must.Goals as goal

pub returns-clause-reads : goal.returns-clause-reads
returns-clause-reads g c = let S = g.S.Source in must_reads S.tells S.left S.faults c.args.cursor.now c.read_flag.new.cursor c.read_flag.result c.read_flag.ensures.answers

pub returns-clause-stays : goal.returns-clause-stays
returns-clause-stays g c = let S = g.S.Source in must_stays S.tells S.left S.faults c.args.cursor.now c.read_flag.new.cursor c.read_flag.result c.read_flag.ensures.answers
