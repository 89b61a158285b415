use Rattle.amf_tables.proofs.WrittenEntries.{written_found, rest_found, text_as_before}
use Rattle.amf_tables.proofs.writer_tables.WriterTables.place_or_add_text.Goals as goal

pub invariant_of-self : goal.invariant_of-self
invariant_of-self c = written_found c.place_or_push.result c.self.inside.texts c.args.bytes.now c.place_or_push.new.self c.self.inside.traits c.place_or_push.ensures.ok c.place_or_push.ensures.err c.self.invariant

pub returns-clause-ok : goal.returns-clause-ok
returns-clause-ok c = rw (← c.self.view_is) c.place_or_push.ensures.ok

pub returns-clause-rest : goal.returns-clause-rest
returns-clause-rest c = rest_found c.place_or_push.result c.self.inside.texts c.args.bytes.now c.place_or_push.new.self c.self.inside.traits c.self.inside.nodes c.args.self.now c.place_or_push.ensures.ok c.place_or_push.ensures.err c.self.invariant c.self.view_is

pub returns-clause-err : goal.returns-clause-err
returns-clause-err c = text_as_before c.place_or_push.result c.self.inside.texts c.place_or_push.new.self c.self.inside.traits c.self.inside.nodes c.args.self.now c.place_or_push.ensures.err c.self.view_is
