use Rattle.amf_tables.proofs.writer_tables.WriterTables.is_done.Goals as goal

pub returns : goal.returns
returns c = rw (← c.self.view_is) c.is_alone.ensures
