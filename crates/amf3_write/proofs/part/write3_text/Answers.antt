use Rattle.std.proofs.Common.{subst}
use Rattle.amf_graph.specs.Arena.{text_at}
use Rattle.amf3_spelling.specs.Tables.{Tables}
use Rattle.amf3_write.specs.Written.{AppendsText}
use Rattle.amf3_write.proofs.Wrote.{on_ok}
use Rattle.amf3_write.proofs.part.write3_text.Goals as goal

pub returns-clause-written : goal.returns-clause-written
returns-clause-written c =
    on_ok c.write_text-result.result (λ h. subst (λ (t : Tables). AppendsText (text_at c.args.graph.now.arena c.args.text.0) t c.write_text-result.new.tables.tables c.args.out.now.items c.write_text-result.new.out.items) c.in_ok-own.ensures.tables h) c.write_text-result.ensures.written
