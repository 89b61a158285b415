use Rattle.std.proofs.Common.{IfOk, sym, subst}
use Rattle.amf_graph.specs.Rooted.{content}
use Rattle.amf_commands.specs.Content.{value}
use Rattle.amf_commands.specs.Formats.{IsWritten, IsUnwritten}
use Rattle.amf_commands.proofs.Formats.{as_written, as_unwritten}
use Rattle.amf_commands.proofs.spelling.spell_graph.Goals as goal

pub returns-in-Amf3-clause-written : goal.returns-in-Amf3-clause-written
returns-in-Amf3-clause-written c = as_written (λ v. v.items) c.args.to (content c.args.graph.now) c.spell3.result c.in-Amf3.is c.spell3.ensures.written

pub returns-in-Amf3-clause-lack : goal.returns-in-Amf3-clause-lack
returns-in-Amf3-clause-lack c = λ l is. as_unwritten c.args.to (content c.args.graph.now) l c.in-Amf3.is (c.spell3.ensures.lack l is)

pub returns-in-Amf0-clause-written : goal.returns-in-Amf0-clause-written
returns-in-Amf0-clause-written c = subst (λ to. IfOk c.spell0.result (λ bytes. IsWritten to (value (content c.args.graph.now)) bytes.items)) (sym c.in-Amf0.is) c.spell0.ensures.written

pub returns-in-Amf0-clause-lack : goal.returns-in-Amf0-clause-lack
returns-in-Amf0-clause-lack c = λ l is. subst (λ to. IsUnwritten to (value (content c.args.graph.now)) 0 l) (sym c.in-Amf0.is) (c.spell0.ensures.lack l is)
