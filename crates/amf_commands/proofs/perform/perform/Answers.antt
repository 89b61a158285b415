use Rattle.std.proofs.Common.{◌≡◌, ◌++◌, subst}
use Rattle.amf_io.specs.Written.{WritesFront}
use Rattle.amf_commands.proofs.Spelled.{decides}
use Rattle.amf_commands.proofs.perform.perform.Goals as goal

pub returns-in-Ok-clause-runs : goal.returns-in-Ok-clause-runs
returns-in-Ok-clause-runs g c = λ told.
    let r = c.in_ok-bytes.ensures.reads told in
    record {
      bytes = c.in_ok-bytes.bytes.items;
      made = r.0;
      decides = decides c.args.command (g.I.Source.left c.args.input.now) c.in_ok-bytes.bytes.items r.0;
      all_read = r.1;
      written = λ t. subst (λ l. g.O.Sink.held c.write_whole.new.sink ≡ g.O.Sink.held c.args.out.now ++ l) c.deref.ensures.value (c.in-Ok.ensures.writes t);
    }

pub returns-clause-runs : goal.returns-clause-runs
returns-clause-runs g c = λ told.
    let r = c.in_ok-bytes.ensures.reads told in
    record {
      bytes = c.in_ok-bytes.bytes.items;
      made = r.0;
      decides = decides c.args.command (g.I.Source.left c.args.input.now) c.in_ok-bytes.bytes.items r.0;
      all_read = r.1;
      written = λ t. subst (λ l. WritesFront (g.O.Sink.held c.args.out.now) (g.O.Sink.held c.write_whole.new.sink) l) c.deref.ensures.value (c.in-Err.ensures.writes t);
    }
