-- The bytes were made, and written or not.
use Rattle.std.proofs.Common.{◌≡◌, ◌++◌, subst}
use Rattle.std.proofs.lemmas.Result.{err_from_is_err_and}
use Rattle.amf_io.specs.Written.{WritesFront}
use Rattle.amf_bytes.proofs.MeantBytes.{decides}
use Rattle.amf_bytes.proofs.RunsOfTexts.{end_runs}
use Rattle.amf_bytes.proofs.run.write_bytes.Goals as goal

pub returns-in_err-bytes-clause-runs : goal.returns-in_err-bytes-clause-runs
returns-in_err-bytes-clause-runs g c = λ told.
    let p = err_from_is_err_and c.from_residual.result c.from_residual.ensures.1 in
    rw (p.1, p.2) (end_runs (g.I.Source.left c.args.input.now) (g.I.Source.left c.output_of.new.input) (g.O.Sink.tells c.args.out.now) (g.O.Sink.held c.args.out.now) (g.O.Sink.held c.args.out.now) c.in_err-bytes.field-0.0 (c.in_err-bytes.ensures.makes told))

pub returns-in-Ok-clause-runs : goal.returns-in-Ok-clause-runs
returns-in-Ok-clause-runs g c = λ told.
    let r = c.in_ok-bytes.ensures.makes told in
    record {
      bytes = c.in_ok-bytes.bytes.items;
      made = r.0;
      decides = decides (g.I.Source.left c.args.input.now) c.in_ok-bytes.bytes.items r.0;
      all_read = r.1;
      written = λ t. subst (λ l. g.O.Sink.held c.write_whole.new.sink ≡ g.O.Sink.held c.args.out.now ++ l) c.deref.ensures.value (c.in-Ok.ensures.writes t);
    }

pub returns-clause-runs : goal.returns-clause-runs
returns-clause-runs g c = λ told.
    let r = c.in_ok-bytes.ensures.makes told in
    record {
      bytes = c.in_ok-bytes.bytes.items;
      made = r.0;
      decides = decides (g.I.Source.left c.args.input.now) c.in_ok-bytes.bytes.items r.0;
      all_read = r.1;
      written = λ t. subst (λ l. WritesFront (g.O.Sink.held c.args.out.now) (g.O.Sink.held c.write_whole.new.sink) l) c.deref.ensures.value (c.in-Err.ensures.writes t);
    }
