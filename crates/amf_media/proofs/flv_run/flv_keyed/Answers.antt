-- Without memory for the window nothing is read and nothing written.
use Rattle.amf_media.proofs.FlvWhole.{runs_spent}
use Rattle.amf_media.proofs.flv_run.flv_keyed.Goals as goal

pub returns-in-Err-clause-runs : goal.returns-in-Err-clause-runs
returns-in-Err-clause-runs g c = λ y. runs_spent c.args.job (g.I.Source.left c.args.input.now) (g.O.Sink.tells c.args.out.now) (g.O.Sink.held c.args.out.now)
