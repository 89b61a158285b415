use Rattle.std.proofs.Common.{refl, sym, subst}
use Rattle.amf3_write.specs.Writes.{IsReady}
use Rattle.amf3_write.proofs.Ready.{writes_from}
use Rattle.amf3_write.proofs.Wrote.{on_ok}
use Rattle.amf3_write.proofs.output.Output.text.Goals as goal

pub returns-clause-ok : goal.returns-clause-ok
returns-clause-ok c = on_ok c.settled_text.result (λ h. writes_from _ c.args.self.now _ c.settled_text.new.self c.settle_texts.ensures refl h) c.settled_text.ensures.ok

pub returns-clause-ready : goal.returns-clause-ready
returns-clause-ready c = λ a r. c.settled_text.ensures.ready a (subst (λ t. IsReady a t c.args.self.now.known) (sym c.settle_texts.ensures) r)
