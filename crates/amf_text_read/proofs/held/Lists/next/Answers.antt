-- What is no token.
use Rattle.amf_text_read.specs.Lists.{held_of}
use Rattle.amf_text_read.proofs.BadNext.{bad_next}
use Rattle.amf_text_read.proofs.held.Lists.next.Goals as goal

pub returns-in-Bad : goal.returns-in-Bad
returns-in-Bad c = λ gs. rw c.in-Bad.is (bad_next (held_of c.args.self.now) c.args.goal gs)
