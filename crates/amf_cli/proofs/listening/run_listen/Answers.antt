-- The gateway was listened to, and its end told.
use Rattle.amf_poll_session.proofs.Bounds.{every_session}
use Rattle.amf_cli.specs.ListenEnds.{heard}
use Rattle.amf_cli.proofs.ListenLaws.{writes_for}
use Rattle.amf_cli.proofs.listening.run_listen.Goals as goal

pub returns-clause-ends : goal.returns-clause-ends
returns-clause-ends g c =
    let l = rw c.from-polls.ensures at c.listen_keyed-end.ensures.listened in
    heard (record {
      turns = l.0;
      end = c.listen_keyed-end.result;
      listened = l.1;
      lawful = every_session c.args.options.now.polls l.0;
      ends = l.2;
      numbered = c.listen_keyed-end.ensures.numbered;
      wrote = l.3;
      tells = c.tell_end.ensures.tells;
    })

pub returns-clause-writes : goal.returns-clause-writes
returns-clause-writes g c = writes_for g.E.Sink c.args.err.now c.tell_end.new.err c.listen_keyed-end.result c.tell_end.result _ _ c.tell_end.ensures.tells c.listen_keyed-end.ensures.output
