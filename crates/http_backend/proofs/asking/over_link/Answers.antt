use Rattle.http_backend.proofs.Exchanging.{replied}
use Rattle.http_backend.proofs.asking.over_link.Goals as goal

pub returns-in-Ok-read_reply-clause-exchanged : goal.returns-in-Ok-read_reply-clause-exchanged
returns-in-Ok-read_reply-clause-exchanged g c =
    let s = c.in-Ok.ensures in let d = c.in-Ok-read_reply.ensures in
    replied g.L.Link c.args.link.now c.send.new.link c.read_reply.new.link c.args.question.now c.in-Ok-read_reply.reply
    (record { told = s.tells; held = s.sends; writes = s.cause; side = s.other_side; reads = s.other_count })
    (record { reads = d.reads; cause = d.cause; side = d.other_side; writes = d.other_count })
