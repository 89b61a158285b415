-- The answer is taken, what is new is written, and the session goes on.
use Rattle.amf_poll_session.proofs.Steps.{went_so, went_not, not_put}
use Rattle.amf_poll_session.proofs.over_link.answered.Goals as goal

pub returns-in-Ok-go_on-clause-goes_on : goal.returns-in-Ok-go_on-clause-goes_on
returns-in-Ok-go_on-clause-goes_on g c =
    let t = c.take-is_new.ensures in
    went_so c.args.course.now.port c.args.course.now.destination.now c.args.course.now.polls c.args.session.now c.take-is_new.new.self c.go_on.new.self c.args.heard.ds_id
    c.go_on.result c.in-Ok-go_on.more c.in-Ok-go_on.is (record { request = t.request; taker = t.taker; ds_id = t.ds_id }) c.go_on.ensures

pub returns-in-Err-go_on-clause-goes_on : goal.returns-in-Err-go_on-clause-goes_on
returns-in-Err-go_on-clause-goes_on g c =
    let t = c.take-is_new.ensures in
    went_not c.args.course.now.port c.args.course.now.destination.now c.args.course.now.polls c.args.session.now c.take-is_new.new.self c.go_on.new.self c.args.heard.ds_id
    c.go_on.result _ c.in-Err-go_on.is (record { request = t.request; taker = t.taker; ds_id = t.ds_id }) c.go_on.ensures

pub returns-in-Err-clause-goes_on : goal.returns-in-Err-clause-goes_on
returns-in-Err-clause-goes_on g c =
    not_put c.args.course.now.port c.args.course.now.destination.now c.args.course.now.polls c.args.session.now c.take-is_new.new.self c.take-is_new.new.self c.args.heard.ds_id
    c.in-Err.end c.take-is_new.result c.put_new.result c.in-Err.is c.put_new.ensures.ends c.take-is_new.ensures.new
