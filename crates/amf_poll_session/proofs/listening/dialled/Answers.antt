-- The dial failed, had no memory, or gave a link, which was taken back.
use Rattle.std.proofs.Common.{◌+◌, [], ◌∷◌, refl}
use Rattle.amf_poll_session.specs.Sessions.{no_link}
use Rattle.amf_poll_session.proofs.Dials.{dial_failed, dial_starved, dial_gave}
use Rattle.amf_poll_session.proofs.listening.dialled.Goals as goal

pub returns-in_default-clause-dials : goal.returns-in_default-clause-dials
returns-in_default-clause-dials g c =
    let d1 = c.args.dial.now in
    let course = c.args.course.now in
    let code = c.args.session.now in
    let out = c.args.out.now in
    λ before s stands shows. (
      [],
      dial_starved g.D.Dial g.D.Link.Link course.port course.destination.now course.polls before d1 d1 d1 s stands code code (g.O.Sink.tells out) (g.O.Sink.held out)
          (record { tells = λ t. t; asked = λ t. refl; coming = λ t. refl; links = λ t. refl; counted = refl }),
    )

pub returns-in-Err-Failed-clause-dials : goal.returns-in-Err-Failed-clause-dials
returns-in-Err-Failed-clause-dials g c =
    let d1 = c.args.dial.now in
    let d2 = c.dial.new.self in
    let d = c.in-Err-Failed.ensures in
    let course = c.args.course.now in
    let code = c.args.session.now in
    let new = record code { spent = code.spent + 1 } in
    let out = c.args.out.now in
    λ before s stands shows. (
      no_link ∷ [],
      dial_failed g.D.Dial g.D.Link.Link course.port course.destination.now course.polls before d1 d2 d2 s stands code new (g.O.Sink.tells out) (g.O.Sink.held out)
          (record { request = refl; spent = refl; ds_id = refl; taker = refl; bytes = refl }) shows c.requires.ready c.requires.text c.requires.spent
          (record { tells = d.tells; asked = (rw c.in-Err-Failed.field-0-is at d.asked); coming = d.gives; links = d.back; counted = (rw c.in-Err-Failed.field-0-is at d.cause) }),
    )

pub returns-clause-dials : goal.returns-clause-dials
returns-clause-dials g c =
    let d1 = c.args.dial.now in
    let d2 = c.dial.new.self in
    let d = c.in-Err-Memory.ensures in
    let course = c.args.course.now in
    let code = c.args.session.now in
    let out = c.args.out.now in
    λ before s stands shows. (
      [],
      dial_starved g.D.Dial g.D.Link.Link course.port course.destination.now course.polls before d1 d2 d2 s stands code code (g.O.Sink.tells out) (g.O.Sink.held out)
          (record { tells = d.tells; asked = (rw c.in-Err-Memory.field-0-is at d.asked); coming = d.gives; links = d.back; counted = (rw c.in-Err-Memory.field-0-is at d.cause) }),
    )

pub returns-in-Ok-dial-clause-dials : goal.returns-in-Ok-dial-clause-dials
returns-in-Ok-dial-clause-dials g c =
    let d = c.in-Ok-dial.ensures in
    let b = c.back.ensures in
    let o = c.over_link-end.ensures in
    let course = c.args.course.now in
    let code = c.args.session.now in
    let mid = record code { spent = code.spent + 1 } in
    λ before s stands shows. dial_gave g.D.Dial g.D.Link.Link course.port course.destination.now course.polls before c.args.dial.now c.dial.new.self c.back.new.self s stands
    c.in-Ok-dial.link c.over_link-end.new.link code mid c.over_link-end.new.session (g.O.Sink.tells c.over_link-end.new.out) (g.O.Sink.held c.args.out.now) (g.O.Sink.held c.over_link-end.new.out) c.over_link-end.result
    (record { tells = d.tells; asked = d.asked; coming = d.gives; links = d.back; counted = d.cause; tells_back = b.tells; asked_back = b.asked; coming_back = b.coming; links_back = b.back; counted_so = b.cause })
    (record { request = refl; spent = refl; ds_id = refl; taker = refl; bytes = refl }) shows o.over
