-- A command of data was done, or links were served, or a call was made, or a gateway was listened to.
use Rattle.std.proofs.Common.{Err, inl, inr, refl, ap, ◌∙◌}
use Rattle.amf_commands.specs.declared.command.Task.TheVariants.{Serve, Call, Listen}
use Rattle.amf_commands.proofs.Asked.{asked_possible, call_is_no_serving, listener_is_no_call, listener_is_no_serving}
use Rattle.amf_cli.proofs.CallLaws.{call_calls, call_ends, call_not_6, calls_from, data_calls, link_calls}
use Rattle.amf_cli.proofs.EndsLaws.{serving_ends}
use Rattle.amf_cli.proofs.FrontLaws.{data_serves, links_serve, serves_from, ends_from}
use Rattle.amf_cli.proofs.ListenLaws.{data_listens, listen_calls, listen_ends, listen_listens, listen_not_6, listens_from, other_listens}
use Rattle.amf_cli.proofs.run.run.Goals as goal

pub serve_links-end-requires-after_bounds : goal.serve_links-end-requires-after_bounds
serve_links-end-requires-after_bounds g c κs within = asked_possible c.args.words.now (Serve c.in-Err-Serve.options) (c.run_data.ensures.serves c.in-Err-Serve.options (c.in-Err-Serve.is ∙ ap Err c.in-Err-Serve.field-0-is))

pub run_call-requires-clause-callable : goal.run_call-requires-clause-callable
run_call-requires-clause-callable g c = asked_possible c.args.words.now (Call c.in-Err-Call.options) (c.run_data.ensures.calls c.in-Err-Call.options (c.in-Err-Call.is ∙ ap Err c.in-Err-Call.field-0-is))

pub run_listen-requires-clause-listenable : goal.run_listen-requires-clause-listenable
run_listen-requires-clause-listenable g c = asked_possible c.args.words.now (Listen c.in-Err-Listen.options) (c.run_data.ensures.listens c.in-Err-Listen.options (c.in-Err-Listen.is ∙ ap Err c.in-Err-Listen.field-0-is))

pub returns-in-Ok-clause-serves : goal.returns-in-Ok-clause-serves
returns-in-Ok-clause-serves g c = data_serves _ _ _ _ _ _ _ _ _ _ c.are_lawful.ensures (λ s. let z = c.in-Ok.ensures.data.0 (inl s) in (z.0, z.1.0)) c.in-Ok.ensures.data.1

pub returns-in-Ok-clause-calls : goal.returns-in-Ok-clause-calls
returns-in-Ok-clause-calls g c =
    data_calls g.I.Source g.O.Sink g.E.Sink g.D.Dial g.D.Link.Link c.args.words.now _ c.args.input.now c.run_data.new.input c.args.out.now c.run_data.new.out c.args.err.now c.run_data.new.err c.args.dial.now
    c.in-Ok.ensures.ends.of_peer (λ k. c.in-Ok.ensures.data.0 (inr k))

pub returns-in-Ok-clause-listens : goal.returns-in-Ok-clause-listens
returns-in-Ok-clause-listens g c =
    data_listens g.I.Source g.O.Sink g.E.Sink g.D.Dial g.D.Link.Link c.args.words.now _ c.args.input.now c.args.out.now c.run_data.new.out c.args.err.now c.run_data.new.err c.args.dial.now
    (λ k. c.in-Ok.ensures.data.0 (inr (inr k)))

pub returns-in-Err-Serve-clause-ends : goal.returns-in-Err-Serve-clause-ends
returns-in-Err-Serve-clause-ends g c =
    let same = c.in-Err-Serve.ensures.untouched in
    let w = c.run_data.ensures.serves c.in-Err-Serve.options (c.in-Err-Serve.is ∙ ap Err c.in-Err-Serve.field-0-is) in
    ends_from g.I.Source g.O.Sink g.E.Sink c.args.words.now _ c.args.input.now c.run_data.new.input c.run_data.new.input c.args.out.now c.run_data.new.out c.serve_links-end.new.out c.args.err.now c.run_data.new.err c.status_with.new.err
    same.0 same.1 same.2
    (serving_ends g.I.Source g.O.Sink g.E.Sink c.args.words.now c.run_data.new.input c.run_data.new.input c.run_data.new.out c.serve_links-end.new.out c.run_data.new.err c.status_with.new.err
    c.in-Err-Serve.options w c.serve_links-end.result _ c.status_with.ensures.status c.serve_links-end.ensures.ends refl c.serve_links-end.ensures.writes c.status_with.ensures.counted c.status_with.ensures.line)

pub returns-in-Err-Serve-clause-serves : goal.returns-in-Err-Serve-clause-serves
returns-in-Err-Serve-clause-serves g c =
    let w = c.run_data.ensures.serves c.in-Err-Serve.options (c.in-Err-Serve.is ∙ ap Err c.in-Err-Serve.field-0-is) in
    serves_from _ _ _ _ _ _ _ _ _ c.args.out.now c.run_data.new.out _ c.in-Err-Serve.ensures.untouched.1
    (links_serve _ _ _ _ _ c.args.words.now c.in-Err-Serve.options w c.serve_links-end.result _ _ _ c.run_data.new.out _ c.status_with.ensures.status c.serve_links-end.ensures.served c.are_lawful.ensures c.serve_links-end.ensures.ends c.serve_links-end.ensures.faults)

pub returns-in-Err-Serve-clause-calls : goal.returns-in-Err-Serve-clause-calls
returns-in-Err-Serve-clause-calls g c =
    let same = c.in-Err-Serve.ensures.untouched in
    let w = c.run_data.ensures.serves c.in-Err-Serve.options (c.in-Err-Serve.is ∙ ap Err c.in-Err-Serve.field-0-is) in
    calls_from g.I.Source g.O.Sink g.E.Sink g.D.Dial g.D.Link.Link c.args.words.now _ c.args.input.now c.run_data.new.input c.run_data.new.input c.args.out.now c.run_data.new.out c.serve_links-end.new.out c.args.err.now c.run_data.new.err c.status_with.new.err c.args.dial.now c.args.dial.now
    same.0 same.1 same.2
    (link_calls g.I.Source g.O.Sink g.E.Sink g.D.Dial g.D.Link.Link c.args.words.now _ c.run_data.new.input c.run_data.new.input c.run_data.new.out c.serve_links-end.new.out c.run_data.new.err c.status_with.new.err c.args.dial.now (c.in-Err-Serve.options, w)
    (serving_ends g.I.Source g.O.Sink g.E.Sink c.args.words.now c.run_data.new.input c.run_data.new.input c.run_data.new.out c.serve_links-end.new.out c.run_data.new.err c.status_with.new.err
    c.in-Err-Serve.options w c.serve_links-end.result _ c.status_with.ensures.status c.serve_links-end.ensures.ends refl c.serve_links-end.ensures.writes c.status_with.ensures.counted c.status_with.ensures.line))

pub returns-in-Err-Call-clause-ends : goal.returns-in-Err-Call-clause-ends
returns-in-Err-Call-clause-ends g c =
    let same = c.in-Err-Call.ensures.untouched in
    let w = c.run_data.ensures.calls c.in-Err-Call.options (c.in-Err-Call.is ∙ ap Err c.in-Err-Call.field-0-is) in
    ends_from g.I.Source g.O.Sink g.E.Sink c.args.words.now _ c.args.input.now c.run_data.new.input c.run_call.new.input c.args.out.now c.run_data.new.out c.run_call.new.out c.args.err.now c.run_data.new.err c.run_call.new.err
    same.0 same.1 same.2
    (call_ends g.I.Source g.O.Sink g.E.Sink g.D.Dial g.D.Link.Link c.args.words.now _ c.run_data.new.input c.run_call.new.input c.run_data.new.out c.run_call.new.out c.run_data.new.err c.run_call.new.err c.args.dial.now c.run_call.new.dial
    c.in-Err-Call.options w c.run_call.ensures.ends c.run_call.ensures.counts c.run_call.ensures.taken)

pub returns-in-Err-Call-clause-serves : goal.returns-in-Err-Call-clause-serves
returns-in-Err-Call-clause-serves g c =
    let same = c.in-Err-Call.ensures.untouched in
    let w = c.run_data.ensures.calls c.in-Err-Call.options (c.in-Err-Call.is ∙ ap Err c.in-Err-Call.field-0-is) in
    serves_from _ _ _ _ _ _ _ _ _ c.args.out.now c.run_data.new.out _ same.1
    (data_serves _ _ _ _ _ c.args.words.now _ c.args.front.now c.run_data.new.out c.run_call.new.out c.are_lawful.ensures (λ s. absurd (call_is_no_serving c.args.words.now s (c.in-Err-Call.options, w)))
    (call_not_6 g.I.Source g.O.Sink g.E.Sink g.D.Dial g.D.Link.Link c.args.words.now _ c.run_data.new.input c.run_call.new.input c.run_data.new.out c.run_call.new.out c.run_data.new.err c.run_call.new.err c.args.dial.now c.run_call.new.dial
    c.in-Err-Call.options w c.run_call.ensures.ends))

pub returns-in-Err-Call-clause-calls : goal.returns-in-Err-Call-clause-calls
returns-in-Err-Call-clause-calls g c =
    let same = c.in-Err-Call.ensures.untouched in
    let w = c.run_data.ensures.calls c.in-Err-Call.options (c.in-Err-Call.is ∙ ap Err c.in-Err-Call.field-0-is) in
    calls_from g.I.Source g.O.Sink g.E.Sink g.D.Dial g.D.Link.Link c.args.words.now _ c.args.input.now c.run_data.new.input c.run_call.new.input c.args.out.now c.run_data.new.out c.run_call.new.out c.args.err.now c.run_data.new.err c.run_call.new.err c.args.dial.now c.run_call.new.dial
    same.0 same.1 same.2
    (call_calls g.I.Source g.O.Sink g.E.Sink g.D.Dial g.D.Link.Link c.args.words.now _ c.run_data.new.input c.run_call.new.input c.run_data.new.out c.run_call.new.out c.run_data.new.err c.run_call.new.err c.args.dial.now c.run_call.new.dial
    c.in-Err-Call.options w c.run_call.ensures.ends)

pub returns-in-Err-Serve-clause-listens : goal.returns-in-Err-Serve-clause-listens
returns-in-Err-Serve-clause-listens g c =
    let w = c.run_data.ensures.serves c.in-Err-Serve.options (c.in-Err-Serve.is ∙ ap Err c.in-Err-Serve.field-0-is) in
    other_listens g.I.Source g.O.Sink g.E.Sink g.D.Dial g.D.Link.Link c.args.words.now _ _ _ _ _ _ _ (λ k. listener_is_no_serving c.args.words.now (c.in-Err-Serve.options, w) k)

pub returns-in-Err-Call-clause-listens : goal.returns-in-Err-Call-clause-listens
returns-in-Err-Call-clause-listens g c =
    let w = c.run_data.ensures.calls c.in-Err-Call.options (c.in-Err-Call.is ∙ ap Err c.in-Err-Call.field-0-is) in
    other_listens g.I.Source g.O.Sink g.E.Sink g.D.Dial g.D.Link.Link c.args.words.now _ _ _ _ _ _ _ (λ k. listener_is_no_call c.args.words.now (c.in-Err-Call.options, w) k)

pub returns-in-Err-Listen-clause-ends : goal.returns-in-Err-Listen-clause-ends
returns-in-Err-Listen-clause-ends g c =
    let same = c.in-Err-Listen.ensures.untouched in
    let w = c.run_data.ensures.listens c.in-Err-Listen.options (c.in-Err-Listen.is ∙ ap Err c.in-Err-Listen.field-0-is) in
    ends_from g.I.Source g.O.Sink g.E.Sink c.args.words.now _ c.args.input.now c.run_data.new.input c.run_data.new.input c.args.out.now c.run_data.new.out c.run_listen.new.out c.args.err.now c.run_data.new.err c.run_listen.new.err
    same.0 same.1 same.2
    (listen_ends g.I.Source g.O.Sink g.E.Sink g.D.Dial g.D.Link.Link c.args.words.now _ c.run_data.new.input c.run_data.new.out c.run_listen.new.out c.run_data.new.err c.run_listen.new.err c.args.dial.now c.run_listen.new.dial
    c.in-Err-Listen.options w c.run_listen.ensures.ends c.run_listen.ensures.writes c.run_listen.ensures.counted)

pub returns-in-Err-Listen-clause-serves : goal.returns-in-Err-Listen-clause-serves
returns-in-Err-Listen-clause-serves g c =
    let same = c.in-Err-Listen.ensures.untouched in
    let w = c.run_data.ensures.listens c.in-Err-Listen.options (c.in-Err-Listen.is ∙ ap Err c.in-Err-Listen.field-0-is) in
    serves_from _ _ _ _ _ _ _ _ _ c.args.out.now c.run_data.new.out _ same.1
    (data_serves _ _ _ _ _ c.args.words.now _ c.args.front.now c.run_data.new.out c.run_listen.new.out c.are_lawful.ensures (λ s. absurd (listener_is_no_serving c.args.words.now s (c.in-Err-Listen.options, w)))
    (listen_not_6 g.I.Source g.O.Sink g.E.Sink g.D.Dial g.D.Link.Link c.args.words.now _ c.run_data.new.input c.run_data.new.out c.run_listen.new.out c.run_data.new.err c.run_listen.new.err c.args.dial.now c.run_listen.new.dial
    c.in-Err-Listen.options w c.run_listen.ensures.ends))

pub returns-in-Err-Listen-clause-calls : goal.returns-in-Err-Listen-clause-calls
returns-in-Err-Listen-clause-calls g c =
    let same = c.in-Err-Listen.ensures.untouched in
    let w = c.run_data.ensures.listens c.in-Err-Listen.options (c.in-Err-Listen.is ∙ ap Err c.in-Err-Listen.field-0-is) in
    calls_from g.I.Source g.O.Sink g.E.Sink g.D.Dial g.D.Link.Link c.args.words.now _ c.args.input.now c.run_data.new.input c.run_data.new.input c.args.out.now c.run_data.new.out c.run_listen.new.out c.args.err.now c.run_data.new.err c.run_listen.new.err c.args.dial.now c.run_listen.new.dial
    same.0 same.1 same.2
    (listen_calls g.I.Source g.O.Sink g.E.Sink g.D.Dial g.D.Link.Link c.args.words.now _ c.run_data.new.input c.run_data.new.out c.run_listen.new.out c.run_data.new.err c.run_listen.new.err c.args.dial.now c.run_listen.new.dial
    c.in-Err-Listen.options w c.run_listen.ensures.ends)

pub returns-in-Err-Listen-clause-listens : goal.returns-in-Err-Listen-clause-listens
returns-in-Err-Listen-clause-listens g c =
    let same = c.in-Err-Listen.ensures.untouched in
    let w = c.run_data.ensures.listens c.in-Err-Listen.options (c.in-Err-Listen.is ∙ ap Err c.in-Err-Listen.field-0-is) in
    listens_from g.I.Source g.O.Sink g.E.Sink g.D.Dial g.D.Link.Link c.args.words.now _ c.args.out.now c.run_data.new.out c.run_listen.new.out c.args.err.now c.run_data.new.err c.run_listen.new.err c.args.dial.now c.run_listen.new.dial
    same.1 same.2
    (listen_listens g.I.Source g.O.Sink g.E.Sink g.D.Dial g.D.Link.Link c.args.words.now _ c.run_data.new.input c.run_data.new.out c.run_listen.new.out c.run_data.new.err c.run_listen.new.err c.args.dial.now c.run_listen.new.dial
    c.in-Err-Listen.options w c.run_listen.ensures.ends)
