use Rattle.std.proofs.Common.{◌<◌, ◌^◌, ◌∙◌, sym, length, rules, arith}
use Rattle.amf_io.specs.InMemory.{faultless_left, taken}
use Rattle.amf_gateway.specs.ServesLink.{end_of}
use Rattle.amf_self_call.proofs.Told.{answered_by}
use Rattle.amf_self_call.proofs.Untaken.{stays_self, stays_by}
use Rattle.amf_self_call.proofs.calls.answered.Goals as goal

pub returns-in_err-wire-clause-answered : goal.returns-in_err-wire-clause-answered
returns-in_err-wire-clause-answered g c = search rules

pub returns-in_err-wire-clause-stays : goal.returns-in_err-wire-clause-stays
returns-in_err-wire-clause-stays g c = stays_self c.args.pass.now

pub returns-in_err-hall-clause-answered : goal.returns-in_err-hall-clause-answered
returns-in_err-hall-clause-answered g c = search rules

pub returns-in_err-hall-clause-stays : goal.returns-in_err-hall-clause-stays
returns-in_err-hall-clause-stays g c = stays_self c.args.pass.now

pub serve_link-end-requires-after_bounds : goal.serve_link-end-requires-after_bounds
serve_link-end-requires-after_bounds g c κs within = c.requires.desk

pub returns-then-is_ended-clause-answered : goal.returns-then-is_ended-clause-answered
returns-then-is_ended-clause-answered g c =
    let s = c.serve_link-end.ensures.served in
    let came = c.in_ok-wire.wire in let went = c.serve_link-end.new.link in
    let fits : length (taken went.sink) < 2 ^ 64 = omega (arith, went.sink.bytes.ok.0, went.sink.bytes.small) in
    answered_by _ c.args.call.now (taken went.sink) (faultless_left came.source) (faultless_left went.source) (taken came.sink) s.0 (end_of c.serve_link-end.result)
    (sym c.is_ended.ensures ∙ c.if-is_ended.true) c.in_ok-wire.ensures.left c.in_ok-wire.ensures.held fits (s.1.is_served.serves tt tt)

pub returns-then-is_ended-clause-stays : goal.returns-then-is_ended-clause-stays
returns-then-is_ended-clause-stays g c =
    let s = c.serve_link-end.ensures.served in
    let came = c.in_ok-wire.wire in let went = c.serve_link-end.new.link in
    stays_by _ c.args.call.now (faultless_left came.source) (faultless_left went.source) (taken came.sink) (taken went.sink) c.args.pass.now c.serve_link-end.new.pass s.0 (end_of c.serve_link-end.result)
    c.requires.quiet c.in_ok-wire.ensures.left (s.1.is_served.serves tt tt) (s.1.is_served.stops tt tt) s.1.pass

pub returns-clause-stays : goal.returns-clause-stays
returns-clause-stays g c =
    let s = c.serve_link-end.ensures.served in
    let came = c.in_ok-wire.wire in let went = c.serve_link-end.new.link in
    stays_by _ c.args.call.now (faultless_left came.source) (faultless_left went.source) (taken came.sink) (taken went.sink) c.args.pass.now c.serve_link-end.new.pass s.0 (end_of c.serve_link-end.result)
    c.requires.quiet c.in_ok-wire.ensures.left (s.1.is_served.serves tt tt) (s.1.is_served.stops tt tt) s.1.pass
