use Rattle.std.proofs.Common.{◌≡◌, List, length, vec_len, Err, ap, ◌∙◌, arith, rules}
use Rattle.amf_service.specs.Registry.{Entry}
use Rattle.amf_answer_plan.specs.Services.{services_by}
use Rattle.amf_gateway.specs.Tells.{of_hall}
use Rattle.amf_workers.proofs.Opened.{not_asked, failed, no_memory, serves}
use Rattle.amf_workers.proofs.serving.serve.Goals as goal

pub returns-in_default : goal.returns-in_default
returns-in_default g c = not_asked _ _

pub serve_halls-requires-clause-first : goal.serve_halls-requires-clause-first
serve_halls-requires-clause-first g c κs within = c.in-Ok.ensures

pub serve_halls-requires-clause-few : goal.serve_halls-requires-clause-few
serve_halls-requires-clause-few g c κs within =
    let many : vec_len c.in-Ok-open.halls ≡ length c.in-Ok-open.halls.items = search rules in let asked = c.in-Ok-open.ensures.workers in let most = c.requires in omega arith

pub serve_halls-requires-clause-whole : goal.serve_halls-requires-clause-whole
serve_halls-requires-clause-whole g c κs within = c.in-Ok-open.ensures.whole

pub serve_halls-requires-clause-fresh : goal.serve_halls-requires-clause-fresh
serve_halls-requires-clause-fresh g c κs within = c.in-Ok-open.ensures.fresh

pub serve_halls-requires-clause-none_out : goal.serve_halls-requires-clause-none_out
serve_halls-requires-clause-none_out g c κs within = c.in-Ok-open.ensures.none_out

pub returns-in-Ok-open : goal.returns-in-Ok-open
returns-in-Ok-open g c =
    let services : List Entry = services_by c.args.registry.now.services.entries (λ x. x.items) (λ s. (goal.Service-dyn g (s.vtable, s.value)).knows s.value) (λ s. (goal.Service-dyn g (s.vtable, s.value)).gives s.value) in
    let e = c.in-Ok-open.ensures in
    serves g.F.Front (of_hall g.F.Hall.Hall g.F.Hall.Clock g.F.Hall.Dice) g.F.Hall.Link.Link services c.args.port c.args.workers c.args.each c.args.front.now c.open.new.self c.serve_halls.new.front c.in-Ok-open.halls.items c.serve_halls.result
    (record { tells = e.tells; asked = e.asked; gave = e.gives; many = e.workers; halls = e.back; counts = e.cause }) e.whole c.serve_halls.ensures

pub returns-in-Err-Failed : goal.returns-in-Err-Failed
returns-in-Err-Failed g c =
    let e = c.open.ensures in failed _ _ _ _ _ c.open.result e.tells e.back (c.in-Err-Failed.is ∙ ap (λ x. Err x) c.in-Err-Failed.field-0-is) e.asked e.gives e.cause

pub returns : goal.returns
returns g c =
    let e = c.open.ensures in no_memory _ c.args.port c.args.workers _ _ c.open.result e.tells e.back (c.in-Err-Memory.is ∙ ap (λ x. Err x) c.in-Err-Memory.field-0-is) e.gives e.cause
