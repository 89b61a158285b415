use Rattle.std.proofs.Common.{◌≡◌, ◌++◌}
use Rattle.amf_gateway.proofs.Coming.{Come, rest_of}
use Rattle.amf_answer_plan.specs.Links.{most_requests}
use Rattle.amf_answer_plan.specs.Services.{services_by}
use Rattle.amf_gateway.proofs.links.answer_requests.Given as goal

abbrev pub invariant-loop-more : goal.invariant-loop-more
invariant-loop-more g l =
    let k = g.L.Link in
    let services = services_by l.registry.services.entries (λ x. x.items) (λ s. (goal.Service-dyn g (s.vtable, s.value)).knows s.value) (λ s. (goal.Service-dyn g (s.vtable, s.value)).gives s.value) in
    record {
      told : k.tells_left l.fn.link → k.tells_left l.link;
      back : k.tells_held l.link → k.tells_held l.fn.link;
      reads : k.read_faults l.link ≡ k.read_faults l.fn.link;
      writes : k.write_faults l.link ≡ k.write_faults l.fn.link;
      come : Come g.O.Outside.handed (rest_of most_requests services) (rest_of l.more services) l.fn.outside l.outside (k.tells_left l.fn.link) (k.tells_held l.link) (k.left l.fn.link) (l.buffer ++ k.left l.link) (k.held l.fn.link) (k.held l.link);
      may : g.O.Outside.may_call l.outside;
    }

abbrev pub decreases-loop-more : goal.decreases-loop-more
decreases-loop-more g l = l.more
