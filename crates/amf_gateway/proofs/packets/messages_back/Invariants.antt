use Rattle.std.proofs.Common.{drop, map}
use Rattle.amf_packet.specs.Content.{message_of}
use Rattle.amf_answer_plan.specs.Services.{services_by}
use Rattle.amf_gateway.proofs.Answering.{AnsweredSo}
use Rattle.amf_gateway.proofs.packets.messages_back.Given as goal

abbrev pub invariant-loop-message : goal.invariant-loop-message
invariant-loop-message g l = record {
  so : AnsweredSo g.O.Outside.handed (services_by l.fn.registry.services.entries (λ x. x.items) (λ s. (goal.Service-dyn g (s.vtable, s.value)).knows s.value) (λ s. (goal.Service-dyn g (s.vtable, s.value)).gives s.value)) l.fn.outside l.outside (map message_of l.messages) (map message_of (drop l.message-index l.messages)) l.back.items;
  ready : g.O.Outside.may_call l.outside;
}
