-- What the search finds is among the subscriptions that ended.
use Rattle.std.proofs.Common.{◌∙◌, rules}
use Rattle.std.proofs.lemmas.List.Sorted.{answers_always}
use Rattle.amf_broker.proofs.Orders.{searched-in-order}
use Rattle.amf_broker.proofs.ended.Ended.has.Goals as goal

pub returns : goal.returns
returns c =
    let by_id = c.binary_search_by_key.ensures.position (λ id. id) (answers_always _ _ _ (λ f a r g called. search rules)) in
    let bound = rw c.deref.ensures.value at c.binary_search_by_key.ensures.bound in
    let found = rw c.deref.ensures.value at by_id in
    rw (← c.sub.view_is) (c.is_ok.ensures.value ∙ searched-in-order (λ id. id) c.args.self.now.subs.items c.sub.inside.0 c.args.self.now.ordered c.binary_search_by_key.result bound found)
