-- What the search finds is among them.
use Rattle.std.proofs.Common.{◌∙◌, rules}
use Rattle.std.proofs.lemmas.List.Sorted.{answers_always}
use Rattle.amf_broker.proofs.Orders.{searched-in-order}
use Rattle.amf_broker.proofs.moment.is_in.Goals as goal

pub returns : goal.returns
returns c =
    let by_id = c.binary_search_by_key.ensures.position (λ id. id) (answers_always _ _ _ (λ f a r g called. search rules)) in
    rw (← c.client.view_is) (c.is_ok.ensures.value ∙ searched-in-order (λ id. id) c.args.ids.now c.client.inside.0 c.requires c.binary_search_by_key.result c.binary_search_by_key.ensures.bound by_id)
