-- The client's are filtered out.
use Rattle.std.proofs.Common.{◌≡◌, refl, rules}
use Rattle.std.specs.Prelude.{◌==◌, not, filter}
use Rattle.std.proofs.lemmas.Fn.{filter_same}
use Rattle.amf_broker.proofs.log.Log.part.Goals as goal

pub returns : goal.returns
returns c =
    let stay : c.retain.new.self.items ≡ filter (λ m. not (m.client == c.args.client)) c.self.inside.members.items = filter_same _ _ _ (λ x b f' k. search rules) _ _ c.retain.ensures.filtered in
    rw (← c.self.view_is, stay) refl
