-- The subscription is filtered out.
use Rattle.std.proofs.Common.{◌≡◌, refl, rules}
use Rattle.std.specs.Prelude.{◌==◌, not, filter}
use Rattle.std.proofs.lemmas.Fn.{filter_same}
use Rattle.amf_broker.proofs.log.Log.drop_sub.Goals as goal

pub returns : goal.returns
returns c =
    let stay : c.retain.new.self.items ≡ filter (λ m. not (m.sub == c.args.sub)) c.self.inside.members.items = filter_same _ _ _ (λ x b f' k. search rules) _ _ c.retain.ensures.filtered in
    rw (← c.self.view_is, stay) refl
