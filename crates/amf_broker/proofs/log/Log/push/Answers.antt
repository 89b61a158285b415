-- The message comes to the back, if someone listens.
use Rattle.std.proofs.Common.{◌≡◌, ◌∷◌, ◌++◌, [], ◌∙◌, refl, ap, sym, length, true, false, rules}
use Rattle.std.specs.Prelude.{◌==◌}
use Rattle.amf_broker.proofs.log.Log.push.Goals as goal

pub returns-then-is_empty-clause-ok : goal.returns-then-is_empty-clause-ok
returns-then-is_empty-clause-ok c =
    let none : (length c.self.inside.members.items == 0) ≡ true = ap (λ n. n == 0) (sym c.self.inside.members.ok.0) ∙ (sym c.is_empty.ensures ∙ c.if-is_empty.true) in
    rw (← c.self.view_is, none) refl

pub returns-clause-ok : goal.returns-clause-ok
returns-clause-ok c =
    let some : (length c.self.inside.members.items == 0) ≡ false = ap (λ n. n == 0) (sym c.self.inside.members.ok.0) ∙ (sym c.is_empty.ensures ∙ c.if-is_empty.false) in
    let pushed : c.push.new.self.items ≡ c.self.inside.posts.items ++ (c.args.post ∷ []) = search rules in
    rw (← c.self.view_is, some, pushed) refl
