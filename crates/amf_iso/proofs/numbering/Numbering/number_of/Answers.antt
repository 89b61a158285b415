use Rattle.std.proofs.Common.{◌≡◌, sym, ◌∙◌, slice_get, subst, ap}
use Rattle.std.specs.Prelude.{IfSome, ltb, length, get_or}
use Rattle.std.specs.Option.{option_flatten}
use Rattle.amf_iso.proofs.Numbers.{entry_of, looked_up, number_there, number_alone}
use Rattle.amf_iso.proofs.numbering.Numbering.number_of.Goals as goal

pub returns-clause-number : goal.returns-clause-number
returns-clause-number c =
    let found : c.flatten.result ≡ entry_of (slice_get c.self.inside.numbers.items c.args.node.0) = c.flatten.ensures ∙ ap option_flatten c.copied.ensures ∙ looked_up c.self.inside.numbers.items c.args.node.0 c.get.result (c.get.ensures.lookup.0 ∙ ap (λ w. ltb c.args.node.0 (length w)) c.deref.ensures.value) (subst (λ w. IfSome c.get.result (λ x. x.now ≡ get_or w c.args.node.0 x.now)) c.deref.ensures.value c.get.ensures.lookup.1) in
    rw (← c.self.view_is) (number_there _ c.self.inside.numbers.items c.args.node.0 c.flatten.result c.self.invariant found)

pub returns-clause-alone : goal.returns-clause-alone
returns-clause-alone c = λ n k e f.
    let found : c.flatten.result ≡ entry_of (slice_get c.self.inside.numbers.items c.args.node.0) = c.flatten.ensures ∙ ap option_flatten c.copied.ensures ∙ looked_up c.self.inside.numbers.items c.args.node.0 c.get.result (c.get.ensures.lookup.0 ∙ ap (λ w. ltb c.args.node.0 (length w)) c.deref.ensures.value) (subst (λ w. IfSome c.get.result (λ x. x.now ≡ get_or w c.args.node.0 x.now)) c.deref.ensures.value c.get.ensures.lookup.1) in
    number_alone _ c.self.inside.numbers.items c.args.node.0 n k c.self.invariant (sym e ∙ found) (rw (c.self.view_is) f)
