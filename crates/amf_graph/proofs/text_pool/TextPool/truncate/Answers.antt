-- The first texts alone, with the bytes up to their last end.
use Rattle.std.proofs.Common.{◌≤◌, ◌∷◌, length, take, get_or, sym, ap, ◌∙◌, subst}
use Rattle.amf_graph.proofs.Pieces.{length-pieces, pool_cut, shown_cut}
use Rattle.amf_graph.proofs.text_pool.TextPool.truncate.Goals as goal

pub start_of-end-requires : goal.start_of-end-requires
start_of-end-requires c =
    subst (λ w. c.args.count ≤ w) (ap length (sym c.self.view_is) ∙ length-pieces c.self.inside.bytes.items 0 c.self.inside.ends.items ∙ ap length (sym c.deref.ensures.value)) c.requires

pub invariant_of-self : goal.invariant_of-self
invariant_of-self c =
    pool_cut c.self.inside.bytes.items c.truncate-2.new.self.items c.self.inside.ends.items c.truncate.new.self.items c.args.count c.start_of-end.result
    c.truncate.ensures.items c.truncate-2.ensures.items (c.start_of-end.ensures ∙ ap (λ w. get_or (0 ∷ w) c.args.count 0) c.deref.ensures.value)
    (subst (λ w. c.args.count ≤ w) (ap length (sym c.self.view_is) ∙ length-pieces c.self.inside.bytes.items 0 c.self.inside.ends.items) c.requires) c.self.invariant

pub returns : goal.returns
returns c =
    shown_cut c.self.inside.bytes.items c.truncate-2.new.self.items c.self.inside.ends.items c.truncate.new.self.items c.args.count c.start_of-end.result
    c.truncate.ensures.items c.truncate-2.ensures.items (c.start_of-end.ensures ∙ ap (λ w. get_or (0 ∷ w) c.args.count 0) c.deref.ensures.value)
    (subst (λ w. c.args.count ≤ w) (ap length (sym c.self.view_is) ∙ length-pieces c.self.inside.bytes.items 0 c.self.inside.ends.items) c.requires) c.self.invariant
    ∙ ap (take c.args.count) c.self.view_is
