-- The first traits alone, with their names.
use Rattle.std.proofs.Common.{◌≤◌, ◌∷◌, length, take, get_or, sym, ap, ◌∙◌, subst, arith}
use Rattle.std.proofs.lemmas.List.{length-take}
use Rattle.amf_graph.specs.ClassHeads.{shown_classes}
use Rattle.amf_graph.specs.TextPool.{pieces}
use Rattle.amf_graph.proofs.Pieces.{length-pieces, pool_cut, shown_cut}
use Rattle.amf_graph.proofs.ClassRows.{length-shown, shown_take}
use Rattle.amf_graph.proofs.classes.Classes.truncate.Goals as goal

pub start_of-end-requires : goal.start_of-end-requires
start_of-end-requires c =
    subst (λ w. c.args.count ≤ w)
    (ap length (sym c.self.view_is)
    ∙ length-shown c.self.inside.heads.items (pieces c.self.inside.sealed.items 0 c.self.inside.ends.items) (c.self.invariant.0 ∙ sym (length-pieces c.self.inside.sealed.items 0 c.self.inside.ends.items))
    ∙ c.self.invariant.0 ∙ ap length (sym c.deref.ensures.value)) c.requires

pub invariant_of-self : goal.invariant_of-self
invariant_of-self c =
    let few : c.args.count ≤ length c.self.inside.ends.items =
    subst (λ w. c.args.count ≤ w)
    (ap length (sym c.self.view_is)
    ∙ length-shown c.self.inside.heads.items (pieces c.self.inside.sealed.items 0 c.self.inside.ends.items) (c.self.invariant.0 ∙ sym (length-pieces c.self.inside.sealed.items 0 c.self.inside.ends.items))
    ∙ c.self.invariant.0) c.requires
    in
    let one = ap length c.truncate.ensures.items ∙ length-take c.args.count c.self.inside.heads.items in
    let two = ap length c.truncate-2.ensures.items ∙ length-take c.args.count c.self.inside.ends.items in
    let same = c.self.invariant.0 in (
      omega arith,
      pool_cut c.self.inside.sealed.items c.truncate-3.new.self.items c.self.inside.ends.items c.truncate-2.new.self.items c.args.count c.start_of-end.result
          c.truncate-2.ensures.items c.truncate-3.ensures.items (c.start_of-end.ensures ∙ ap (λ w. get_or (0 ∷ w) c.args.count 0) c.deref.ensures.value) few c.self.invariant.1,
    )

pub returns : goal.returns
returns c =
    let few : c.args.count ≤ length c.self.inside.ends.items =
    subst (λ w. c.args.count ≤ w)
    (ap length (sym c.self.view_is)
    ∙ length-shown c.self.inside.heads.items (pieces c.self.inside.sealed.items 0 c.self.inside.ends.items) (c.self.invariant.0 ∙ sym (length-pieces c.self.inside.sealed.items 0 c.self.inside.ends.items))
    ∙ c.self.invariant.0) c.requires
    in
    ap (λ w. shown_classes w (pieces c.truncate-3.new.self.items 0 c.truncate-2.new.self.items)) c.truncate.ensures.items
    ∙ ap (shown_classes (take c.args.count c.self.inside.heads.items))
    (shown_cut c.self.inside.sealed.items c.truncate-3.new.self.items c.self.inside.ends.items c.truncate-2.new.self.items c.args.count c.start_of-end.result
    c.truncate-2.ensures.items c.truncate-3.ensures.items (c.start_of-end.ensures ∙ ap (λ w. get_or (0 ∷ w) c.args.count 0) c.deref.ensures.value) few c.self.invariant.1)
    ∙ shown_take c.args.count c.self.inside.heads.items (pieces c.self.inside.sealed.items 0 c.self.inside.ends.items)
    ∙ ap (take c.args.count) c.self.view_is
