-- A graft leaves the arena built, and there was room for it.
use Rattle.std.proofs.Common.{sym, refl, subst}
use Rattle.amf_graph.specs.Arena.{Arena}
use Rattle.amf_graph.specs.Copying.{copies_of, IsBehind}
use Rattle.amf_graph.specs.Grafting.{Grafted, IsTooMuch}
use Rattle.amf_graph.proofs.GraftMade.{grafted_made, copies_count, copies_names, keeps_built, keeps_within}
use Rattle.amf_graph.proofs.CutSizes.{not_too_much}
use Rattle.amf_graph.proofs.builder.Builder.put_copies.Goals as goal

pub invariant_of-self-2 : goal.invariant_of-self-2
invariant_of-self-2 c =
    let a = c.args.graph.now.arena in
    let vs = c.args.values.now in
    let plan = c.args.copying.now in
    let old = c.self.inside.store in
    let f = c.is_finished.ensures in
    let behind : IsBehind plan old = subst (IsBehind plan) (sym c.self.view_is) c.requires.behind in (
      keeps_built a vs old c.append_to.new.store (copies_of a plan) c.in_ok-copies.copies.items plan c.requires.exact behind refl c.in_ok-append_to.ensures.ok c.in_ok-copies.ensures f.finished f.bounds c.requires.values c.self.invariant.0 c.self.invariant.1 c.is_too_much.result c.is_too_much.ensures c.if-is_too_much.false,
      keeps_within a vs old c.append_to.new.store (copies_of a plan) c.in_ok-copies.copies.items plan c.requires.exact behind refl c.in_ok-append_to.ensures.ok c.in_ok-copies.ensures f.finished f.bounds c.requires.values c.self.invariant.0 c.self.invariant.1 c.is_too_much.result c.is_too_much.ensures c.if-is_too_much.false,
    )

pub returns-clause-ok : goal.returns-clause-ok
returns-clause-ok c =
    let a = c.args.graph.now.arena in
    let vs = c.args.values.now in
    let plan = c.args.copying.now in
    let old = c.self.inside.store in
    let behind : IsBehind plan old = subst (IsBehind plan) (sym c.self.view_is) c.requires.behind in
    let made = grafted_made a vs old c.append_to.new.store (copies_of a plan) c.in_ok-copies.copies.items plan c.requires.exact behind refl c.in_ok-append_to.ensures.ok c.in_ok-copies.ensures in
    subst (λ (w : Arena). Grafted a vs w c.append_to.new.store c.in_ok-copies.copies.items) c.self.view_is made

pub returns-clause-count : goal.returns-clause-count
returns-clause-count c =
    let a = c.args.graph.now.arena in
    let plan = c.args.copying.now in
    let old = c.self.inside.store in
    let behind : IsBehind plan old = subst (IsBehind plan) (sym c.self.view_is) c.requires.behind in
    copies_count a c.args.values.now old c.append_to.new.store (copies_of a plan) c.in_ok-copies.copies.items plan c.requires.exact behind refl c.in_ok-append_to.ensures.ok c.in_ok-copies.ensures

pub returns-clause-names : goal.returns-clause-names
returns-clause-names c =
    let a = c.args.graph.now.arena in
    let plan = c.args.copying.now in
    let old = c.self.inside.store in
    let behind : IsBehind plan old = subst (IsBehind plan) (sym c.self.view_is) c.requires.behind in
    copies_names a c.args.values.now old c.append_to.new.store (copies_of a plan) c.in_ok-copies.copies.items plan c.requires.exact behind refl c.in_ok-append_to.ensures.ok c.in_ok-copies.ensures c.is_finished.ensures.finished c.requires.values c.self.invariant.0

pub returns-clause-room : goal.returns-clause-room
returns-clause-room c =
    let a = c.args.graph.now.arena in
    let vs = c.args.values.now in
    let plan = c.args.copying.now in
    let old = c.self.inside.store in
    let new = c.append_to.new.store in
    let behind : IsBehind plan old = subst (IsBehind plan) (sym c.self.view_is) c.requires.behind in
    let made = grafted_made a vs old new (copies_of a plan) c.in_ok-copies.copies.items plan c.requires.exact behind refl c.in_ok-append_to.ensures.ok c.in_ok-copies.ensures in
    subst (λ (b : Arena). IsTooMuch a vs b → ⊥) c.self.view_is (not_too_much a vs old new c.in_ok-copies.copies.items made (invariant_of-self-2 c).1)
