use Rattle.std.proofs.Common.{ℕ, ◌+◌, List, map, take, sym, ap, ◌∙◌, subst, arith}
use Rattle.std.specs.declared.vec.Vec.{Vec}
use Rattle.std.specs.declared.alloc.Global.{Global}
use Rattle.amf_graph.specs.Building.{kept_text}
use Rattle.amf_text_graphs.specs.Showing.{AreTextsShown}
use Rattle.amf_text_graphs.proofs.Showing.{adds_text, adds_still}
use Rattle.amf_text_graphs.proofs.Naming.{texts_more}
use Rattle.amf_text_graphs.proofs.names.names.Goals as goal

pub loop-name-preserved : goal.loop-name-preserved
loop-name-preserved c =
    let names = c.args.names.now in
    let k = c.loop-name.name-index in
    let inv = c.loop-name.invariant in
    let b = c.loop-name.book in
    let d = c.text.new.self in
    let text = c.in_ok-text.ensures in
    let f : Vec ℕ Global → List ℕ = λ x. x.items in (
      λ a g. subst (λ w. AreTextsShown a w (map f (take (k + 1) names))) (sym c.in_ok-push.ensures.items)
          (texts_more b d c.loop-name.all.items names k c.in_ok-text.text c.name-item.result (omega arith) c.name-item.is inv.0 (text.ok ∙ ap (kept_text b) c.deref.ensures.value) text.id a g),
      adds_still c.args.book.now b d inv.1 (adds_text b d c.deref.result.now text.ok),
    )
