use Rattle.std.proofs.Common.{◌≡◌, ◌∙◌, ℕ, List, Err, sym, ap, subst}
use Rattle.amf_wire.specs.Style.{canonical}
use Rattle.amf_graph.specs.Graph.{Graph}
use Rattle.amf_graph.specs.Rooted.{content}
use Rattle.amf3_spelling.specs.Spells3.{Spelled3}
use Rattle.amf_answer_plan.proofs.Spelling.{spelled, spelled_alike, unspelled}
use Rattle.amf_answer_plan.proofs.messages.spelling_of.Goals as goal

pub returns-in-Ok : goal.returns-in-Ok
returns-in-Ok c = λ (g : Graph) i.
    subst (λ (b : List ℕ). Spelled3 canonical g b) (sym (c.in_ok-of_bytes-in-Ok.ensures ∙ c.as_slice.ensures.value))
    (spelled_alike g c.args.graph.now c.write3_keyed.new.out.items i (spelled (content c.args.graph.now) _ c.write3_keyed.new.out.items c.new-bytes.ensures.items c.in-Ok.ensures.written))

pub returns-in-Err-NoSpelling : goal.returns-in-Err-NoSpelling
returns-in-Err-NoSpelling c =
    let l = c.in-Err-NoSpelling.field-0-0 in
    let lack = c.in-Err-NoSpelling.ensures.lack l (ap Err c.in-Err-NoSpelling.field-0-is) in
    λ (g : Graph) i. unspelled g (content c.args.graph.now) l i lack
