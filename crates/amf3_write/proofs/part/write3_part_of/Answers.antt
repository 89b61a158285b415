use Rattle.std.proofs.Common.{length, sym, refl, ap, ◌∙◌, subst}
use Rattle.std.specs.Prelude.{Err}
use Rattle.amf_graph.specs.declared.lack.Lack.{Lack}
use Rattle.amf_graph.specs.declared.write_end.WriteEnd.TheVariants.{NoSpelling}
use Rattle.amf_graph.specs.Arena.{value_content}
use Rattle.amf_graph.specs.Rooted.{content}
use Rattle.amf3_write.specs.PartLacks.{HasUnnamed, IsPartLack3}
use Rattle.amf3_write.proofs.WroteNodes.{same_lack}
use Rattle.amf3_write.proofs.PartNodes.{nodes_before, ids_inside}
use Rattle.amf3_write.proofs.part.write3_part_of.Goals as goal

pub first_lack-requires-clause-met : goal.first_lack-requires-clause-met
first_lack-requires-clause-met c =
    ids_inside c.deref.result.now (length c.args.graph.now.arena.nodes) c.args.tables.now.tables.nodes
    (nodes_before c.deref.result.now c.in_ok-met-in-Err-NoSpelling.met.items c.args.tables.now.tables.nodes c.write_value.new.tables.tables.nodes c.node_count-count.result c.node_count-count.ensures.count c.deref.ensures.value c.in_ok-met-in-Err-NoSpelling.ensures c.write_value.ensures.nodes) c.requires.tables.nodes

pub first_lack-requires-clause-lacking : goal.first_lack-requires-clause-lacking
first_lack-requires-clause-lacking c =
    let l = c.in-Err-NoSpelling.field-0-0 in
    let before = nodes_before c.deref.result.now c.in_ok-met-in-Err-NoSpelling.met.items c.args.tables.now.tables.nodes c.write_value.new.tables.tables.nodes c.node_count-count.result c.node_count-count.ensures.count c.deref.ensures.value c.in_ok-met-in-Err-NoSpelling.ensures c.write_value.ensures.nodes in
    subst (λ w. HasUnnamed (content c.args.graph.now) (value_content c.args.graph.now.arena c.args.value) w) (c.requires.tables.placed ∙ sym before) (c.in-Err-NoSpelling.ensures.lack l (ap (λ w. Err w) c.in-Err-NoSpelling.field-0-is))

pub returns-in_ok-lack-in-Err-NoSpelling-clause-lack : goal.returns-in_ok-lack-in-Err-NoSpelling-clause-lack
returns-in_ok-lack-in-Err-NoSpelling-clause-lack c = λ l e.
    let g = content c.args.graph.now in
    let v = value_content c.args.graph.now.arena c.args.value in
    let before = nodes_before c.deref.result.now c.in_ok-met-in-Err-NoSpelling.met.items c.args.tables.now.tables.nodes c.write_value.new.tables.tables.nodes c.node_count-count.result c.node_count-count.ensures.count c.deref.ensures.value c.in_ok-met-in-Err-NoSpelling.ensures c.write_value.ensures.nodes in
    subst (λ (k : Lack). IsPartLack3 g v c.args.tables.now.tables.done k.node k.kind) (sym (same_lack (NoSpelling c.in_ok-lack-in-Err-NoSpelling.lack) l c.in_ok-lack-in-Err-NoSpelling.lack e refl))
    (subst (λ w. IsPartLack3 g v w c.in_ok-lack-in-Err-NoSpelling.lack.node c.in_ok-lack-in-Err-NoSpelling.lack.kind) (before ∙ sym c.requires.tables.placed) c.in_ok-lack-in-Err-NoSpelling.ensures)
