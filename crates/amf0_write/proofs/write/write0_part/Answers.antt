use Rattle.std.proofs.Common.{refl, sym, ap, subst}
use Rattle.std.specs.Prelude.{Err}
use Rattle.amf_graph.specs.declared.lack.Lack.{Lack}
use Rattle.amf_graph.specs.declared.write_end.WriteEnd.TheVariants.{NoSpelling}
use Rattle.amf_graph.specs.Arena.{value_content}
use Rattle.amf_graph.specs.Rooted.{RootedArena, content}
use Rattle.amf0_spelling.specs.Lowered.{IsLowered}
use Rattle.amf0_write.specs.PartLacks0.{IsPartLack0}
use Rattle.amf0_write.specs.Searched.{HasLackBehind, HaveGrown}
use Rattle.amf0_write.specs.Unwritten0.{IsMetValue}
use Rattle.amf0_write.specs.Written0.{tables0, AreTables0, AppendsPart0}
use Rattle.amf0_write.proofs.PartEnds.{same_lack}
use Rattle.amf0_write.proofs.write.write0_part.Goals as goal

-- what is seen is the graph as it stands
pub write_value-requires-clause-low : goal.write_value-requires-clause-low
write_value-requires-clause-low c = subst (λ (g : RootedArena). IsLowered (content g)) (sym c.as_it_stands-seen.ensures) c.requires.low

pub write_value-requires-clause-met : goal.write_value-requires-clause-met
write_value-requires-clause-met c = subst (λ (g : RootedArena). IsMetValue g c.args.value) (sym c.as_it_stands-seen.ensures) (record { names = c.requires.value; reached = c.requires.reached })

pub write_value-requires-clause-tables : goal.write_value-requires-clause-tables
write_value-requires-clause-tables c = subst (λ (g : RootedArena). AreTables0 (content g) (tables0 c.args.tables.now)) (sym c.as_it_stands-seen.ensures) c.requires.tables

pub returns-in-Ok-clause-written : goal.returns-in-Ok-clause-written
returns-in-Ok-clause-written c =
    subst (λ (g : RootedArena). AppendsPart0 (content g) (value_content g.arena c.args.value) (tables0 c.args.tables.now) (tables0 c.write_value.new.tables) c.args.out.now.items c.write_value.new.out.items) c.as_it_stands-seen.ensures c.in-Ok.ensures.written

pub returns-in-Ok-clause-tables : goal.returns-in-Ok-clause-tables
returns-in-Ok-clause-tables c = subst (λ (g : RootedArena). AreTables0 (content g) (tables0 c.write_value.new.tables)) c.as_it_stands-seen.ensures c.in-Ok.ensures.tables

pub lack_of-requires-clause-met : goal.lack_of-requires-clause-met
lack_of-requires-clause-met c = record { names = c.requires.value; reached = c.requires.reached }

pub lack_of-requires-clause-lacking : goal.lack_of-requires-clause-lacking
lack_of-requires-clause-lacking c =
    let e = ap (λ w. Err w) c.in-Err-Lack.field-0-is in
    let t = c.args.tables.now in
    let new = c.write_value.new.tables in
    let lacks = subst (λ (g : RootedArena). HasLackBehind g c.args.value t) c.as_it_stands-seen.ensures (c.in-Err-Lack.ensures.lack e) in
    let grown = subst (λ (g : RootedArena). HaveGrown g t new c.write_value.new.loose.items) c.as_it_stands-seen.ensures (c.in-Err-Lack.ensures.grown e) in
    (t, lacks, (subst (λ w. HaveGrown c.args.graph.now t new w) (sym c.deref.ensures.value) grown, c.node_count-count.ensures.count))

pub returns-clause-lack : goal.returns-clause-lack
returns-clause-lack c = λ l e.
    let k = ap (λ w. Err w) c.in-Err-Lack.field-0-is in
    let t = c.args.tables.now in
    let new = c.write_value.new.tables in
    let grown = subst (λ (g : RootedArena). HaveGrown g t new c.write_value.new.loose.items) c.as_it_stands-seen.ensures (c.in-Err-Lack.ensures.grown k) in
    let found = c.in_ok-lack-in-Err-Lack.ensures t (subst (λ w. HaveGrown c.args.graph.now t new w) (sym c.deref.ensures.value) grown, c.node_count-count.ensures.count) in
    subst (λ (x : Lack). IsPartLack0 (content c.args.graph.now) (value_content c.args.graph.now.arena c.args.value) (tables0 t) x.node x.kind) (sym (same_lack (NoSpelling c.in_ok-lack-in-Err-Lack.lack) l c.in_ok-lack-in-Err-Lack.lack e refl)) found
