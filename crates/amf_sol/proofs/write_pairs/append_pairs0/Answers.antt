use Rattle.std.proofs.Common.{ℕ, Err, ap}
use Rattle.std.proofs.lemmas.Option.{MatchOption-at_none}
use Rattle.amf_graph.specs.declared.lack.Lack.{Lack}
use Rattle.amf_graph.specs.declared.lack.LackKind.{LackKind}
use Rattle.amf_graph.specs.Graph.{Graph}
use Rattle.amf_graph.specs.Rooted.{content}
use Rattle.amf0_write.specs.PartLacks0.{LacksOutside, IsLackOutside}
use Rattle.amf_sol.proofs.write_pairs.append_pairs0.Goals as goal

pub unreachable-requires : goal.unreachable-requires
unreachable-requires c =
    let g : Graph = content c.args.low.now in
    let l = c.in-Err-NoSpelling.field-0-0 in
    let lacks = c.in-Err-NoSpelling.ensures.lack l (ap (λ w. Err w) c.in-Err-NoSpelling.field-0-is) in
    MatchOption-at_none ((number : ℕ) (kind : LackKind) → LacksOutside g 1 number kind → ⊥) (λ (k : Lack). IsLackOutside g 1 k.node k.kind) c.in-None.is c.in_ok-lack-in-Err-NoSpelling.ensures l.node l.kind lacks
