-- Names stand between two ends.
use Rattle.std.proofs.Common.{length, get_or, sym, ap, ◌∙◌, arith}
use Rattle.std.specs.Prelude.{slice_range}
use Rattle.amf_graph.proofs.Pieces.{ends_at, piece_at}
use Rattle.amf_graph.proofs.classes.names_at.Goals as goal

pub part-requires : goal.part-requires
part-requires c =
    let e = ends_at 0 (length c.args.sealed.now) c.args.ends.now c.args.place c.requires.ends c.requires.there in
    let s = c.start_of-start.ensures in
    record { start = omega (arith, e.0, e.1, s); end = omega (arith, e.0, e.1, s) }

pub returns : goal.returns
returns c = c.part.ensures ∙ ap (λ i. slice_range c.args.sealed.now i (get_or c.args.ends.now c.args.place 0)) c.start_of-start.ensures ∙ sym (piece_at c.args.sealed.now 0 c.args.ends.now c.args.place c.requires.there)
