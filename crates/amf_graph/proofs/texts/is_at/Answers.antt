-- The content at this number is compared.
use Rattle.std.proofs.Common.{◌∙◌, [], Some, sym, ap, arith}
use Rattle.std.proofs.lemmas.Option.{slice_get-get_or}
use Rattle.std.proofs.lemmas.Slice.Eq.{bytes_eq-Decides}
use Rattle.amf_graph.proofs.texts.is_at.Goals as goal

pub returns : goal.returns
returns c =
    λ e. slice_get-get_or c.args.contents.now c.args.number [] (omega arith) ∙ ap (λ w. Some w) (sym c.get.ensures ∙ (bytes_eq-Decides c.get.result.now c.args.bytes.now).0 (sym c.eq.ensures ∙ e))
