use Rattle.std.proofs.Common.{arith, ap, ◌∙◌}
use Rattle.amf_tables.proofs.ShownTexts.{id_within}
use Rattle.amf_show.specs.Joining.{head_before}
use Rattle.amf_show.proofs.Headed.{heads_step}
use Rattle.amf_show.proofs.class_text.heads.Goals as goal

pub text-requires : goal.text-requires
text-requires c = id_within c.args.graph.now.arena c.args.names.now c.loop-place.place _ c.requires (omega arith)

pub loop-place-preserved : goal.loop-place-preserved
loop-place-preserved c =
    let i = c.loop-place.place in
    heads_step c.args.graph.now.arena c.args.names.now i (record { 0 = 0 }) c.loop-place.heads.items _ c.of-piece.result (omega arith) c.loop-place.invariant c.in_ok-push.ensures.items (c.of-piece.ensures ∙ c.in_ok-made.ensures ∙ ap (head_before i) c.text.ensures)
