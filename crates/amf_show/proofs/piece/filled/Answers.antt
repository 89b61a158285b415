use Rattle.std.proofs.Common.{◌≡◌, length, take, refl, sym, ap, ◌∙◌, arith}
use Rattle.std.proofs.lemmas.List.{take_all, length-set}
use Rattle.amf_show.proofs.Cuts.{copied_step}
use Rattle.amf_show.proofs.piece.filled.Goals as goal

pub loop-place-preserved : goal.loop-place-preserved
loop-place-preserved c =
    let text = c.args.text.now in
    let bytes = c.loop-place.bytes in
    let i = c.loop-place.place in
    record {
      room = length-set bytes i _ ∙ c.loop-place.invariant.room;
      copied = copied_step text bytes i _ (omega arith) (omega (arith, c.loop-place.invariant.room, c.requires)) refl c.loop-place.invariant.copied;
    }

pub returns : goal.returns
returns c =
    let text = c.args.text.now in
    let at : c.loop-place.place ≡ length text = omega arith in
    ap (λ n. take n c.loop-place.bytes) (sym at) ∙ c.loop-place.invariant.copied ∙ ap (λ n. take n text) at ∙ take_all (length text) text (omega arith)
