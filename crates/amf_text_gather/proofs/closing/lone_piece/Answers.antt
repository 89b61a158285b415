use Rattle.amf_text_gather.proofs.LonePieces.{lone_rest}
use Rattle.amf_text_gather.proofs.closing.lone_piece.Goals as goal

pub returns : goal.returns
returns c = λ s.
    let d = c.in_default in
    lone_rest c.args.frame s d.not-List d.not-Members d.not-Whole d.not-Quoted d.not-Patterns d.not-Ints d.not-Uints d.not-Words d.not-Headers d.not-Messages c.requires
