use Rattle.std.proofs.Common.{◌<◌, ◌≤◌, length, sym, ap, ◌∙◌, arith}
use Rattle.amf_text.specs.Scan.{is_open}
use Rattle.amf_text_read.specs.Modes.{mode_of}
use Rattle.amf_text_read.proofs.Passing.{mode_end, mode_passes}
use Rattle.amf_text_read.proofs.place.ends_inside.Goals as goal

pub loop-byte-preserved : goal.loop-byte-preserved
loop-byte-preserved c =
    let text = c.args.text.now in
    let at = c.loop-byte.byte-index in
    let within : at < length text = omega arith in
    rw c.next-mode.ensures (sym (mode_passes text (mode_of c.loop-byte.mode) at within) ∙ c.loop-byte.invariant)

pub returns : goal.returns
returns c =
    let text = c.args.text.now in
    let at = c.loop-byte.byte-index in
    let all : length text ≤ at = omega arith in
    c.is_open.ensures ∙ ap is_open (sym (mode_end text (mode_of c.loop-byte.mode) at all) ∙ c.loop-byte.invariant)
