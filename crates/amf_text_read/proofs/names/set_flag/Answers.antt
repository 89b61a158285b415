-- Flags that are lacking are put there first.
use Rattle.std.proofs.Common.{◌≤◌, ◌<◌, length, arith, ◌∙◌}
use Rattle.amf_text_read.proofs.Left.{pad_flag, set_flag_is}
use Rattle.amf_text_read.proofs.names.set_flag.Goals as goal

pub loop-flags-preserved : goal.loop-flags-preserved
loop-flags-preserved c =
    let h : length c.loop-flags.flags.items ≤ c.args.place = omega (arith, c.loop-flags.flags.ok.0, c.len.ensures, c.loop-flags-test.true) in
    rw c.in_ok-push.ensures.items (pad_flag c.args.place c.loop-flags.flags.items h ∙ c.loop-flags.invariant)

pub returns : goal.returns
returns c =
    let h : c.args.place < length c.loop-flags.flags.items = omega (arith, c.loop-flags.flags.ok.0, c.len.ensures, c.loop-flags-test.false) in
    set_flag_is c.args.place c.loop-flags.flags.items h ∙ c.loop-flags.invariant
