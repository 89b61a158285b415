use Rattle.std.proofs.Common.{◌≡◌, true, false, get_or}
use Rattle.json.specs.Lex.{class}
use Rattle.amf_text.specs.Scan.{begins}
use Rattle.amf_text_read.specs.Modes.{mode_of}
use Rattle.amf_text_read.proofs.Passing.{passed_all, passed_one, passed_to}
use Rattle.amf_text_read.proofs.place.lexeme_from.Goals as goal

pub loop-at-preserved : goal.loop-at-preserved
loop-at-preserved c =
    let b : begins (mode_of c.loop-at.mode) (class (get_or c.args.text.now c.loop-at.at 0)) ≡ false = cc in
    rw c.next-mode.ensures (passed_one c.args.text.now (mode_of c.args.mode) c.args.from (mode_of c.loop-at.mode) c.loop-at.at c.loop-at.invariant c.loop-at-test.true b)

pub returns-else-not-begins : goal.returns-else-not-begins
returns-else-not-begins c =
    let b : begins (mode_of c.loop-at.mode) (class (get_or c.args.text.now c.loop-at.at 0)) ≡ true = cc in
    passed_to c.args.text.now (mode_of c.args.mode) c.args.from (mode_of c.loop-at.mode) c.loop-at.at c.loop-at.invariant c.loop-at-test.true b

pub returns-after-loop-at : goal.returns-after-loop-at
returns-after-loop-at c = passed_all c.args.text.now (mode_of c.args.mode) c.args.from (mode_of c.loop-at.mode) c.loop-at.at c.loop-at.invariant c.loop-at-test.false
