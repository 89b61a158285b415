use Rattle.std.proofs.Common.{◌<◌, ◌≤◌, ◌+◌, ◌==◌, false, length, drop, get_or, sym, ◌∙◌, arith}
use Rattle.json.specs.Lex.{between, class}
use Rattle.amf_text.specs.Scan.{next_mode}
use Rattle.amf_text_read.specs.Modes.{mode_of}
use Rattle.amf_text_read.specs.Scanned.{placed_lexemes}
use Rattle.amf_text_read.proofs.Lexed.{last_begins, last_chain, last_none, last_passes}
use Rattle.amf_text_read.proofs.stop.last_lexeme.Goals as goal
use Rattle.amf_text_read.proofs.stop.last_lexeme.Goals.{then-begins, else-begins}

pub loop-at-preserved : goal.loop-at-preserved
loop-at-preserved c =
    let text = c.args.text.now in
    let at = c.loop-at.at in
    let m = mode_of c.loop-at.mode in
    let x = get_or text at 0 in
    let within : at < length text = omega arith in
    let d = c.loop-at.last in
    let b = c.loop-at.is_behind_comma in
    let k = c.loop-at.is_comma in
    let here = placed_lexemes m at (drop at text) in
    let next = placed_lexemes (next_mode m (class x)) (at + 1) (drop (at + 1) text) in
    let top = placed_lexemes between 0 text in
    rw c.next-mode.ensures (
    elim c.if-begins.branch [
      | then-begins w ↦
          rw (w.last-is, w.is_behind_comma-is, w.is_comma-is)
          (last_chain d at 0 b k k (x == 44) false false here next top (last_begins text m at d b k within (sym c.begins.ensures ∙ w.if-begins.true)) c.loop-at.invariant)
      | else-begins w ↦
          rw (w.last-is, w.is_behind_comma-is, w.is_comma-is)
          (last_chain d d 0 b k b k false false here next top (last_passes text m at d b k within (sym c.begins.ensures ∙ w.if-begins.false)) c.loop-at.invariant)
    ])

pub returns-clause-at : goal.returns-clause-at
returns-clause-at c =
    let all : length c.args.text.now ≤ c.loop-at.at = omega arith in
    sym (last_none c.args.text.now (mode_of c.loop-at.mode) c.loop-at.at c.loop-at.last c.loop-at.is_behind_comma c.loop-at.is_comma all).0 ∙ c.loop-at.invariant.place

pub returns-clause-comma : goal.returns-clause-comma
returns-clause-comma c =
    let all : length c.args.text.now ≤ c.loop-at.at = omega arith in
    sym (last_none c.args.text.now (mode_of c.loop-at.mode) c.loop-at.at c.loop-at.last c.loop-at.is_behind_comma c.loop-at.is_comma all).1 ∙ c.loop-at.invariant.behind
