use Rattle.std.proofs.Common.{Err, sym, subst}
use Rattle.amf_io.specs.declared.ends.ReadEnd.{ReadEnd}
use Rattle.amf_sol.specs.FileReading.{AnswersPairs}
use Rattle.amf_sol.proofs.PairLoops.{pairs_unread, pairs_passed}
use Rattle.amf_sol.proofs.pairs.read_held.Goals as goal

pub returns-in_err-holder-clause-answers : goal.returns-in_err-holder-clause-answers
returns-in_err-holder-clause-answers g c = λ n name lt.
    let S = g.S.Source in
    let k = c.args.cursor.now in
    let a = c.open_holder.new.builder in
    let r = c.from_residual in
    pairs_passed S.tells S.left c.args.version n name k k a r.result c.in_err-holder.field-0.0 r.ensures.1
    (subst (λ (y : ReadEnd). AnswersPairs S.tells S.left c.args.version n name a k k (Err y)) (sym c.in_err-holder.ensures.err) (pairs_unread S.tells S.left c.args.version n name k k))

pub returns-clause-answers : goal.returns-clause-answers
returns-clause-answers g c = c.read_pairs.ensures.answers
