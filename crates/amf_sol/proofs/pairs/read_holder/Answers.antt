use Rattle.amf_io.specs.declared.ends.ReadEnd.TheVariants.{Memory}
use Rattle.amf_sol.proofs.PairLoops.{pairs_unread, holder_passed}
use Rattle.amf_sol.proofs.pairs.read_holder.Goals as goal

pub returns-in_err-builder-clause-answers : goal.returns-in_err-builder-clause-answers
returns-in_err-builder-clause-answers g c = λ n name lt.
    let S = g.S.Source in
    let k = c.args.cursor.now in
    holder_passed S.tells S.left c.args.version n name k k c.from_residual.result Memory c.from_residual.ensures.1 (pairs_unread S.tells S.left c.args.version n name k k)

pub returns-in_err-read_held-clause-answers : goal.returns-in_err-read_held-clause-answers
returns-in_err-read_held-clause-answers g c = λ n name lt.
    let S = g.S.Source in
    let r = c.from_residual-in_err-read_held in
    holder_passed S.tells S.left c.args.version n name c.args.cursor.now c.read_held.new.cursor r.result c.in_err-read_held.field-0.0 r.ensures.1 (c.in_err-read_held.ensures.answers n name lt)

pub returns-clause-answers : goal.returns-clause-answers
returns-clause-answers g c = λ n name lt. record {
  arena = c.read_held.new.builder;
  is = c.close_holder.ensures;
  pairs = c.in_ok-read_held.ensures.answers n name lt;
}
