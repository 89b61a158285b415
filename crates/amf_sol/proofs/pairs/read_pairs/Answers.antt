use Rattle.amf_io.specs.declared.ends.ReadEnd.TheVariants.{Memory}
use Rattle.amf_sol.proofs.PairLoops.{pairs_unread, pairs_passed}
use Rattle.amf_sol.proofs.pairs.read_pairs.Goals as goal

pub returns-in_err-tables-clause-answers : goal.returns-in_err-tables-clause-answers
returns-in_err-tables-clause-answers g c = λ n name lt.
    let S = g.S.Source in
    let k = c.args.cursor.now in
    let v = c.args.version in
    pairs_passed S.tells S.left v n name k k c.args.builder.now c.from_residual.result Memory c.from_residual.ensures.1 (pairs_unread S.tells S.left v n name k k)
