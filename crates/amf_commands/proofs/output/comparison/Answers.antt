-- Want of memory for the line.
use Rattle.std.proofs.lemmas.Result.{err_from_is_err_and}
use Rattle.amf_commands.proofs.output.comparison.Goals as goal

pub returns-in_err-compared-clause-reads : goal.returns-in_err-compared-clause-reads
returns-in_err-compared-clause-reads g c = λ told.
    let p = err_from_is_err_and c.from_residual-in_err-compared.result c.from_residual-in_err-compared.ensures.1 in
    rw (p.1, p.2) tt

pub returns-in_err-compared-clause-counts : goal.returns-in_err-compared-clause-counts
returns-in_err-compared-clause-counts g c =
    let p = err_from_is_err_and c.from_residual-in_err-compared.result c.from_residual-in_err-compared.ensures.1 in
    rw (p.1, p.2) c.in_ok-left.ensures.counts

pub returns-in_err-compared-clause-ends : goal.returns-in_err-compared-clause-ends
returns-in_err-compared-clause-ends g c =
    let p = err_from_is_err_and c.from_residual-in_err-compared.result c.from_residual-in_err-compared.ensures.1 in
    rw (p.1, p.2) tt
