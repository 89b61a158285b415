-- A text stands first where its content does.
use Rattle.std.proofs.Common.{◌<◌, sym, subst}
use Rattle.amf_tables.proofs.TextFirsts.{absent_by_contents, number_within, first_read}
use Rattle.amf_tables.proofs.hashed_texts.HashedTexts.place_of.Goals as goal

pub returns-in_err-number-clause-none : goal.returns-in_err-number-clause-none
returns-in_err-number-clause-none c = rw (c.from_residual.ensures, ← c.self.view_is) (absent_by_contents c.self.inside.texts c.args.bytes.now c.in_err-number.ensures)

pub index-requires : goal.index-requires
index-requires c =
    subst (λ n. c.in_ok-number.number < n) (sym c.self.inside.firsts.ok.0)
    (number_within c.self.inside.texts c.self.inside.firsts.items c.in_ok-number.number c.args.bytes.now c.self.invariant c.in_ok-number.ensures)

pub returns-clause-first : goal.returns-clause-first
returns-clause-first c =
    rw (← c.self.view_is)
    (first_read c.self.inside.texts c.self.inside.firsts.items c.in_ok-number.number c.index.result.now c.args.bytes.now c.self.invariant c.in_ok-number.ensures c.index.ensures)
