-- The slot is out with the seat.
use Rattle.std.proofs.Common.{rules, sym, ap, ◌∙◌, ◌∷◌, Some}
use Rattle.atomic_table.specs.Table.{rest}
use Rattle.amf_desk.proofs.desk.Desk.take_out.Goals as goal

pub exchange-requires : goal.exchange-requires
exchange-requires c = let has = c.requires.out.1 in (search rules, (Some c.requires.out.0, has ∙ sym (ap (λ xs. (0, Some c.requires.out.0) ∷ rest xs) has)))
