use Rattle.std.proofs.Common.{List, subst}
use Rattle.amf_tables.specs.FirstPlace.{IsFirstPlace}
use Rattle.amf_tables.specs.WrittenParts.{Written}
use Rattle.amf_tables.proofs.traits_table.TraitsTable.place_of_entry.Goals as goal

pub returns-then-is_first-clause-first : goal.returns-then-is_first-clause-first
returns-then-is_first-clause-first c =
    subst (λ (xs : List Written). IsFirstPlace xs c.args.entry.now 0) c.self.view_is
    (subst (λ (xs : List Written). IsFirstPlace xs c.args.entry.now 0) c.deref.ensures.value (c.is_first.ensures c.if-is_first.true))
