use Rattle.std.proofs.Common.{subst}
use Rattle.std.specs.List.{AllByRecursion}
use Rattle.amf_tables.specs.ShownTraits.{shown_entry}
use Rattle.amf_tables.specs.WrittenParts.{IsNoCopy, IsWrittenFor}
use Rattle.amf_tables.proofs.WrittenEntries.{none_of, some_of, found_coded, missed_coded, absent_unwritten}
use Rattle.amf_tables.proofs.traits_table.TraitsTable.place_of.Goals as goal

pub place_of_entry-requires : goal.place_of_entry-requires
place_of_entry-requires c =
    let for : IsWrittenFor c.args.texts.now (shown_entry c.args.graph.now.arena c.args.traits.now) c.in-Ok-Some.entry = some_of _ _ c.in-Ok-Some.field-0 c.in-Ok-Some.entry c.in-Ok-Some.field-0-is c.in-Ok-Some.ensures in
    rw (c.in-Ok-Some.field-0-is) for.own

pub returns-in-Ok-Some-clause-first : goal.returns-in-Ok-Some-clause-first
returns-in-Ok-Some-clause-first c =
    let own = subst (AllByRecursion IsNoCopy) c.self.view_is (c.self.invariant.2 c.if-self.false) in
    let for : IsWrittenFor c.args.texts.now (shown_entry c.args.graph.now.arena c.args.traits.now) c.in-Ok-Some.entry = some_of _ _ c.in-Ok-Some.field-0 c.in-Ok-Some.entry c.in-Ok-Some.field-0-is c.in-Ok-Some.ensures in
    found_coded c.args.texts.now c.args.self.now (shown_entry c.args.graph.now.arena c.args.traits.now) c.in-Ok-Some.entry c.place_of_entry.result c.requires.codes own for (rw c.in-Ok-Some.field-0-is at c.place_of_entry.ensures.first)

pub returns-in-Ok-Some-clause-none : goal.returns-in-Ok-Some-clause-none
returns-in-Ok-Some-clause-none c =
    let own = subst (AllByRecursion IsNoCopy) c.self.view_is (c.self.invariant.2 c.if-self.false) in
    let for : IsWrittenFor c.args.texts.now (shown_entry c.args.graph.now.arena c.args.traits.now) c.in-Ok-Some.entry = some_of _ _ c.in-Ok-Some.field-0 c.in-Ok-Some.entry c.in-Ok-Some.field-0-is c.in-Ok-Some.ensures in
    missed_coded c.args.texts.now c.args.self.now (shown_entry c.args.graph.now.arena c.args.traits.now) c.in-Ok-Some.entry c.place_of_entry.result c.requires.codes own for (rw c.in-Ok-Some.field-0-is at c.place_of_entry.ensures.none)

pub returns-in-Ok-None-clause-none : goal.returns-in-Ok-None-clause-none
returns-in-Ok-None-clause-none c =
    let own = subst (AllByRecursion IsNoCopy) c.self.view_is (c.self.invariant.2 c.if-self.false) in
    absent_unwritten c.args.texts.now c.args.self.now (shown_entry c.args.graph.now.arena c.args.traits.now) c.requires.codes own (none_of _ _ c.in-Ok-None.field-0 c.in-Ok-None.field-0-is c.in-Ok-None.ensures)
