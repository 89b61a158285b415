use Rattle.amf_tables.specs.WrittenParts.{shown_traits}
use Rattle.amf_tables.proofs.WrittenEntries.{none_of, some_of, class_unwritten, sealed_unwritten, written_for}
use Rattle.amf_tables.proofs.written_entry.WrittenEntry.coded.Goals as goal

pub returns-in_default : goal.returns-in_default
returns-in_default c = class_unwritten c.args.texts.now (shown_traits c.args.graph.now.arena c.args.traits.now) (none_of _ _ c.code_of.result c.in_default.is c.code_of.ensures)

pub returns-in_default-2 : goal.returns-in_default-2
returns-in_default-2 c = sealed_unwritten c.args.texts.now (shown_traits c.args.graph.now.arena c.args.traits.now) (none_of _ _ _ c.in_default-2.is c.in_ok-sealed.ensures)

pub returns : goal.returns
returns c = written_for c.args.texts.now (shown_traits c.args.graph.now.arena c.args.traits.now) c.in-Some.class c.in-Some-2.sealed.items
    (some_of _ _ c.code_of.result c.in-Some.class c.in-Some.is c.code_of.ensures) (some_of _ _ _ c.in-Some-2.sealed c.in-Some-2.is c.in_ok-sealed.ensures)
