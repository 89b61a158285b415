use Rattle.std.proofs.Common.{◌≢◌, sym, ◌∙◌, arith}
use Rattle.std.proofs.lemmas.Bool.{true≢false}
use Rattle.amf_tables.specs.ShownTraits.{shown_entry}
use Rattle.amf_tables.specs.WrittenParts.{entry_of}
use Rattle.amf_tables.proofs.WrittenEntries.{plain_here, plain_not_here, plain_nowhere}
use Rattle.amf_tables.proofs.traits_table.first_plain.Goals as goal

pub returns-then-is_plain-clause-first : goal.returns-then-is_plain-clause-first
returns-then-is_plain-clause-first c = plain_here c.args.texts.now c.args.entries.now (shown_entry c.args.graph.now.arena c.args.traits.now) c.loop-place.place c.index-entries-place.result (omega arith) c.index-entries-place.is (c.is_plain.ensures.0 c.if-is_plain.true) c.loop-place.invariant

pub loop-place-preserved : goal.loop-place-preserved
loop-place-preserved c =
    let e = shown_entry c.args.graph.now.arena c.args.traits.now in
    let other : entry_of c.args.texts.now c.index-entries-place.result ≢ e = λ s. true≢false (sym (c.is_plain.ensures.1 s) ∙ c.if-is_plain.false) in
    plain_not_here c.args.texts.now c.args.entries.now e c.loop-place.place c.index-entries-place.result (omega arith) c.index-entries-place.is other c.loop-place.invariant

pub returns-clause-none : goal.returns-clause-none
returns-clause-none c = plain_nowhere c.args.texts.now c.args.entries.now (shown_entry c.args.graph.now.arena c.args.traits.now) c.loop-place.place (omega arith) c.loop-place.invariant
