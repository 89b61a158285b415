use Rattle.std.proofs.Common.{arith}
use Rattle.amf_text_graphs.proofs.Members.{among_there, nowhere_shown, shown_ok}
use Rattle.amf_text_graphs.proofs.ordered.member.Goals as goal

pub returns-then-place-pairs-clause-shows : goal.returns-then-place-pairs-clause-shows
returns-then-place-pairs-clause-shows c =
    shown_ok c.args.rows.now c.value.new.book _ _ c.value.result
    (among_there c.args.name.now c.args.pairs.now c.args.names.now _ c.place-place.result c.requires.names c.place-place.ensures (omega arith)) c.value.ensures.shows

pub returns-else-place-pairs-clause-shows : goal.returns-else-place-pairs-clause-shows
returns-else-place-pairs-clause-shows c =
    λ a g. nowhere_shown c.args.rows.now a c.args.name.now c.args.pairs.now c.args.names.now c.place-place.result c.requires.names c.place-place.ensures (omega arith)
