use Rattle.std.proofs.Common.{◌-◌}
use Rattle.amf_tables.proofs.AlikeTraits.{first_alike}
use Rattle.amf_tables.proofs.known_words.place_before.Goals as goal

pub returns-then-are_alike : goal.returns-then-are_alike
returns-then-are_alike c = λ entries known.
    let before = c.args.traits.0 - 1 in
    first_alike c.args.graph.now.arena entries c.args.traits.0 before c.in_ok-place.place c.traits.result c.traits-2.result c.traits.ensures c.traits-2.ensures (c.are_alike.ensures c.if-are_alike.true)
    (known before c.in_ok-place.place c.in_ok-place.ensures.known.0 c.in_ok-place.ensures.known.1)
