-- One that is not given is left.
use Rattle.std.proofs.Common.{◌≡◌, ◌<◌, false, length, get_or, sym, arith}
use Rattle.amf_graph.specs.TextNumbers.{contents_of}
use Rattle.amf_text_read.proofs.Left.{some_left, none_left}
use Rattle.amf_text_read.proofs.names.Names.has_left.Goals as goal

pub returns-then-not-is_set : goal.returns-then-not-is_set
returns-then-not-is_set c =
    let texts = contents_of c.self.inside.told in
    let within : c.loop-place.place < length texts = omega (arith, c.content_count-place-end.ensures, c.loop-place-test.true) in
    let unset : get_or c.self.inside.given.items c.loop-place.place false ≡ false = cc (c.is_set.ensures, c.deref.ensures.value, c.if-not-is_set.true) in
    rw (← c.self.view_is) (sym (some_left c.self.inside.given.items texts c.loop-place.place within unset))

pub returns : goal.returns
returns c =
    let texts = contents_of c.self.inside.told in
    rw (← c.self.view_is) (sym (none_left c.self.inside.given.items texts (λ n k. c.loop-place.invariant n (omega (arith, c.content_count-place-end.ensures, c.loop-place-test.false)))))
