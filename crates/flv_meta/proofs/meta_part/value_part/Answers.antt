-- Metadata, or another name.
use Rattle.std.proofs.Common.{◌-◌, ◌∙◌, sym, length, take, drop, arith}
use Rattle.flv_meta.proofs.TagParts.{long, data_is, other_name, named, value_is}
use Rattle.flv_meta.proofs.meta_part.value_part.Goals as goal

pub returns-then-named : goal.returns-then-named
returns-then-named c = λ t h e.
    let bytes = c.args.bytes.now in
    let found = take (length bytes - 4 - 11) (drop 11 bytes) in
    let d = data_is t h bytes e (length bytes - 4 - 11) (omega (arith, long t h bytes e)) in
    (named t bytes found e d (omega arith) (sym c.is_name-named.ensures ∙ c.if-named.true), value_is t found (length found - 13) d (omega arith))

pub returns-else-named : goal.returns-else-named
returns-else-named c = λ t h e.
    let bytes = c.args.bytes.now in
    let found = take (length bytes - 4 - 11) (drop 11 bytes) in
    other_name t found (data_is t h bytes e (length bytes - 4 - 11) (omega (arith, long t h bytes e))) (sym c.is_name-named.ensures ∙ c.if-named.false)
