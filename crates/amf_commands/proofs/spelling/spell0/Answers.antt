use Rattle.std.proofs.Common.{◌≡◌, ◌++◌, Err, refl, ap, ◌∙◌}
use Rattle.amf_io.specs.Field.{flat}
use Rattle.amf_graph.specs.declared.write_end.WriteEnd.TheVariants.{NoSpelling}
use Rattle.amf_commands.specs.Content.{value}
use Rattle.amf_commands.proofs.spelling.spell0.Goals as goal

pub returns-in-Ok-clause-written : goal.returns-in-Ok-clause-written
returns-in-Ok-clause-written c =
    let w = c.in-Ok.ensures.written in
    (value w.0, w.1, (w.2.0, w.2.1, w.2.2 ∙ ap (λ o. o ++ flat w.2.0) c.new-bytes.ensures.items))

pub returns-in-Err-clause-lack : goal.returns-in-Err-clause-lack
returns-in-Err-clause-lack c = λ l is.
    let e : c.in-Err.end ≡ NoSpelling l = cc in
    let w = c.in-Err.ensures.lack l (ap Err e) in
    (value w.0, w.1, (refl, w.2))
