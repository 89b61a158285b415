use Rattle.std.proofs.Common.{◌≡◌, ◌++◌, Err, ap, ◌∙◌}
use Rattle.amf_io.specs.Field.{flat}
use Rattle.amf_graph.specs.declared.write_end.WriteEnd.TheVariants as writer
use Rattle.flv_meta.proofs.meta_write.canonical0.Goals as goal

pub returns-in-Ok-clause-written : goal.returns-in-Ok-clause-written
returns-in-Ok-clause-written c =
    let w = c.in-Ok.ensures.written in
    record { low = w.0; lowered = w.1; fields = w.2.0; spelled = w.2.1; is = w.2.2 ∙ ap (λ o. o ++ flat w.2.0) c.new-bytes.ensures.items }

pub returns-in-Err-clause-lack : goal.returns-in-Err-clause-lack
returns-in-Err-clause-lack c = λ l is.
    let e : c.in-Err.end ≡ writer.NoSpelling l = cc in
    let w = c.in-Err.ensures.lack l (ap Err e) in
    record { low = w.0; lowered = w.1; lack = w.2 }
