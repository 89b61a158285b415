use Rattle.std.proofs.Common.{◌∷◌, ◌∙◌, [], refl, arith}
use Rattle.amf0_write.specs.Writes0.{name, ending}
use Rattle.amf0_write.proofs.Leading0.{leads_then, leads_name, leads_end}
use Rattle.amf0_write.proofs.Runs0.{on_ok}
use Rattle.amf0_write.proofs.output.Output.end.Goals as goal

pub returns-clause-leads : goal.returns-clause-leads
returns-clause-leads c =
    let o = c.args.self.now in
    let m = c.short.new.self in
    on_ok c.byte.result (λ h g ps.
    leads_then g (name [] ∷ ending ∷ ps) (ending ∷ ps) ps o m c.byte.new.self (leads_name g [] _ (ending ∷ ps) o m ([], tt, refl) (omega arith) refl c.in_ok-short.ensures.adds) (leads_end g ps m c.byte.new.self h)) c.byte.ensures.adds

pub returns-clause-still : goal.returns-clause-still
returns-clause-still c = on_ok c.byte.result (λ h. (h.tables ∙ c.in_ok-short.ensures.adds.tables, h.loose ∙ c.in_ok-short.ensures.adds.loose)) c.byte.ensures.adds
