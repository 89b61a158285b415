use Rattle.std.proofs.Common.{◌++◌, ◌<◌, length, refl, sym, subst, List, ℕ}
use Rattle.std.specs.Int.{to_be_bytes, w16}
use Rattle.amf_graph.specs.Arena.{text_at}
use Rattle.amf_graph.specs.Rooted.{content}
use Rattle.amf0_write.specs.Writes0.{Adds}
use Rattle.amf0_write.proofs.Leading0.{leads_name}
use Rattle.amf0_write.proofs.MetValues0.{text_in}
use Rattle.amf0_write.proofs.Runs0.{on_ok}
use Rattle.amf0_write.proofs.output.Output.name.Goals as goal

pub short-requires : goal.short-requires
short-requires c = subst (λ (x : List ℕ). length x < 65536) (sym c.text.ensures) c.requires.fits

pub returns-clause-leads : goal.returns-clause-leads
returns-clause-leads c =
    let a = c.args.graph.now.arena in
    let x = text_at a c.args.name.0 in
    on_ok c.short.result (λ h ps.
    leads_name (content c.args.graph.now) x (to_be_bytes w16 (length x) ++ x) ps c.args.self.now c.short.new.self (text_in a c.args.name.0 c.is_finished.ensures.finished c.requires.there) c.requires.fits refl
    (subst (λ (y : List ℕ). Adds (to_be_bytes w16 (length y) ++ y) c.args.self.now c.short.new.self) c.text.ensures h)) c.short.ensures.adds

pub returns-clause-still : goal.returns-clause-still
returns-clause-still c = on_ok c.short.result (λ h. (h.tables, h.loose)) c.short.ensures.adds
