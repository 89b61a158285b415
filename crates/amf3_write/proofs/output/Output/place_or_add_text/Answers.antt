use Rattle.std.proofs.Common.{◌≡◌, sym, subst}
use Rattle.amf3_spelling.specs.Tables.{Tables}
use Rattle.amf3_write.proofs.output.Output.place_or_add_text.Goals as goal

pub returns-clause-ready : goal.returns-clause-ready
returns-clause-ready c = record {
  placed = subst (λ (t : Tables). t.done ≡ t.nodes) (sym c.place_or_add_text.ensures.rest) c.requires.ready.placed;
  known = c.place_or_add_text.ensures.known;
}
