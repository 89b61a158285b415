use Rattle.std.proofs.Common.{sym, subst}
use Rattle.amf0_spelling.specs.declared.form.Form.{Form}
use Rattle.amf_packet.specs.declared.body.Body.TheVariants.{Call}
use Rattle.amf_packet.specs.Items.{IsBodyOf}
use Rattle.amf_packet.proofs.read_body.formed.Goals as goal

pub only_item-requires : goal.only_item-requires
only_item-requires c = record { call = c.requires.call c.in-Call.is }

pub returns-in-Call : goal.returns-in-Call
returns-in-Call c = subst (λ (f : Form). IsBodyOf c.args.graph f (Call c.only_item.result)) (sym c.in-Call.is) (c.only_item.ensures.arena, c.only_item.ensures.root)
