use Rattle.amf_text_draft_tests.proofs.Held.{traits_in}
use Rattle.amf_text_draft_tests.proofs.shown.put_class.Goals as goal

pub text-requires : goal.text-requires
text-requires g c = (traits_in c.args.graph.now.arena c.args.traits.0 c.traits-class.result c.is_finished.ensures.finished c.requires c.traits-class.ensures).class

pub put_names-requires : goal.put_names-requires
put_names-requires g c = (traits_in c.args.graph.now.arena c.args.traits.0 c.traits-class.result c.is_finished.ensures.finished c.requires c.traits-class.ensures).sealed
