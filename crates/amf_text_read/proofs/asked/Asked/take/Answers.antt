use Rattle.json.specs.Reads.{token_of}
use Rattle.amf_text_read.specs.Lists.{held_of}
use Rattle.amf_text_read.proofs.Judged.{next_take}
use Rattle.amf_text_read.proofs.asked.Asked.take.Goals as goal

pub note-requires : goal.note-requires
note-requires c = next_take (held_of c.args.self.now.lists) c.in-Some.goal (token_of c.args.token.now) c.in_ok-next.field-0 c.in-Some-2.next c.in-Some-2.is c.in_ok-next.ensures
