-- A reply that is filled has texts that fit.
use Rattle.std.proofs.Common.{◌≡◌, ℕ, List}
use Rattle.flex_msgs.specs.Built.{IsReply, IsShortReply}
use Rattle.amf_answer_plan.specs.Kept.{Fits, ContextFits}
use Rattle.amf_answer_plan.specs.Replies.{Context, reply_with}
use Rattle.amf_answer_plan.proofs.Texts.{identifier_fits}

pub reply_texts : (k : Context) (client : List ℕ) (high low m : ℕ) → ContextFits k → Fits client → IsReply (reply_with k client high low m)
reply_texts k client high low m f c = record { client = c.text; destination = f.destination.text; ds_id = f.ds_id.text; message = (identifier_fits high low).text; correlation = f.correlation.text }

pub reply_short : (k : Context) (client : List ℕ) (high low m : ℕ) → ContextFits k → Fits client → IsShortReply (reply_with k client high low m)
reply_short k client high low m f c = record { client = c.short; destination = f.destination.short; ds_id = f.ds_id.short; message = (identifier_fits high low).short; correlation = f.correlation.short }
