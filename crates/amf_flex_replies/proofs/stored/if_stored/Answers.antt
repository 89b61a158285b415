use Rattle.std.proofs.Common.{◌≡◌, refl}
use Rattle.amf_flex_replies.proofs.stored.if_stored.Goals as goal

pub returns-then-is_stored-clause-some : goal.returns-then-is_stored-clause-some
returns-then-is_stored-clause-some c = (c.is_stored.ensures.0 c.if-is_stored.true, refl)

pub returns-else-is_stored-clause-none : goal.returns-else-is_stored-clause-none
returns-else-is_stored-clause-none c = λ n h. let yes = c.is_stored.ensures.1 h in let no = c.if-is_stored.false in cc
