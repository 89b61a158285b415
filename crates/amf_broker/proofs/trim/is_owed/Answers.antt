-- It is asked of those that are noted.
use Rattle.std.proofs.Common.{rules, tests}
use Rattle.std.proofs.lemmas.Iterator.{YieldsList-from_slice}
use Rattle.std.proofs.lemmas.Iterator.Search.{any_from_yields_List}
use Rattle.amf_broker.specs.Trims.{is_owed}
use Rattle.amf_broker.specs.Slots.{stands_at}
use Rattle.amf_broker.proofs.trim.is_owed.Goals as goal

pub returns : goal.returns
returns c = any_from_yields_List (stands_at (is_owed c.args.topic.now c.args.post.now) c.args.slots.now) _ _ c.any.result c.any.ensures.ran (YieldsList-from_slice c.args.spots.now cc) (λ x b q k. search (rules, tests))
