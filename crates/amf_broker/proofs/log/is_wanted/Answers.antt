-- It is asked of the places of the topic.
use Rattle.std.proofs.Common.{◌∙◌, ap, subst}
use Rattle.amf_broker.specs.declared.topic.Topic.{Topic}
use Rattle.amf_broker.specs.Machine.{is_same_topic}
use Rattle.amf_broker.specs.Members.{Line}
use Rattle.amf_broker.specs.Slots.{AreAmong}
use Rattle.amf_broker.proofs.Among.{any-among}
use Rattle.amf_broker.proofs.log.is_wanted.Goals as goal

pub returns : goal.returns
returns c =
    let t = c.args.log.now.topic in
    let ss = c.args.places.now in
    let among = subst (λ (s : Topic). AreAmong s c.of_topic.result.now ss) (ap (λ (l : Line). l.topic) c.log.view_is) c.of_topic.ensures in
    rw c.slots.ensures at c.has_placed.ensures ∙ any-among (λ u. is_same_topic u.topic t) t c.of_topic.result.now ss among (λ u e. e)
