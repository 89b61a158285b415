-- The line stands behind the others, and its hash is noted.
use Rattle.std.proofs.Common.{◌≡◌, ◌∙◌, ◌∷◌, ◌++◌, [], sym, ap, true, rules}
use Rattle.amf_broker.specs.Index.{topic_hash, is_noted}
use Rattle.amf_broker.proofs.Noted.{apart-more, noted-stays, noted-more}
use Rattle.amf_broker.proofs.logs.Logs.add.Goals as goal

pub invariant_of-self : goal.invariant_of-self
invariant_of-self c = (c.self.invariant.0, noted-stays c.self.inside.start c.self.inside.places c.note.new.places c.in_err-note.ensures.stays c.self.inside.list.items c.self.invariant.1)

pub invariant_of-self-in_err-push : goal.invariant_of-self-in_err-push
invariant_of-self-in_err-push c =
    let lines = c.self.inside.list.items in
    rw c.in_err-push.ensures.items (c.self.invariant.0, noted-stays c.self.inside.start c.self.inside.places c.note.new.places c.in_ok-note.ensures.stays lines c.self.invariant.1)

pub invariant_of-self-2 : goal.invariant_of-self-2
invariant_of-self-2 c =
    let lines = c.self.inside.list.items in
    let absent = rw (← c.self.view_is) at c.requires in
    let noted : is_noted c.note.new.places (topic_hash c.self.inside.start c.args.log.topic) ≡ true = ap (is_noted c.note.new.places) (sym (c.hash_of-hash.ensures ∙ ap (topic_hash c.self.inside.start) c.topic.ensures)) ∙ c.in_ok-note.ensures.ok in
    let pushed : c.push.new.self.items ≡ lines ++ (c.args.log ∷ []) = search rules in
    rw pushed (apart-more lines c.args.log absent c.self.invariant.0, noted-more c.self.inside.start c.note.new.places lines c.args.log (noted-stays c.self.inside.start c.self.inside.places c.note.new.places c.in_ok-note.ensures.stays lines c.self.invariant.1) noted)
