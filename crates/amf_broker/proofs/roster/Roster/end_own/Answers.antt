-- These subscriptions end, by what is noted of its client.
use Rattle.std.proofs.Common.{◌≡◌, ℕ, ◌∙◌, sym, map}
use Rattle.std.specs.Prelude.{◌==◌}
use Rattle.std.specs.List.{list_any}
use Rattle.amf_broker.specs.Members.{logs_of}
use Rattle.amf_broker.specs.Slots.{own_ended, spots_of}
use Rattle.amf_broker.specs.Index.{topic_hash}
use Rattle.amf_broker.proofs.Rounds.{mapped}
use Rattle.amf_broker.proofs.Among.{among-map, of-own}
use Rattle.amf_broker.proofs.Slots.{changed-all, found-map, found-pruning}
use Rattle.amf_broker.proofs.Owners.{less-own, own-idle}
use Rattle.amf_broker.proofs.roster.Roster.end_own.Goals as goal

pub invariant_of-self : goal.invariant_of-self
invariant_of-self c =
    let k = c.args.client in
    let m = c.args.number in
    let n = c.args.next in
    let o = λ (sub : ℕ). list_any (λ id. id == sub) c.args.ended.now.subs.items in
    let logs = logs_of c.args.logs.now in
    let g = own_ended (λ (j : ℕ). j == k) m n o logs in
    let ss = c.self.inside.slots.items in
    let changed : c.end_own.new.slots ≡ map g ss =
    (rw (c.deref_mut.ensures.value, c.spots_of.ensures) at c.end_own.ensures) ∙ changed-all k g (own-idle (λ (j : ℕ). j == k) m n o logs) (spots_of c.self.inside.spots k) ss (c.self.invariant.0 k) in
    let is = mapped g c.self.inside.slots.len ss c.end_own.new.slots (sym c.self.inside.slots.ok.0) changed in (
      λ j.
          let noted = rw (c.deref.ensures.value, is) at (c.prune_spots.ensures j) in
          rw is (found-pruning k j (spots_of c.self.inside.spots j) (spots_of c.prune_spots.new.spots j) (map g ss) noted
          (found-map j g (less-own (λ (j : ℕ). j == k) m n o logs j) (spots_of c.self.inside.spots j) ss (c.self.invariant.0 j))),
      λ t. rw is (among-map t g (of-own t (λ (j : ℕ). j == k) m n o logs) (spots_of c.self.inside.topics (topic_hash c.self.inside.start t)) ss (c.self.invariant.1 t)),
    )

pub returns : goal.returns
returns c =
    let k = c.args.client in
    let m = c.args.number in
    let n = c.args.next in
    let o = λ (sub : ℕ). list_any (λ id. id == sub) c.args.ended.now.subs.items in
    let logs = logs_of c.args.logs.now in
    let g = own_ended (λ (j : ℕ). j == k) m n o logs in
    let ss = c.self.inside.slots.items in
    let changed : c.end_own.new.slots ≡ map g ss =
    (rw (c.deref_mut.ensures.value, c.spots_of.ensures) at c.end_own.ensures) ∙ changed-all k g (own-idle (λ (j : ℕ). j == k) m n o logs) (spots_of c.self.inside.spots k) ss (c.self.invariant.0 k) in
    rw (← c.self.view_is) (mapped g c.self.inside.slots.len ss c.end_own.new.slots (sym c.self.inside.slots.ok.0) changed)
