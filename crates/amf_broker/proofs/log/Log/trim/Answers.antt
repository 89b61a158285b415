-- Nothing goes, or what nobody waits for.
use Rattle.std.proofs.Common.{◌≡◌, ◌∙◌, List, sym, ap, subst}
use Rattle.std.specs.Prelude.{◌||◌, nat_le, filter}
use Rattle.std.specs.List.{list_any}
use Rattle.amf_broker.specs.declared.slot.Slot.{Slot}
use Rattle.amf_broker.specs.Delivery.{Message}
use Rattle.amf_broker.specs.Trims.{is_owed, is_needed}
use Rattle.amf_broker.specs.Slots.{standing, stands_at, is_needed_at, AreAmong}
use Rattle.amf_broker.proofs.Trims.{all-needed, first-zero, filter-as}
use Rattle.amf_broker.proofs.Among.{first-among, owed-among}
use Rattle.amf_broker.proofs.log.Log.trim.Goals as goal

pub returns-then-is_short-clause-log : goal.returns-then-is_short-clause-log
returns-then-is_short-clause-log c = record {
  first = 0;
  is = first-zero c.args.self.now.topic (standing c.args.places.now);
  line = ap (λ ms. record c.args.self.now { posts = ms }) (sym (all-needed c.args.self.now.topic (standing c.args.places.now) c.args.self.now.posts));
}

pub returns-clause-log : goal.returns-clause-log
returns-clause-log c =
    let t = c.self.inside.topic in
    let ss = c.args.places.now in
    let is = c.of_topic-spots.result.now in
    let first = c.first_of-first.result in
    let slots : c.slots-slots.result.now ≡ ss = c.slots-slots.ensures ∙ c.prune_topic.ensures in
    let among = subst (λ (xs : List Slot). AreAmong t is xs) c.prune_topic.ensures c.of_topic-spots.ensures in
    let owed : (m : Message) → list_any (stands_at (is_owed t m) c.slots-slots.result.now) c.debtors-debtors.result.now ≡ list_any (is_owed t m) (standing ss) =
    λ m. c.debtors-debtors.ensures m ∙ (ap (λ (xs : List Slot). list_any (stands_at (is_owed t m) xs) is) slots ∙ owed-among t m is ss among) in
    let posts : c.keep_needed.new.posts.items ≡ filter (is_needed t first (standing ss)) c.self.inside.posts.items =
    c.keep_needed.ensures
    ∙ filter-as (is_needed_at t first c.slots-slots.result.now c.debtors-debtors.result.now) (is_needed t first (standing ss)) (λ m. ap (λ b. nat_le first m.number || b) (owed m)) c.self.inside.posts.items in
    rw (← c.self.view_is) (record {
      first = first;
      is = first-among t first is ss among (rw slots at c.first_of-first.ensures);
      line = ap (λ (ms : List Message). record { topic = t; posts = ms; members = c.self.inside.members.items }) posts;
    })
