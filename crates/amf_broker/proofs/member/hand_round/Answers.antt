-- The message comes to one member more.
use Rattle.std.proofs.Common.{◌≡◌, ◌+◌, ◌∷◌, ◌++◌, ◌∙◌, [], ap, sym, length, take, drop, set, arith, rules}
use Rattle.std.specs.Prelude.{Some, None}
use Rattle.std.proofs.lemmas.List.{append-nil, set-get_or}
use Rattle.amf_broker.specs.Lines.{waiters_rise}
use Rattle.amf_broker.proofs.Rounds.{length-ended, length-next, split-at, rise-after, present-at, room-at, waiters-at, ended-at}
use Rattle.amf_broker.proofs.member.hand_round.Goals as goal
use Rattle.amf_broker.proofs.member.hand_round.Goals.{in-Some, in_default}

pub hand_over-requires-clause-rise : goal.hand_over-requires-clause-rise
hand_over-requires-clause-rise c =
    ap (waiters_rise 0) c.loop-member.invariant.clients ∙ (rise-after 0 (take c.loop-member.member-index c.args.members.now) c.args.clients.now ∙ c.requires.rise)

pub hand_over-requires-clause-present : goal.hand_over-requires-clause-present
hand_over-requires-clause-present c =
    present-at c.args.members.now c.loop-member.members c.loop-member.member-index _ c.args.clients.now c.loop-member.clients c.loop-member-test.true c.loop-member.invariant.same c.loop-member.invariant.clients c.requires.present

pub hand_over-requires-clause-room : goal.hand_over-requires-clause-room
hand_over-requires-clause-room c =
    room-at c.args.members.now c.loop-member.members c.loop-member.member-index _ c.args.clients.now c.loop-member.clients c.loop-member-test.true c.loop-member.invariant.same c.loop-member.invariant.clients c.requires.places

pub unwrap-requires : goal.unwrap-requires
unwrap-requires c =
    let ms = c.args.members.now in
    let i = c.loop-member.member-index in
    let next = length-next _ (take i ms) (drop (i + 1) ms) ms (split-at ms i (record { sub = 0; client = 0 }) c.loop-member-test.true) in
    let few = length-ended (take i ms) c.args.clients.now in
    let same = ap length c.loop-member.invariant.ended in
    let room = c.requires.room in
    let kept = c.loop-member.invariant.room in
    let count = c.loop-member.ended.ok.0 in
    c.push.ensures.succeeds (omega arith)

pub loop-member-preserved : goal.loop-member-preserved
loop-member-preserved c =
    let i = c.loop-member.member-index in
    let ms = c.args.members.now in
    let now = c.loop-member.members in
    let ws = c.args.clients.now in
    let vs = c.loop-member.clients in
    let less = c.loop-member-test.true in
    let inv = c.loop-member.invariant in
    let back = ap (set now i) c.hand_over.ensures.same ∙ (set-get_or now i _ ∙ inv.same) in
    elim c.match-hand_over.branch [
      | in-Some w ↦
          let pushed : w.push.new.self.items ≡ c.loop-member.ended.items ++ (w.in-Some.sub ∷ []) = search rules in
          record {
            clients = waiters-at ms now i _ ws vs less inv.same inv.clients c.hand_over.new.clients c.hand_over.ensures.clients;
            ended = rw w.ended-is (pushed ∙ ended-at ms now i _ ws vs less inv.same inv.clients c.loop-member.ended.items (Some w.in-Some.sub) inv.ended w.in-Some.ensures.ended);
            room = rw w.ended-is (let kept = inv.room in let grown = w.push.ensures.capacity in omega arith);
            same = back;
          }
      | in_default w ↦
          record {
            clients = waiters-at ms now i _ ws vs less inv.same inv.clients c.hand_over.new.clients c.hand_over.ensures.clients;
            ended = rw w.ended-is (sym (append-nil c.loop-member.ended.items) ∙ ended-at ms now i _ ws vs less inv.same inv.clients c.loop-member.ended.items None inv.ended w.in_default.ensures.ended);
            room = rw w.ended-is inv.room;
            same = back;
          }
    ]
