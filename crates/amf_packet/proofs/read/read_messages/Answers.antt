use Rattle.std.proofs.Common.{◌≡◌, suc, ◌+◌, ◌-◌, List, ◌∷◌, [], ◌++◌, sym, subst, arith}
use Rattle.std.proofs.lemmas.List.Sums.{sum_by-append}
use Rattle.amf_wire.specs.Style.{free}
use Rattle.amf_packet.specs.declared.packet.Message.{Message}
use Rattle.amf_packet.specs.Content.{message_of}
use Rattle.amf_packet.specs.LayoutPacket.{message_layout, list_layout}
use Rattle.amf_packet.specs.Packet.{MessageBy, ListBy}
use Rattle.amf_packet.specs.PacketAnswer.{body_weight, messages_weight}
use Rattle.amf_packet.specs.ReadParts.{Took, ListSo}
use Rattle.amf_packet.proofs.PartReads.{fueled_passed, count_end, item_end, list_took}
use Rattle.amf_packet.proofs.Taken.{list_none, list_more}
use Rattle.amf_packet.proofs.read.read_messages.Goals as goal

pub returns-in_err-count-clause-reads : goal.returns-in_err-count-clause-reads
returns-in_err-count-clause-reads g c =
    let S = g.S.Source in
    let k = c.args.cursor.now in
    let d = c.read_count.new.cursor in
    let end = c.in_err-count.field-0.0 in
    fueled_passed S.tells S.left S.faults (λ (xs : List Message). ListBy (λ x. MessageBy free (message_of x)) xs) (λ n. list_layout (message_layout n)) k d c.from_residual.result end c.from_residual.ensures.1
    (count_end S.tells S.left S.faults message_layout k d end c.in_err-count.ensures.reads)

pub loop-init : goal.loop-init
loop-init g c =
    let S = g.S.Source in
    let n = c.in_ok-count.count in
    let d = c.read_count.new.cursor in
    let all : n ≡ n - 0 = omega arith in
    subst (λ j. ListSo S.tells S.left S.faults (λ x. MessageBy free (message_of x)) (λ x. body_weight x.body) message_layout n j c.new-messages.result.items (messages_weight c.new-messages.result.items) d d) all
    (subst (λ (xs : List Message). ListSo S.tells S.left S.faults (λ x. MessageBy free (message_of x)) (λ x. body_weight x.body) message_layout n n xs (messages_weight xs) d d) (sym c.new-messages.ensures.items)
    (list_none S.tells S.left S.faults (λ x. MessageBy free (message_of x)) (λ x. body_weight x.body) message_layout n d c.in_ok-count.ensures.placed))

pub returns-in_err-read_message-clause-reads : goal.returns-in_err-read_message-clause-reads
returns-in_err-read_message-clause-reads g c =
    let S = g.S.Source in
    let l = c.loop in
    let k = c.args.cursor.now in
    let n = c.in_ok-count.count in
    let d = c.read_count.new.cursor in
    let f = c.read_message.new.cursor in
    let end = c.in_err-read_message.field-0.0 in
    let r = c.from_residual-in_err-read_message in
    fueled_passed S.tells S.left S.faults (λ (xs : List Message). ListBy (λ x. MessageBy free (message_of x)) xs) (λ n. list_layout (message_layout n)) k f r.result end r.ensures.1
    (item_end S.tells S.left S.faults (λ x. MessageBy free (message_of x)) (λ x. body_weight x.body) message_layout n k d c.in_ok-count.ensures.goes c.in_ok-count.ensures.reads l.counter l.messages.items (messages_weight l.messages.items) l.cursor f end c.loop-test.true l.invariant c.in_err-read_message.ensures.reads)

pub loop-preserved : goal.loop-preserved
loop-preserved g c =
    let S = g.S.Source in
    let l = c.loop in
    let n = c.in_ok-count.count in
    let d = c.read_count.new.cursor in
    let e = l.cursor in
    let f = c.read_message.new.cursor in
    let x = c.in_ok-read_message.field-0 in
    let h = c.in_ok-read_message.ensures in
    let xs = l.messages.items in
    let more : n - l.counter ≡ suc (n - (l.counter + 1)) = let t = c.loop-test.true in omega (arith, t) in
    let all : messages_weight (xs ++ x ∷ []) ≡ messages_weight xs + body_weight x.body = let e = sum_by-append (λ (y : Message). body_weight y.body) xs (x ∷ []) in omega (arith, e) in
    let s : ListSo S.tells S.left S.faults (λ x. MessageBy free (message_of x)) (λ x. body_weight x.body) message_layout n (n - (l.counter + 1)) (xs ++ x ∷ []) (messages_weight (xs ++ x ∷ [])) d f =
    subst (λ w. ListSo S.tells S.left S.faults (λ x. MessageBy free (message_of x)) (λ x. body_weight x.body) message_layout n (n - (l.counter + 1)) (xs ++ x ∷ []) w d f) (sym all)
    (list_more S.tells S.left S.faults (λ x. MessageBy free (message_of x)) (λ x. body_weight x.body) message_layout n (n - (l.counter + 1)) xs (messages_weight xs) d e f x (subst (λ j. ListSo S.tells S.left S.faults (λ x. MessageBy free (message_of x)) (λ x. body_weight x.body) message_layout n j xs (messages_weight xs) d e) more l.invariant) h.goes h.placed h.reads h.weighs) in
    subst (λ (ys : List Message). ListSo S.tells S.left S.faults (λ x. MessageBy free (message_of x)) (λ x. body_weight x.body) message_layout n (n - (l.counter + 1)) ys (messages_weight ys) d f) (sym c.in_ok-push.ensures.items) s

pub returns-clause-reads : goal.returns-clause-reads
returns-clause-reads g c =
    let S = g.S.Source in
    let l = c.loop in
    let k = c.args.cursor.now in
    let n = c.in_ok-count.count in
    let d = c.read_count.new.cursor in
    let xs = l.messages.items in
    let none : n - l.counter ≡ 0 = let t = c.loop-test.false in omega (arith, t) in
    λ m fuel.
    subst (λ (ys : List Message). Took S.tells S.left (list_layout (message_layout m)) tt (ListBy (λ x. MessageBy free (message_of x)) ys) k l.cursor) (sym c.of_vec.ensures)
    (list_took S.tells S.left S.faults (λ x. MessageBy free (message_of x)) (λ x. body_weight x.body) message_layout n k d c.in_ok-count.ensures.goes c.in_ok-count.ensures.reads xs (messages_weight xs) l.cursor
    (subst (λ j. ListSo S.tells S.left S.faults (λ x. MessageBy free (message_of x)) (λ x. body_weight x.body) message_layout n j xs (messages_weight xs) d l.cursor) none l.invariant) m fuel)
