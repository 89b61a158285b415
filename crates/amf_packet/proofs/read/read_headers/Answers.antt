use Rattle.std.proofs.Common.{◌≡◌, suc, ◌+◌, ◌-◌, List, ◌∷◌, [], ◌++◌, sym, subst, arith}
use Rattle.std.proofs.lemmas.List.Sums.{sum_by-append}
use Rattle.amf_wire.specs.Style.{free}
use Rattle.amf_packet.specs.declared.packet.Header.{Header}
use Rattle.amf_packet.specs.Content.{header_of}
use Rattle.amf_packet.specs.LayoutPacket.{header_layout, list_layout}
use Rattle.amf_packet.specs.Packet.{HeaderBy, ListBy}
use Rattle.amf_packet.specs.PacketAnswer.{body_weight, headers_weight}
use Rattle.amf_packet.specs.ReadParts.{Took, ListSo}
use Rattle.amf_packet.proofs.PartReads.{fueled_passed, count_end, item_end, list_took}
use Rattle.amf_packet.proofs.Taken.{list_none, list_more}
use Rattle.amf_packet.proofs.read.read_headers.Goals as goal

pub returns-in_err-count-clause-reads : goal.returns-in_err-count-clause-reads
returns-in_err-count-clause-reads g c =
    let S = g.S.Source in
    let k = c.args.cursor.now in
    let d = c.read_count.new.cursor in
    let end = c.in_err-count.field-0.0 in
    fueled_passed S.tells S.left S.faults (λ (xs : List Header). ListBy (λ x. HeaderBy free (header_of x)) xs) (λ n. list_layout (header_layout n)) k d c.from_residual.result end c.from_residual.ensures.1
    (count_end S.tells S.left S.faults header_layout k d end c.in_err-count.ensures.reads)

pub loop-init : goal.loop-init
loop-init g c =
    let S = g.S.Source in
    let n = c.in_ok-count.count in
    let d = c.read_count.new.cursor in
    let all : n ≡ n - 0 = omega arith in
    subst (λ j. ListSo S.tells S.left S.faults (λ x. HeaderBy free (header_of x)) (λ x. body_weight x.body) header_layout n j c.new-headers.result.items (headers_weight c.new-headers.result.items) d d) all
    (subst (λ (xs : List Header). ListSo S.tells S.left S.faults (λ x. HeaderBy free (header_of x)) (λ x. body_weight x.body) header_layout n n xs (headers_weight xs) d d) (sym c.new-headers.ensures.items)
    (list_none S.tells S.left S.faults (λ x. HeaderBy free (header_of x)) (λ x. body_weight x.body) header_layout n d c.in_ok-count.ensures.placed))

pub returns-in_err-read_header-clause-reads : goal.returns-in_err-read_header-clause-reads
returns-in_err-read_header-clause-reads g c =
    let S = g.S.Source in
    let l = c.loop in
    let k = c.args.cursor.now in
    let n = c.in_ok-count.count in
    let d = c.read_count.new.cursor in
    let f = c.read_header.new.cursor in
    let end = c.in_err-read_header.field-0.0 in
    let r = c.from_residual-in_err-read_header in
    fueled_passed S.tells S.left S.faults (λ (xs : List Header). ListBy (λ x. HeaderBy free (header_of x)) xs) (λ n. list_layout (header_layout n)) k f r.result end r.ensures.1
    (item_end S.tells S.left S.faults (λ x. HeaderBy free (header_of x)) (λ x. body_weight x.body) header_layout n k d c.in_ok-count.ensures.goes c.in_ok-count.ensures.reads l.counter l.headers.items (headers_weight l.headers.items) l.cursor f end c.loop-test.true l.invariant c.in_err-read_header.ensures.reads)

pub loop-preserved : goal.loop-preserved
loop-preserved g c =
    let S = g.S.Source in
    let l = c.loop in
    let n = c.in_ok-count.count in
    let d = c.read_count.new.cursor in
    let e = l.cursor in
    let f = c.read_header.new.cursor in
    let x = c.in_ok-read_header.field-0 in
    let h = c.in_ok-read_header.ensures in
    let xs = l.headers.items in
    let more : n - l.counter ≡ suc (n - (l.counter + 1)) = let t = c.loop-test.true in omega (arith, t) in
    let all : headers_weight (xs ++ x ∷ []) ≡ headers_weight xs + body_weight x.body = let e = sum_by-append (λ (y : Header). body_weight y.body) xs (x ∷ []) in omega (arith, e) in
    let s : ListSo S.tells S.left S.faults (λ x. HeaderBy free (header_of x)) (λ x. body_weight x.body) header_layout n (n - (l.counter + 1)) (xs ++ x ∷ []) (headers_weight (xs ++ x ∷ [])) d f =
    subst (λ w. ListSo S.tells S.left S.faults (λ x. HeaderBy free (header_of x)) (λ x. body_weight x.body) header_layout n (n - (l.counter + 1)) (xs ++ x ∷ []) w d f) (sym all)
    (list_more S.tells S.left S.faults (λ x. HeaderBy free (header_of x)) (λ x. body_weight x.body) header_layout n (n - (l.counter + 1)) xs (headers_weight xs) d e f x (subst (λ j. ListSo S.tells S.left S.faults (λ x. HeaderBy free (header_of x)) (λ x. body_weight x.body) header_layout n j xs (headers_weight xs) d e) more l.invariant) h.goes h.placed h.reads h.weighs) in
    subst (λ (ys : List Header). ListSo S.tells S.left S.faults (λ x. HeaderBy free (header_of x)) (λ x. body_weight x.body) header_layout n (n - (l.counter + 1)) ys (headers_weight ys) d f) (sym c.in_ok-push.ensures.items) s

pub returns-clause-reads : goal.returns-clause-reads
returns-clause-reads g c =
    let S = g.S.Source in
    let l = c.loop in
    let k = c.args.cursor.now in
    let n = c.in_ok-count.count in
    let d = c.read_count.new.cursor in
    let xs = l.headers.items in
    let none : n - l.counter ≡ 0 = let t = c.loop-test.false in omega (arith, t) in
    λ m fuel.
    subst (λ (ys : List Header). Took S.tells S.left (list_layout (header_layout m)) tt (ListBy (λ x. HeaderBy free (header_of x)) ys) k l.cursor) (sym c.of_vec.ensures)
    (list_took S.tells S.left S.faults (λ x. HeaderBy free (header_of x)) (λ x. body_weight x.body) header_layout n k d c.in_ok-count.ensures.goes c.in_ok-count.ensures.reads xs (headers_weight xs) l.cursor
    (subst (λ j. ListSo S.tells S.left S.faults (λ x. HeaderBy free (header_of x)) (λ x. body_weight x.body) header_layout n j xs (headers_weight xs) d l.cursor) none l.invariant) m fuel)
