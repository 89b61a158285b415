use Rattle.std.proofs.Common.{◌≡◌, ◌<◌, ◌+◌, ◌-◌, ◌*◌, ◌%◌, ◌^◌, length, suc, true, false, sym, ◌∙◌, ap, subst, arith}
use Rattle.amf_graph.specs.Arena.{object, IsTextId}
use Rattle.amf_graph.specs.Building.{kept_node, begun, changed, more_part, shut}
use Rattle.amf_vectors.specs.Made.{number}
use Rattle.amf_vectors.specs.Making.{making, stored_object}
use Rattle.amf_vectors.proofs.Steps.{how_many, key, keyed, partner_there, closed_object, added, array_size, one_more}
use Rattle.amf_vectors.proofs.maker.build.Goals as goal

pub returns-in_err-object-clause-memory : goal.returns-in_err-object-clause-memory
returns-in_err-object-clause-memory c =
    let n = c.loop-place.place - 1 in
    let nodes : length c.loop-place.builder.nodes ≡ suc n = ap (λ a. length a.nodes) c.loop-place.invariant.2 ∙ how_many true c.args.seed n in
    grind (arith, nodes, c.in_err-object.ensures.full, c.in_err-object.was, c.from_residual-in_err-object.ensures, c.loop-place.invariant.0, c.loop-place-test.true, c.requires.most)

pub put-requires-in-loop-place-clause-names : goal.put-requires-in-loop-place-clause-names
put-requires-in-loop-place-clause-names c =
    let seed = c.args.seed in
    let n = c.loop-place.place - 1 in
    let i = c.loop-place.invariant in
    let numbered : c.next-number.result ≡ number seed (suc n) = c.next-number.ensures ∙ ap (λ x. (1103515245 * x + 12345) % 2 ^ 31) i.3 in
    let placed : c.loop-place.place ≡ suc n = omega (arith, i.0) in
    let id = c.in_ok-object.object.0 in
    let named : id ≡ length (making true seed n).nodes = c.in_ok-object.ensures.id ∙ ap (λ a. length a.nodes) i.2 in
    let begun_one = c.in_ok-object.ensures.ok ∙ ap (λ a. kept_node a (begun (object 0))) i.2 in
    let with_key = keyed seed n c.next-number.result c.loop-place.place id numbered placed named c.open_node.new.self c.put.new.self begun_one c.in_ok-put.ensures.ok in
    let there = partner_there seed n c.next-number.result c.loop-place.place id numbered placed named in
    let count = one_more seed n (more_part (key seed n c.next-number.result c.loop-place.place id numbered placed named) (begun (object 0))) c.put.new.self with_key in
    (subst (λ a. IsTextId a 2) (sym with_key) (omega arith), subst (λ k. c.next-number.result % (c.loop-place.place + 1) < k) (sym count) there)

pub returns-in_err-put-3-clause-memory : goal.returns-in_err-put-3-clause-memory
returns-in_err-put-3-clause-memory c =
    let seed = c.args.seed in
    let n = c.loop-place.place - 1 in
    let i = c.loop-place.invariant in
    let numbered : c.next-number.result ≡ number seed (suc n) = c.next-number.ensures ∙ ap (λ x. (1103515245 * x + 12345) % 2 ^ 31) i.3 in
    let placed : c.loop-place.place ≡ suc n = omega (arith, i.0) in
    let id = c.in_ok-object.object.0 in
    let named : id ≡ length (making true seed n).nodes = c.in_ok-object.ensures.id ∙ ap (λ a. length a.nodes) i.2 in
    let begun_one = c.in_ok-object.ensures.ok ∙ ap (λ a. kept_node a (begun (object 0))) i.2 in
    let with_key = keyed seed n c.next-number.result c.loop-place.place id numbered placed named c.open_node.new.self c.put.new.self begun_one c.in_ok-put.ensures.ok in
    let whole = closed_object seed n c.next-number.result c.loop-place.place id numbered placed named c.put.new.self c.put-in-loop-place.new.self c.close_node.new.self with_key c.in_ok-put-2.ensures.ok c.close_node.ensures in
    let size = array_size seed n (stored_object seed (suc n)) c.close_node.new.self whole in
    grind (arith, size, c.in_err-put-3.ensures.full, c.in_err-put-3.was, c.from_residual-in_err-put-3.ensures, placed, c.loop-place-test.true, c.requires.most)

pub loop-place-preserved : goal.loop-place-preserved
loop-place-preserved c =
    let seed = c.args.seed in
    let n = c.loop-place.place - 1 in
    let i = c.loop-place.invariant in
    let numbered : c.next-number.result ≡ number seed (suc n) = c.next-number.ensures ∙ ap (λ x. (1103515245 * x + 12345) % 2 ^ 31) i.3 in
    let placed : c.loop-place.place ≡ suc n = omega (arith, i.0) in
    let id = c.in_ok-object.object.0 in
    let named : id ≡ length (making true seed n).nodes = c.in_ok-object.ensures.id ∙ ap (λ a. length a.nodes) i.2 in
    let begun_one = c.in_ok-object.ensures.ok ∙ ap (λ a. kept_node a (begun (object 0))) i.2 in
    let with_key = keyed seed n c.next-number.result c.loop-place.place id numbered placed named c.open_node.new.self c.put.new.self begun_one c.in_ok-put.ensures.ok in
    let whole = closed_object seed n c.next-number.result c.loop-place.place id numbered placed named c.put.new.self c.put-in-loop-place.new.self c.close_node.new.self with_key c.in_ok-put-2.ensures.ok c.close_node.ensures in
    let all = added seed n c.next-number.result c.loop-place.place id numbered placed named c.close_node.new.self c.put-in-loop-place-2.new.self whole c.in_ok-put-3.ensures.ok in
    let next : c.loop-place.place + 1 - 1 ≡ suc n = omega (arith, placed) in
    (omega arith, omega (arith, c.loop-place-test.true), all ∙ ap (making true seed) (sym next), numbered ∙ ap (number seed) (sym next))

pub returns-clause-made : goal.returns-clause-made
returns-clause-made c =
    let ends : c.loop-place.place ≡ c.args.size = omega (arith, c.loop-place-test.false, c.loop-place.invariant.1) in
    c.close_node-2.ensures ∙ ap (changed shut 0) c.loop-place.invariant.2 ∙ ap (λ p. making false c.args.seed (p - 1)) ends
