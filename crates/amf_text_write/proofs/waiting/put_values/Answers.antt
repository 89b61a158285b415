use Rattle.std.proofs.Common.{◌≡◌, ◌+◌, ◌-◌, ◌<◌, length, drop, get_or, subst, arith}
use Rattle.std.specs.List.{flat_map}
use Rattle.amf_graph.specs.declared.value.Value.{Value}
use Rattle.amf_graph.specs.declared.value.Value.TheVariants.{Undefined}
use Rattle.amf_text_write.specs.declared.waiting.Piece.TheVariants as piece
use Rattle.amf_text_write.specs.Pieces.{value_tokens, values_tokens}
use Rattle.amf_text_write.proofs.PartTokens.{values_by, value_there}
use Rattle.amf_text_write.proofs.Stacks.{PutsEach, put_one, put_as, each_none, each_more}
use Rattle.amf_text_write.proofs.waiting.put_values.Goals as goal

pub loop-index-init : goal.loop-index-init
loop-index-init c = λ g a h. each_none g a (λ (v : Value). value_tokens g a c.args.levels v) c.args.values.now (length c.args.values.now) c.args.waiting.now.items (omega arith)

pub loop-index-preserved : goal.loop-index-preserved
loop-index-preserved c = λ g a h.
    let xs = c.args.values.now in
    let j = c.loop-index.index - 1 in
    let d : Value = Undefined in
    let next : j + 1 ≡ c.loop-index.index = omega arith in
    let within : j < length xs = omega arith in
    each_more g a (λ (v : Value). value_tokens g a c.args.levels v) xs c.loop-index.index j d c.args.waiting.now.items c.loop-index.waiting.items c.put.new.waiting.items next within (c.loop-index.invariant g a h)
    (put_one g a (piece.Value c.args.levels (get_or xs j d)) c.loop-index.waiting.items c.put.new.waiting.items c.in_ok-put.ensures (value_there a xs j d h within))

pub returns : goal.returns
returns c = λ g a h.
    let xs = c.args.values.now in
    let none : c.loop-index.index ≡ 0 = omega arith in
    put_as g a (λ w. flat_map (λ x. (λ (v : Value). value_tokens g a c.args.levels v) x w) xs) (values_tokens g a c.args.levels xs) c.args.waiting.now.items c.loop-index.waiting.items (λ w. values_by g a c.args.levels w xs) (subst (λ i. PutsEach g a (λ (v : Value). value_tokens g a c.args.levels v) (drop i xs) c.args.waiting.now.items c.loop-index.waiting.items) none (c.loop-index.invariant g a h))
