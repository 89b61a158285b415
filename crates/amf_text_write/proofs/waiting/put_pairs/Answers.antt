use Rattle.std.proofs.Common.{◌≡◌, ◌+◌, ◌-◌, ◌<◌, length, drop, subst, arith}
use Rattle.std.specs.List.{flat_map}
use Rattle.amf_graph.specs.declared.value.Value.{Value}
use Rattle.amf_graph.specs.declared.value.Value.TheVariants.{Undefined}
use Rattle.amf_graph.specs.declared.value.TextId.{TextId}
use Rattle.amf_text_write.specs.declared.waiting.Piece.TheVariants as piece
use Rattle.amf_text_write.specs.Pieces.{two_tokens, pairs_tokens}
use Rattle.amf_iso.proofs.NamedPairs.{pair_there}
use Rattle.amf_text_write.proofs.PartTokens.{pairs_by}
use Rattle.amf_text_write.proofs.Stacks.{PutsEach, put_as, each_none, each_more}
use Rattle.amf_text_write.proofs.waiting.put_pairs.Goals as goal

pub loop-index-init : goal.loop-index-init
loop-index-init c = λ g a h. each_none g a (λ (p : TextId × Value). two_tokens g a c.args.levels (piece.Name p.0) p.1) c.args.pairs.now (length c.args.pairs.now) c.args.waiting.now.items (omega arith)

pub loop-index-preserved : goal.loop-index-preserved
loop-index-preserved c = λ g a h.
    let xs = c.args.pairs.now in
    let j = c.loop-index.index - 1 in
    let d : TextId × Value = (record { 0 = 0 }, Undefined) in
    let next : j + 1 ≡ c.loop-index.index = omega arith in
    let within : j < length xs = omega arith in
    each_more g a (λ (p : TextId × Value). two_tokens g a c.args.levels (piece.Name p.0) p.1) xs c.loop-index.index j d c.args.waiting.now.items c.loop-index.waiting.items c.put_two.new.waiting.items next within (c.loop-index.invariant g a h)
    (let there = pair_there a xs j d h within in c.in_ok-put_two.ensures g a there.0 there.1)

pub returns : goal.returns
returns c = λ g a h.
    let xs = c.args.pairs.now in
    let none : c.loop-index.index ≡ 0 = omega arith in
    put_as g a (λ w. flat_map (λ x. (λ (p : TextId × Value). two_tokens g a c.args.levels (piece.Name p.0) p.1) x w) xs) (pairs_tokens g a c.args.levels xs) c.args.waiting.now.items c.loop-index.waiting.items (λ w. pairs_by g a c.args.levels w xs) (subst (λ i. PutsEach g a (λ (p : TextId × Value). two_tokens g a c.args.levels (piece.Name p.0) p.1) (drop i xs) c.args.waiting.now.items c.loop-index.waiting.items) none (c.loop-index.invariant g a h))
