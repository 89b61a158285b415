use Rattle.std.proofs.Common.{◌≡◌, ◌+◌, ◌-◌, ◌<◌, length, drop, get_or, subst, arith}
use Rattle.std.specs.List.{flat_map}
use Rattle.amf_graph.specs.declared.value.Value.{Value}
use Rattle.amf_graph.specs.declared.value.Value.TheVariants.{Undefined}
use Rattle.amf_graph.specs.declared.value.TextId.{TextId}
use Rattle.amf_text_write.specs.declared.waiting.Piece.TheVariants as piece
use Rattle.amf_text_write.specs.Pieces.{piece_tokens, names_tokens}
use Rattle.amf_iso.proofs.NamedPairs.{pair_there}
use Rattle.amf_text_write.proofs.PartTokens.{names_by}
use Rattle.amf_text_write.proofs.Stacks.{PutsEach, put_one, put_as, each_none, each_more}
use Rattle.amf_text_write.proofs.waiting.put_names.Goals as goal

pub loop-index-init : goal.loop-index-init
loop-index-init c = λ g a h. each_none g a (λ (p : TextId × Value). piece_tokens g a (piece.Name p.0)) c.args.pairs.now (length c.args.pairs.now) c.args.waiting.now.items (omega arith)

pub loop-index-preserved : goal.loop-index-preserved
loop-index-preserved c = λ g a h.
    let xs = c.args.pairs.now in
    let j = c.loop-index.index - 1 in
    let d : TextId × Value = (record { 0 = 0 }, Undefined) in
    let next : j + 1 ≡ c.loop-index.index = omega arith in
    let within : j < length xs = omega arith in
    each_more g a (λ (p : TextId × Value). piece_tokens g a (piece.Name p.0)) xs c.loop-index.index j d c.args.waiting.now.items c.loop-index.waiting.items c.put.new.waiting.items next within (c.loop-index.invariant g a h)
    (put_one g a (piece.Name (get_or xs j d).0) c.loop-index.waiting.items c.put.new.waiting.items c.in_ok-put.ensures (pair_there a xs j d h within).0)

pub returns : goal.returns
returns c = λ g a h.
    let xs = c.args.pairs.now in
    let none : c.loop-index.index ≡ 0 = omega arith in
    put_as g a (λ w. flat_map (λ x. (λ (p : TextId × Value). piece_tokens g a (piece.Name p.0)) x w) xs) (names_tokens a xs) c.args.waiting.now.items c.loop-index.waiting.items (λ w. names_by g a 0 w xs) (subst (λ i. PutsEach g a (λ (p : TextId × Value). piece_tokens g a (piece.Name p.0)) (drop i xs) c.args.waiting.now.items c.loop-index.waiting.items) none (c.loop-index.invariant g a h))
