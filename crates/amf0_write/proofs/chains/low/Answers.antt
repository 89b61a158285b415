-- A wrapper at the end of a chain is one of a chain that never ends.
use Rattle.std.proofs.Common.{◌≡◌, ℤ, pos, negsuc, true, false, refl, sym, ◌∙◌, subst, inl, inr, w32, FitsSigned, arith}
use Rattle.std.proofs.lemmas.Int.{to_z-of_z}
use Rattle.std.proofs.lemmas.List.{length-map}
use Rattle.amf_graph.specs.declared.value.Value.TheVariants.{Double}
use Rattle.amf_graph.specs.Arena.{Names, value_content, node_content}
use Rattle.amf_graph.specs.Graph.{leaf, double}
use Rattle.amf_graph.specs.Rooted.{content}
use Rattle.amf_wire.specs.Integer.{IsInteger}
use Rattle.amf_wire.specs.Whole.{IsPatternOf}
use Rattle.amf0_spelling.specs.Lowered.{wraps, LowPlain}
use Rattle.amf0_write.proofs.ChainEnds.{low_end, low_null, plain_same}
use Rattle.amf0_write.proofs.chains.low.Goals as goal

fits_wide : (n : ℤ) → IsInteger n → FitsSigned w32 n
fits_wide (pos n) h = omega (arith, h)
fits_wide (negsuc n) h = omega (arith, h)

pub returns-then-wraps-clause-low : goal.returns-then-wraps-clause-low
returns-then-wraps-clause-low c = λ steps i e o.
    let g = c.args.graph.now in
    let is : wraps (content g) (value_content g.arena c.args.end) ≡ true = sym c.wraps.ensures ∙ c.if-wraps.true in
    elim o [
      | inl l ↦ low_null g steps i c.args.end l e is (length-map g.arena.nodes (node_content g.arena))
      | inr n ↦ (let z : true ≡ false = sym is ∙ n in cc)
    ]

pub returns-in-Integer-clause-low : goal.returns-in-Integer-clause-low
returns-in-Integer-clause-low c = λ steps i e o.
    let g = c.args.graph.now in
    let n = c.in-Integer.integer in
    let p = c.double_of.result in
    let is : wraps (content g) (value_content g.arena c.args.end) ≡ false = sym c.wraps.ensures ∙ c.if-wraps.false in
    let own : IsInteger n = subst (Names g.arena) c.in-Integer.is c.requires in
    let pattern : IsPatternOf p.0 n = subst (IsPatternOf p.0) (to_z-of_z w32 n (fits_wide n own)) c.double_of.ensures.pattern in
    low_end g steps i c.args.end (Double p) e is (subst (λ v. LowPlain (value_content g.arena v) (leaf (double p.0))) (sym c.in-Integer.is) (p.0, pattern, refl))

pub returns-in_default : goal.returns-in_default
returns-in_default c =
    let g = c.args.graph.now in
    let is : wraps (content g) (value_content g.arena c.args.end) ≡ false = sym c.wraps.ensures ∙ c.if-wraps.false in
    record {
      names = c.requires;
      low = λ steps i e o. low_end g steps i c.args.end c.args.end e is (plain_same g c.args.end c.in_default.not-Integer);
    }
