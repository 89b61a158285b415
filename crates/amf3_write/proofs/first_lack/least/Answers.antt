use Rattle.std.proofs.Common.{◌≡◌, ◌+◌, ◌<◌, ◌∷◌, ◌++◌, [], ℕ, length, take, get_or, sym, refl, subst, arith, add-one, Some, None, List, Bool, true, false, IsTrue, rules}
use Rattle.std.specs.Prelude.{Option}
use Rattle.std.proofs.Math.Seq.{take-suc}
use Rattle.std.proofs.lemmas.List.{map-append, take_all}
use Rattle.amf_graph.specs.Rooted.{content}
use Rattle.amf_graph.specs.declared.lack.Lack.{Lack}
use Rattle.amf_graph.specs.declared.lack.LackKind.{LackKind}
use Rattle.amf_graph.specs.declared.value.NodeId.{NodeId}
use Rattle.amf_graph.specs.Renumbered.{numbers_of}
use Rattle.amf3_write.specs.Found.{IsLeast}
use Rattle.amf3_write.specs.PartLacks.{PartLacks3}
use Rattle.amf3_write.proofs.WroteNodes.{true_is}
use Rattle.amf3_write.proofs.Least.{least_same, least_next, least_first}
use Rattle.amf3_write.proofs.first_lack.least.Goals as goal
use Rattle.amf3_write.proofs.first_lack.least.Goals.{in-Some+then-is_before, in-Some+else-is_before, in_default}

not_true : (r : Bool) → r ≡ false → IsTrue r → ⊥
not_true true e t = cc
not_true false e t = search rules

no_lack : (P : ℕ → LackKind → Type 0) (o : Option Lack) → ((l : Lack) → o ≡ Some l → ⊥) → IsLeast P o → IsLeast P None
no_lack P None n h = h
no_lack P (Some l) n h = absurd (n l refl)

pub loop-node-preserved : goal.loop-node-preserved
loop-node-preserved c =
    let g = content c.args.graph.now in
    let xs = c.args.found.now in
    let i = c.loop-node.node-index in
    let d : NodeId = record { 0 = 0 } in
    let x : ℕ = (get_or xs i d).0 in
    let sofar : List ℕ = numbers_of (take i xs) in
    let L : List ℕ → ℕ → LackKind → Type 0 = λ ys. PartLacks3 g c.args.numbering.now ys in
    let within : i < length xs = omega arith in
    let more : sofar ++ x ∷ [] ≡ numbers_of (take (i + 1) xs) = rw (add-one, take-suc xs i d within, map-append) refl in
    let all : IsLeast (L (sofar ++ x ∷ [])) c.match-lack_at.least = elim c.match-lack_at.branch [
      | in-Some+then-is_before w ↦ subst (λ m. IsLeast (L (sofar ++ x ∷ [])) m) (sym w.least-is) (least_next g c.args.numbering.now sofar x c.loop-node.least w.in-Some.lack c.loop-node.invariant w.in-Some.ensures (w.is_before.ensures.0 (true_is w.is_before.result w.if-is_before.true)))
      | in-Some+else-is_before w ↦ subst (λ m. IsLeast (L (sofar ++ x ∷ [])) m) (sym w.least-is) (least_first g c.args.numbering.now sofar x c.loop-node.least w.in-Some.lack c.loop-node.invariant w.in-Some.ensures (λ b. not_true w.is_before.result w.if-is_before.false (w.is_before.ensures.1 b)))
      | in_default w ↦ subst (λ m. IsLeast (L (sofar ++ x ∷ [])) m) (sym w.least-is) (least_same g c.args.numbering.now sofar x c.loop-node.least c.loop-node.invariant (no_lack (L (x ∷ [])) c.lack_at.result w.in_default.not-Some c.lack_at.ensures))
    ] in
    subst (λ w. IsLeast (L w) c.match-lack_at.least) more all

pub returns : goal.returns
returns c =
    let g = content c.args.graph.now in
    let all : take c.loop-node.node-index c.args.found.now ≡ c.args.found.now = take_all c.loop-node.node-index c.args.found.now (omega arith) in
    subst (λ w. IsLeast (PartLacks3 g c.args.numbering.now (numbers_of w)) c.loop-node.least) all c.loop-node.invariant
