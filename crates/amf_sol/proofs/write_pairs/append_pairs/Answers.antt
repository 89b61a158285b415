use Rattle.std.proofs.Common.{◌≡◌, sym, ◌∙◌, subst}
use Rattle.amf_wire.specs.Style.{canonical}
use Rattle.amf_graph.specs.Graph.{Graph}
use Rattle.amf_graph.specs.Rooted.{RootedArena, content}
use Rattle.amf0_spelling.specs.Lowered.{IsLoweringOf}
use Rattle.amf0_spelling.proofs.LoweredLow.{lowering_is_lowered}
use Rattle.amf3_write.proofs.Wrote.{on_ok}
use Rattle.amf_sol.specs.declared.sol_version.SolVersion.TheVariants.{Amf0, Amf3}
use Rattle.amf_sol.specs.FileLacks.{IsHolderLack}
use Rattle.amf_sol.specs.FileParts.{Appends}
use Rattle.amf_sol.specs.SharedObject.{HasHolder, PairsOf, HolderBy}
use Rattle.amf_sol.proofs.FileWrites.{lowered_written, lowered_lack}
use Rattle.amf_sol.proofs.LowHolders.{lowered_holder}
use Rattle.amf_sol.proofs.write_pairs.append_pairs.Goals as goal

pub append_pairs3-requires : goal.append_pairs3-requires
append_pairs3-requires c = subst (λ (z : RootedArena). HasHolder (content z)) (sym c.holder-holder.ensures) c.is_stored.ensures.holder

pub append_pairs0-requires-clause-holder : goal.append_pairs0-requires-clause-holder
append_pairs0-requires-clause-holder c =
    lowered_holder (content c.holder-holder.result.now) (content c.in_ok-low-in-Amf0.low) c.in_ok-low-in-Amf0.ensures (subst (λ (z : RootedArena). HasHolder (content z)) (sym c.holder-holder.ensures) c.is_stored.ensures.holder)

pub append_pairs0-requires-clause-low : goal.append_pairs0-requires-clause-low
append_pairs0-requires-clause-low c = lowering_is_lowered (content c.holder-holder.result.now) (content c.in_ok-low-in-Amf0.low) c.in_ok-low-in-Amf0.ensures

pub returns-in-Amf3-clause-written : goal.returns-in-Amf3-clause-written
returns-in-Amf3-clause-written c =
    let old = c.args.out.now.items in
    let new = c.append_pairs3.new.out.items in
    let same : c.args.object.now.version ≡ Amf3 = sym c.version.ensures ∙ c.in-Amf3.is in
    on_ok c.append_pairs3.result
    (λ w. subst (λ v. Appends (HolderBy canonical v (content c.args.object.now.holder)) old new) (sym same) (subst (λ (z : RootedArena). Appends (PairsOf canonical Amf3 (content z)) old new) c.holder-holder.ensures w))
    c.append_pairs3.ensures.written

pub returns-in-Amf3-clause-lack : goal.returns-in-Amf3-clause-lack
returns-in-Amf3-clause-lack c = λ l e.
    let same : c.args.object.now.version ≡ Amf3 = sym c.version.ensures ∙ c.in-Amf3.is in
    subst (λ v. IsHolderLack v (content c.args.object.now.holder) l.node l.kind) (sym same) (subst (λ (z : RootedArena). IsHolderLack Amf3 (content z) l.node l.kind) c.holder-holder.ensures (c.append_pairs3.ensures.lack l e))

pub returns-in_ok-low-in-Amf0-clause-written : goal.returns-in_ok-low-in-Amf0-clause-written
returns-in_ok-low-in-Amf0-clause-written c =
    let old = c.args.out.now.items in
    let new = c.append_pairs0.new.out.items in
    let low : Graph = content c.in_ok-low-in-Amf0.low in
    let same : c.args.object.now.version ≡ Amf0 = sym c.version.ensures ∙ c.in-Amf0.is in
    let is : IsLoweringOf (content c.args.object.now.holder) low = subst (λ (z : RootedArena). IsLoweringOf (content z) low) c.holder-holder.ensures c.in_ok-low-in-Amf0.ensures in
    on_ok c.append_pairs0.result
    (λ w. subst (λ v. Appends (HolderBy canonical v (content c.args.object.now.holder)) old new) (sym same) (lowered_written (content c.args.object.now.holder) low old new c.is_stored.ensures.holder is w))
    c.append_pairs0.ensures.written

pub returns-in_ok-low-in-Amf0-clause-lack : goal.returns-in_ok-low-in-Amf0-clause-lack
returns-in_ok-low-in-Amf0-clause-lack c = λ l e.
    let low : Graph = content c.in_ok-low-in-Amf0.low in
    let same : c.args.object.now.version ≡ Amf0 = sym c.version.ensures ∙ c.in-Amf0.is in
    let is : IsLoweringOf (content c.args.object.now.holder) low = subst (λ (z : RootedArena). IsLoweringOf (content z) low) c.holder-holder.ensures c.in_ok-low-in-Amf0.ensures in
    subst (λ v. IsHolderLack v (content c.args.object.now.holder) l.node l.kind) (sym same) (lowered_lack (content c.args.object.now.holder) low l.node l.kind is (c.append_pairs0.ensures.lack l e))
