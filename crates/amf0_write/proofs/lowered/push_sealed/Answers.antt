use Rattle.std.proofs.Common.{refl, get_or, map, take, ◌++◌, subst, arith}
use Rattle.std.proofs.lemmas.List.{append-nil, take_all}
use Rattle.std.specs.List.{AllZip, zip}
use Rattle.amf_graph.specs.declared.value.Value.TheVariants.{Undefined}
use Rattle.amf_graph.specs.declared.value.TextId.{TextId}
use Rattle.amf_graph.specs.StandIns.{PairStandsFor}
use Rattle.amf_graph.specs.Views.{named}
use Rattle.amf_graph.proofs.Zipping.{sealed_zip_behind}
use Rattle.amf0_write.proofs.lowered.push_sealed.Goals as goal

pub loop-place-init : goal.loop-place-init
loop-place-init c = λ before m. rw append-nil m

pub loop-place-preserved : goal.loop-place-preserved
loop-place-preserved c = λ before m.
    let names = c.args.names.now in
    let i = c.loop-place.place in
    let x : TextId = get_or names i (record { 0 = 0 }) in
    rw (c.in_ok-push.ensures.items)
    (sealed_zip_behind (PairStandsFor c.args.stand_ins.now) before names c.args.values.now c.loop-place.copies.items i (record { 0 = 0 }) Undefined (x, c.stood.result) (omega arith) c.requires.all (c.loop-place.invariant before m) (refl, c.stood.ensures))

pub returns : goal.returns
returns c = λ before m.
    let R = PairStandsFor c.args.stand_ins.now in
    let names = c.args.names.now in
    let values = c.args.values.now in
    let i = c.loop-place.place in
    let copies = named c.loop-place.copies.items in
    subst (λ xs. AllZip R (before ++ zip (map (λ (x : TextId). x.0) xs) values) copies) (take_all i names (omega arith))
    (subst (λ vs. AllZip R (before ++ zip (map (λ (x : TextId). x.0) (take i names)) vs) copies) (take_all i values (omega (arith, c.requires.all))) (c.loop-place.invariant before m))
