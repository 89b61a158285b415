-- One chunk more; and none is left.
use Rattle.std.proofs.Common.{◌≡◌, ◌++◌, ◌∙◌, sym, ap, true, false, length, eq-eqb, eqb-true, arith}
use Rattle.rtmp_chunks.specs.Push.{basic_header, extended_field}
use Rattle.rtmp_chunks.proofs.LaterChunks.{fuel_free, later_step, none_later}
use Rattle.rtmp_chunks.proofs.chunker.push_rest.Goals as goal

differ : true ≡ false → ⊥
differ e = absurd cc

pub loop-left-preserved : goal.loop-left-preserved
loop-left-preserved c =
    later_step c.args.size (basic_header 3 c.args.m.now.id) (extended_field c.args.m.now.time) c.loop-left.left.now c.loop-left.out.items c.push_later.new.out.items c.cut.result.0.now c.cut.result.1.now c.requires.size
    (λ e. differ (sym (eq-eqb (length c.loop-left.left.now) 0 e) ∙ sym c.is_empty.ensures ∙ c.loop-left-test.true)) c.in_ok-push_later.ensures c.cut.ensures.front c.cut.ensures.rest
    ∙ c.loop-left.invariant

pub returns : goal.returns
returns c = λ fuel le.
    let B = basic_header 3 c.args.m.now.id in
    let E = extended_field c.args.m.now.time in
    sym (none_later c.args.size B E c.loop-left.left.now c.loop-left.out.items (eqb-true (length c.loop-left.left.now) 0 (sym c.is_empty.ensures ∙ c.loop-left-test.false)))
    ∙ c.loop-left.invariant
    ∙ ap (λ r. c.args.out.now.items ++ r) (fuel_free (length c.args.rest.now) fuel c.args.size B E c.args.rest.now c.requires.size (omega arith) le)
