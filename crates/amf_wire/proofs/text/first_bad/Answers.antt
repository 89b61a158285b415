-- More of a text is a text, and where no unit follows the longest text ends.
use Rattle.std.proofs.Common.{ℕ, drop, subst, arith, length-drop}
use Rattle.amf_wire.specs.Front.{IsFrontUnit, IsFrontText}
use Rattle.amf_wire.proofs.TextFront.{more_text, ends_text, no_end, rest_is}
use Rattle.amf_wire.proofs.text.first_bad.Goals as goal

pub loop-at-preserved : goal.loop-at-preserved
loop-at-preserved c =
    let u : IsFrontText (drop c.loop-at.at c.args.bytes.now) c.in-Some.length
    = subst (λ xs. IsFrontText xs c.in-Some.length) (rest_is c.loop-at.at c.args.bytes.now) c.in-Some.ensures.text in
    record {
      within = omega (arith, u.there, length-drop c.loop-at.at c.args.bytes.now);
      front = more_text c.args.bytes.now c.loop-at.at c.in-Some.length c.loop-at.invariant.front u;
    }

pub returns-in-None-clause-whole : goal.returns-in-None-clause-whole
returns-in-None-clause-whole c =
    let none : (n : ℕ) → IsFrontUnit (drop c.loop-at.at c.args.bytes.now) n → ⊥
    = subst (λ xs. (n : ℕ) → IsFrontUnit xs n → ⊥) (rest_is c.loop-at.at c.args.bytes.now) c.in-None.ensures.none in
    (λ e. absurd cc, λ t. absurd (no_end c.args.bytes.now c.loop-at.at (ends_text c.args.bytes.now c.loop-at.at c.loop-at.invariant.within c.loop-at.invariant.front none) c.loop-at-test.true t))

pub returns-in-None-clause-front : goal.returns-in-None-clause-front
returns-in-None-clause-front c =
    let none : (n : ℕ) → IsFrontUnit (drop c.loop-at.at c.args.bytes.now) n → ⊥
    = subst (λ xs. (n : ℕ) → IsFrontUnit xs n → ⊥) (rest_is c.loop-at.at c.args.bytes.now) c.in-None.ensures.none in
    (c.loop-at-test.true, ends_text c.args.bytes.now c.loop-at.at c.loop-at.invariant.within c.loop-at.invariant.front none)
