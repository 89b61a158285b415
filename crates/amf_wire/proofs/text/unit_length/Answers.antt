-- A unit of that length is at the front, or none is.
use Rattle.std.proofs.Common.{◌≡◌, ℕ, Bool, false, IsTrue, take, sym, subst}
use Rattle.std.specs.Option.{IfNone}
use Rattle.amf_wire.specs.Front.{IsFrontUnit, ranges_of}
use Rattle.std.specs.List.{AllZip}
use Rattle.amf_wire.specs.Text.{IsWithin}
use Rattle.amf_wire.specs.declared.text.Following.{Following}
use Rattle.amf_wire.proofs.TextFront.{none_begins, begins, ends, rest_is}
use Rattle.amf_wire.proofs.text.unit_length.Goals as goal

pub returns-in_err-following-clause-none : goal.returns-in_err-following-clause-none
returns-in_err-following-clause-none c = subst (λ o. IfNone o ((n : ℕ) → IsFrontUnit c.args.bytes.now n → ⊥)) (sym c.from_residual.ensures) (none_begins c.args.bytes.now c.requires c.in_err-following.ensures.none)

pub returns-then-begin-clause-unit : goal.returns-then-begin-clause-unit
returns-then-begin-clause-unit c =
    let f : Following = c.in_ok-following.following in
    begins c.args.bytes.now f.count f.low f.high c.requires c.in_ok-following.ensures.some
    (subst (λ xs. AllZip IsWithin (ranges_of f.count f.low f.high) (take f.count xs)) (rest_is 1 c.args.bytes.now) (c.begin.ensures.0 c.if-begin.true))

pub returns-else-begin-clause-none : goal.returns-else-begin-clause-none
returns-else-begin-clause-none c =
    let f : Following = c.in_ok-following.following in
    ends c.args.bytes.now f.count f.low f.high c.requires c.in_ok-following.ensures.some
    (λ h. not_both _ c.if-begin.false (c.begin.ensures.1 (subst (λ xs. AllZip IsWithin (ranges_of f.count f.low f.high) (take f.count xs)) (sym (rest_is 1 c.args.bytes.now)) h)))
  where
    not_both : (b : Bool) → b ≡ false → IsTrue b → ⊥
    not_both b p q = cc
