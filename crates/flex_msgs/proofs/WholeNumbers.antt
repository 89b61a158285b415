-- The doubles of moments.
use Rattle.std.proofs.Common.{◌≡◌, ℕ, ◌<◌, nat_lt, true, false, pos, Option, Some, None, ap, sym}
use Rattle.std.specs.Prelude.{◌↔◌, IfSome, IsSome, unwrap_or}
use Rattle.amf_wire.specs.declared.pattern.Pattern.{Pattern}
use Rattle.amf_wire.specs.Whole.{IsPatternOf, HasPattern}
use Rattle.amf_wire.specs.WholeNumbers.{pattern_of}
use Rattle.amf_wire.proofs.Doubles.{inverse}
use Rattle.amf_wire.proofs.WholeNumbers.{if_true, lt_true, pattern}
use Rattle.flex_msgs.specs.Messages.{stamp_of}

pub stamped : (o : Option Pattern) (n : ℕ) (d : Pattern) → n < 9007199254740992 → IfSome o (λ p. IsPatternOf p.0 (pos n)) → (IsSome o ↔ HasPattern (pos n)) → (unwrap_or o d).0 ≡ pattern_of n
stamped (Some p) n d l s t = inverse.one_pattern (pos n) p.0 (pattern_of n) s (pattern n l)
stamped None n d l s t = absurd (let e : false ≡ true = t.1 l in cc)

pub stamp_is : (m : ℕ) → m < 9007199254740992 → pattern_of m ≡ stamp_of m
stamp_is m l = ap pattern_of (sym (if_true (nat_lt m 9007199254740992) m 0 (lt_true m 9007199254740992 l)))
