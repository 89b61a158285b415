-- A size is there exactly where the scaled number ends in so many zeros.
use Rattle.std.proofs.Common.{inl, inr, subst, ◌+◌, ◌%◌, ◌≢◌}
use Rattle.amf_wire.proofs.pattern.size_of.Goals as goal
use Rattle.amf_wire.proofs.pattern.size_of.Goals.{then-exponent-lt1023-via-then-exponent-lt1023, then-exponent-lt1023-via-else-exponent-lt1023+then-exponent-gt1075}
use Rattle.amf_wire.proofs.Doubles.{no_size, no_exponent}

pub returns-then-exponent-lt1023-clause-none : goal.returns-then-exponent-lt1023-clause-none
returns-then-exponent-lt1023-clause-none c _ size s = elim c.then-exponent-lt1023.branch [
  | then-exponent-lt1023-via-then-exponent-lt1023 w ↦ no_exponent _ _ size c.requires.fraction (inl w.if-exponent-lt1023.true) s
  | then-exponent-lt1023-via-else-exponent-lt1023+then-exponent-gt1075 w ↦ no_exponent _ _ size c.requires.fraction (inr w.if-exponent-gt1075.true) s
]

pub returns-then-scaled-parts-ne0-clause-none : goal.returns-then-scaled-parts-ne0-clause-none
returns-then-scaled-parts-ne0-clause-none c _ size s = no_size _ _ size (subst (λ w. (4503599627370496 + c.args.fraction) % w ≢ 0) c.power_of_two-parts.ensures c.if-scaled-parts-ne0.true) s
