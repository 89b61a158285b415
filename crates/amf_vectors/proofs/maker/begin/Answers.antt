use Rattle.std.proofs.Common.{refl, [], ◌∷◌, arith}
use Rattle.amf_vectors.proofs.maker.begin.Goals as goal

pub text-requires-2 : goal.text-requires-2
text-requires-2 c = ((107 ∷ []) ∷ [], ((0, _, refl, ((omega arith, omega arith), tt)), tt), refl)

pub text-requires-3 : goal.text-requires-3
text-requires-3 c = ((112 ∷ []) ∷ [], ((0, _, refl, ((omega arith, omega arith), tt)), tt), refl)
