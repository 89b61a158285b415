-- More fuel reads the same.
use Rattle.amf3_layout_laws.proofs.Layout3Grows.{value_grows}
use Rattle.amf3_layout_laws.proofs.layout_laws.layouts_grow.Goals as goal

pub returns : goal.returns
returns c = λ n m s le. value_grows n m le s
