use Rattle.amf0_spelling.proofs.LowLaws as laws
use Rattle.amf0_spelling.proofs.Low as low
use Rattle.amf0_spelling.proofs.LowBounds as bounds
use Rattle.amf0_spelling.proofs.LoweredLow as lowered
use Rattle.amf0_spelling.proofs.BuiltLowering as built
use Rattle.amf0_spelling.proofs.laws.graphs_have_one_lowering.Goals as goal

pub returns : goal.returns
returns c = record {
  exist = laws.lowering_exists;
  alone = laws.one_lowering;
  lowered = lowered.lowering_is_lowered;
  lowered_alike = low.lowered_alike;
  same = laws.lowered_same;
  whole = λ g h w l. bounds.low_whole g w h l;
  ready = bounds.ready_lowering;
  built = built.built_lowering;
}
