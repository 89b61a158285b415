-- What is told of a value that is no node, in each way of telling. A device of proofs.
use Rattle.std.specs.Prelude.{◌≡◌, Bool, Result, OnOk}
use Rattle.json.specs.Tree.{json_tokens}
use Rattle.amf_graph.specs.Graph.{Leaf, leaf, Value}
use Rattle.amf_text.specs.Scalars.{AreDigits}
use Rattle.amf_text.specs.Told.{Way, told_leaf}
use Rattle.amf_text_write.specs.Laid.{Shown}
use Rattle.amf_text_write.specs.Tells.{Tells}

abbrev pub TellsLeaf : {T E : Type 0} → Bool → Value → Result T E → Shown → Shown → Type 0
TellsLeaf bare v result old new = (w : Way) (x : Leaf) → AreDigits w.digits → w.bare ≡ bare → v ≡ leaf x → OnOk result (Tells (json_tokens (told_leaf w x)) old new)
