-- Values as they are kept that AMF 0 has as they are. A device of proofs.
use Rattle.std.specs.Prelude.{Bool, true, false}
use Rattle.amf_graph.specs.declared.value.Value.{Value as Stored}
use Rattle.amf_graph.specs.declared.value.Value.TheVariants.{Integer}

abbrev pub is_kept : Stored → Bool
is_kept (Integer n) = false
is_kept _ = true
