-- The spelling of AMF 3 by its bytes, as lemmas name it.
pub use Rattle.amf3_spelling.specs.ByteSpelling.{Spelling, Then, Plain, Text, empty, whole, placed, Texts, entry_texts, TraitsOf, given, indexed, Step, byte, number, unused, flag, raw, word, traits, StepOf, Segment, step, value, values_then, pairs_then, four_bytes, signed_bytes, eight_bytes, header_step, body, segments_of, leaf_segments, Lifted, Segments, Placed, Begun, ValueBy, NodeIn, Spells, Spelled}
