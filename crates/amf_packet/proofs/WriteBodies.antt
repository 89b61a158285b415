-- What stands before a value that is whole in AMF 3.
use Rattle.std.proofs.Common.{◌≡◌, ℕ, false, List, [], ◌∷◌, ◌++◌, Result, Ok, Err, refl, sym, ap, ◌∙◌, append_assoc, append-nil, OnOk, OnErr}
use Rattle.amf_io.specs.Field.{flat}
use Rattle.amf_wire.specs.Style.{canonical}
use Rattle.amf_graph.specs.Graph.{Graph}
use Rattle.amf0_spelling.specs.declared.form.Form.TheVariants as form
use Rattle.amf0_spelling.specs.Segments0.{marker0_field}
use Rattle.amf0_spelling.specs.Tables0.{no_tables0}
use Rattle.amf0_write.specs.Written0.{AppendsLowered0}
use Rattle.amf3_write.specs.Written.{AppendsCanonical}
use Rattle.amf_packet.specs.Packet.{BodyBy, call_fields}
use Rattle.amf_packet.specs.WriteParts.{Grows, Appends}

pub amf3_written : {T E : Type 0} (g : Graph) (a b c : List ℕ) (r : Result T E) → b ≡ a ++ 0x11 ∷ [] → OnOk r (AppendsCanonical g b c) → OnOk r (Appends (BodyBy canonical form.Amf3 g) a c)
amf3_written g a b c (Ok v) e (fs, s, is) = (marker0_field false no_tables0 0x11 ∷ fs, (fs, refl, s), is ∙ ap (λ w. w ++ flat fs) e ∙ append_assoc a (0x11 ∷ []) (flat fs))
amf3_written g a b c (Err x) e h = tt

pub call_written : {T E : Type 0} (g : Graph) (a b c : List ℕ) (r : Result T E) → b ≡ a ++ 0x0A ∷ 0x00 ∷ 0x00 ∷ 0x00 ∷ 0x01 ∷ 0x11 ∷ [] → OnOk r (AppendsCanonical g b c) → OnOk r (Appends (BodyBy canonical form.Call g) a c)
call_written g a b c (Ok v) e (fs, s, is) = (call_fields ++ fs, (fs, refl, s), is ∙ ap (λ w. w ++ flat fs) e ∙ append_assoc a (0x0A ∷ 0x00 ∷ 0x00 ∷ 0x00 ∷ 0x01 ∷ 0x11 ∷ []) (flat fs))
call_written g a b c (Err x) e h = tt

pub plain_written : {T E : Type 0} (g : Graph) (a b : List ℕ) (r : Result T E) → OnOk r (AppendsLowered0 g a b) → OnOk r (Appends (BodyBy canonical form.Plain g) a b)
plain_written g a b (Ok v) (low, lowered, (fs, s, is)) = (fs, (low, lowered, s), is)
plain_written g a b (Err x) h = tt

pub plain_grows : {T E : Type 0} (g : Graph) (a b : List ℕ) (r : Result T E) → OnOk r (AppendsLowered0 g a b) → OnErr r (b ≡ a) → Grows a b
plain_grows g a b (Ok v) (low, lowered, (fs, s, is)) same = (flat fs, is)
plain_grows g a b (Err x) written same = ([], same ∙ sym (append-nil a))
