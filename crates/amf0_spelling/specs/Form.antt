-- In which way a value of AMF 0 uses AMF 3 (3.1; remoting sends the arguments of a call as a strict array, 4.3).
use Rattle.std.specs.Prelude.{◌≡◌, ◌≢◌, ℕ, Bool, true, false, List, [], ◌∷◌, take}
use Rattle.amf_io.specs.Field.{Field, flat}
use Rattle.amf_wire.specs.Style.{free}
use Rattle.amf_graph.specs.Graph.{Graph, Value}
use Rattle.amf0_spelling.specs.declared.form.Form.{Form}
use Rattle.amf0_spelling.specs.declared.form.Form.TheVariants.{Call, Amf3, Plain}
use Rattle.amf0_spelling.specs.Spells0.{Spells0}
use Rattle.amf0_spelling.specs.Tables0.{Tables0}

-- a strict array of one item, in AMF 3
abbrev pub call_front : List ℕ
call_front = 0x0A ∷ 0x00 ∷ 0x00 ∷ 0x00 ∷ 0x01 ∷ 0x11 ∷ []

-- the form of a value by its bytes, and by whether a marker in it switched to AMF 3
abbrev pub IsForm : Form → Bool → List ℕ → Type 0
IsForm Call switched b = take 6 b ≡ call_front
IsForm Amf3 switched b = (switched ≡ true) × (take 6 b ≢ call_front)
IsForm Plain switched b = switched ≡ false

pub record OneForm : Type 0 where
  pub some_form : (switched : Bool) (b : List ℕ) → (form : Form) × IsForm form switched b
  -- a value that is spelled has one form
  pub one_form : (g : Graph) (v : Value) (t : Tables0) (fs : List Field) (t' : Tables0) → Spells0 free g v t fs t' → (form other : Form) → IsForm form t'.switched (flat fs) → IsForm other t'.switched (flat fs) → form ≡ other
