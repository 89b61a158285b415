-- A value of AMF 0 has one form.
use Rattle.std.proofs.Common.{◌≡◌, ℕ, zero, suc, Bool, true, false, List, [], ◌∷◌, ◌++◌, length, take, refl, sym, ap, ◌∙◌, arith, inl, inr, append-nil}
use Rattle.std.proofs.lemmas.Bool.{cases_eq}
use Rattle.std.proofs.lemmas.Nat.{from_be_bytes-to_be_bytes_4}
use Rattle.std.specs.Int.{from_be_bytes, to_be_bytes, w32}
use Rattle.amf_io.specs.Field.{Field, flat}
use Rattle.amf_wire.specs.Style.{free}
use Rattle.amf_graph.specs.Graph.{Value, leaf, node, Head, xml_document, date, array, object, wrapper, xml, bytes, ints, uints, doubles, values, dictionary, Graph, node_at}
use Rattle.amf_graph.proofs.Lists.{cons_same, same_list, split_same}
use Rattle.amf0_spelling.specs.declared.form.Form.{Form}
use Rattle.amf0_spelling.specs.declared.form.Form.TheVariants as form
use Rattle.amf0_spelling.specs.Form.{call_front, IsForm, OneForm}
use Rattle.amf0_spelling.specs.Segments0.{Values0}
use Rattle.amf0_spelling.specs.Spells0.{NodeBy0, SpellsIn0, Spells0}
use Rattle.amf0_spelling.specs.Tables0.{Tables0}
use Rattle.amf0_spelling.proofs.Alike0.{first_kind, Start, start_leaf, start_named, start_inline}

-- a value that begins with the switch has switched
begins : (fs : List Field) (k m : ℕ) (more : List ℕ) → Start fs k → flat fs ≡ m ∷ more → first_kind m ≡ k
begins fs k m more s e = let o = cons_same (sym s.starts.1 ∙ e) in ap first_kind (sym o.0) ∙ s.is_kind

switch_first : (n : ℕ) (g : Graph) (b : Bool) (v : Value) (t : Tables0) (fs : List Field) (t' : Tables0) (more : List ℕ) → SpellsIn0 n free g b v t fs t' → flat fs ≡ 0x11 ∷ more → t'.switched ≡ true
switch_first n g b (leaf x) t fs t' more (inl p) e = absurd (let k = begins fs 0 0x11 more (start_leaf free b x t fs t' p) e in omega (arith, k))
switch_first n g b (leaf x) t fs t' more (inr p) e = ap (λ (w : Tables0). w.switched) p.1.tables
switch_first n g b (node i) t fs t' more (inl (inl p)) e = absurd (let k = begins fs 1 0x11 more (start_named b i t fs t' p) e in omega (arith, k))
switch_first n g b (node i) t fs t' more (inl (inr p)) e = absurd (let k = begins fs 2 0x11 more (start_inline n free g b i t fs t' p) e in omega (arith, k))
switch_first n g b (node i) t fs t' more (inr p) e = ap (λ (w : Tables0). w.switched) p.1.tables

-- the front of the bytes, and what is behind it
front_is : (x : List ℕ) → take 6 x ≡ call_front → (more : List ℕ) × (x ≡ call_front ++ more)
front_is [] e = absurd cc
front_is (a ∷ []) e = absurd cc
front_is (a ∷ b ∷ []) e = absurd cc
front_is (a ∷ b ∷ c ∷ []) e = absurd cc
front_is (a ∷ b ∷ c ∷ d ∷ []) e = absurd cc
front_is (a ∷ b ∷ c ∷ d ∷ f ∷ []) e = absurd cc
front_is (a ∷ b ∷ c ∷ d ∷ f ∷ h ∷ x) e = (x, ap (λ w. w ++ x) e)

-- one item that begins with the switch
item_switched : (n : ℕ) (g : Graph) (vs : List Value) (t : Tables0) (fs : List Field) (t' : Tables0) (more : List ℕ) → length vs ≡ 1 → Values0 (SpellsIn0 n free g) vs t fs t' → flat fs ≡ 0x11 ∷ more → t'.switched ≡ true
item_switched n g [] t fs t' more l p e = absurd (omega (arith, l))
item_switched n g (v ∷ w ∷ vs) t fs t' more l p e = absurd (omega (arith, l))
item_switched n g (v ∷ []) t fs t' more l p e =
    let all : fs ≡ p.front = p.joined ∙ ap (λ l. p.front ++ l) p.second.0 ∙ append-nil p.front in
    ap (λ (w : Tables0). w.switched) p.second.1 ∙ switch_first n g false v t p.front p.mid more p.first (sym (ap flat all) ∙ e)

array_switched : (n : ℕ) (g : Graph) (i : ℕ) (a : Head) (names : List (List ℕ × Value)) (vs : List Value) (m : ℕ) (t : Tables0) (fs : List Field) (t' : Tables0) (more : List ℕ) → NodeBy0 (SpellsIn0 n free g) free i a names vs m t fs t' → m ≡ 0x0A → flat fs ≡ 0x00 ∷ 0x00 ∷ 0x00 ∷ 0x01 ∷ 0x11 ∷ more → t'.switched ≡ true
array_switched n g i array names vs m t fs t' more (inl z) k e = absurd (let d = z.0 in omega (arith, d, k))
array_switched n g i array names vs m t fs t' more (inr z) k e =
    let q = z.3 in
    let size = to_be_bytes w32 (length vs) in
    let all : size ++ flat q.back ≡ (0x00 ∷ 0x00 ∷ 0x00 ∷ 0x01 ∷ []) ++ (0x11 ∷ more) = sym (ap flat (q.joined ∙ ap (λ l. l ++ q.back) q.first.0)) ∙ e in
    let s = split_same size (0x00 ∷ 0x00 ∷ 0x00 ∷ 0x01 ∷ []) (flat q.back) (0x11 ∷ more) refl all in
    let one : length vs ≡ 1 = sym (from_be_bytes-to_be_bytes_4 (length vs) z.2) ∙ ap (from_be_bytes w32) s.0 in
    item_switched n g vs q.mid q.back t' more one q.second s.1
array_switched n g i (object c) names vs m t fs t' more (o, inl z) k e = absurd (let d = z.0 in omega (arith, d, k))
array_switched n g i (object c) names vs m t fs t' more (o, inr z) k e = absurd (let d = z.0 in omega (arith, d, k))
array_switched n g i (date p) names vs m t fs t' more z k e = absurd (let d = z.0 in omega (arith, d, k))
array_switched n g i (xml_document x) names vs m t fs t' more z k e = absurd (let d = z.0 in omega (arith, d, k))
array_switched n g i (wrapper c) names vs m t fs t' more z k e = absurd z
array_switched n g i (xml x) names vs m t fs t' more z k e = absurd z
array_switched n g i (bytes x) names vs m t fs t' more z k e = absurd z
array_switched n g i (ints f x) names vs m t fs t' more z k e = absurd z
array_switched n g i (uints f x) names vs m t fs t' more z k e = absurd z
array_switched n g i (doubles f x) names vs m t fs t' more z k e = absurd z
array_switched n g i (values f x) names vs m t fs t' more z k e = absurd z
array_switched n g i (dictionary f) names vs m t fs t' more z k e = absurd z

-- a value whose bytes begin like a call has switched
call_switched : (n : ℕ) (g : Graph) (v : Value) (t : Tables0) (fs : List Field) (t' : Tables0) (more : List ℕ) → SpellsIn0 n free g false v t fs t' → flat fs ≡ call_front ++ more → t'.switched ≡ true
call_switched n g (leaf x) t fs t' more (inl p) e = absurd (let k = begins fs 0 0x0A _ (start_leaf free false x t fs t' p) e in omega (arith, k))
call_switched n g (leaf x) t fs t' more (inr p) e = ap (λ (w : Tables0). w.switched) p.1.tables
call_switched n g (node i) t fs t' more (inl (inl p)) e = absurd (let k = begins fs 1 0x0A _ (start_named false i t fs t' p) e in omega (arith, k))
call_switched zero g (node i) t fs t' more (inl (inr p)) e = absurd p
call_switched (suc n) g (node i) t fs t' more (inl (inr p)) e =
    let a = node_at g i in
    let o = cons_same (sym (ap flat p.fields) ∙ e) in
    array_switched n g i a.head a.names a.values p.marker t p.rest t' more p.behind o.0 o.1
call_switched n g (node i) t fs t' more (inr p) e = ap (λ (w : Tables0). w.switched) p.1.tables

no_call : (g : Graph) (v : Value) (t : Tables0) (fs : List Field) (t' : Tables0) → Spells0 free g v t fs t' → take 6 (flat fs) ≡ call_front → t'.switched ≡ false → ⊥
no_call g v t fs t' p e s = let o = front_is (flat fs) e in let k = call_switched p.0 g v t fs t' o.0 p.1 o.1 in cc

both : (g : Graph) (v : Value) (t : Tables0) (fs : List Field) (t' : Tables0) → Spells0 free g v t fs t' → (f h : Form) → IsForm f t'.switched (flat fs) → IsForm h t'.switched (flat fs) → f ≡ h
both g v t fs t' p form.Call form.Call x y = refl
both g v t fs t' p form.Call form.Amf3 x y = absurd (y.1 x)
both g v t fs t' p form.Call form.Plain x y = absurd (no_call g v t fs t' p x y)
both g v t fs t' p form.Amf3 form.Call x y = absurd (x.1 y)
both g v t fs t' p form.Amf3 form.Amf3 x y = refl
both g v t fs t' p form.Amf3 form.Plain x y = absurd (let z = x.0 in cc)
both g v t fs t' p form.Plain form.Call x y = absurd (no_call g v t fs t' p y x)
both g v t fs t' p form.Plain form.Amf3 x y = absurd (let z = y.0 in cc)
both g v t fs t' p form.Plain form.Plain x y = refl

some : (switched : Bool) (b : List ℕ) → (f : Form) × IsForm f switched b
some false b = (form.Plain, refl)
some true b = elim (same_list cases_eq (take 6 b) call_front) [ inl e ↦ (form.Call, e) | inr n ↦ (form.Amf3, (refl, n)) ]

pub forms : OneForm
forms = record { some_form = some; one_form = both }
