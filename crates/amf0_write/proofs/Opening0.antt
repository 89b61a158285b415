-- Nodes that begin.
use Rattle.std.proofs.Common.{◌≡◌, ℕ, suc, ◌<◌, ◌^◌, true, false, List, [], ◌∷◌, ◌++◌, length, sym, refl, ap, ◌∙◌, subst, inl, inr, arith, append_assoc, append-nil}
use Rattle.std.specs.Int.{to_be_bytes, w16, w32, w64}
use Rattle.std.proofs.lemmas.List.{nil_from_length}
use Rattle.amf_io.specs.Field.{Field, flat, field, u32_kind, raw_kind, no_refusal}
use Rattle.amf_io.proofs.Paths.{flat-append}
use Rattle.amf_wire.specs.Style.{canonical}
use Rattle.amf_wire.specs.Text.{IsText}
use Rattle.amf_graph.specs.declared.value.NodeId.{NodeId}
use Rattle.amf_graph.specs.Graph.{Value, node, Traits, Head, date, xml_document, array, object, Fits, Node, Graph, node_at}
use Rattle.amf_graph.specs.ByName.{by_name}
use Rattle.amf_graph.specs.Order.{Absent, seconds, values_met}
use Rattle.amf_graph.proofs.Lists.{length_pushed}
use Rattle.amf_graph.proofs.NameOrder.{by_name_again}
use Rattle.amf0_spelling.specs.Lacks0.{enters0, is_loose0}
use Rattle.amf0_spelling.specs.Meets.{Meets}
use Rattle.amf0_spelling.specs.Segments0.{marker0_field}
use Rattle.amf0_spelling.specs.Spells0.{NodeBy0, SpellsIn0, IsOpenTraits}
use Rattle.amf0_spelling.specs.Tables0.{Tables0, add_node0, add_done0}
use Rattle.amf0_write.specs.declared.output.Output.{Output}
use Rattle.amf0_write.specs.Written0.{AreTables0}
use Rattle.amf0_write.specs.Writes0.{tables_of, done_of, AddsLoose, object_front, Segment, value, values_then, pairs_then, segment_values, IsCanonical, Segments, Leads, Opens, plain, typed, ecma, strict, Opened}
use Rattle.amf0_write.proofs.Grown0.{grown_node, grown_loose}
use Rattle.amf0_write.proofs.Closing0.{name_fields, values_closed, pairs_closed, segments_split}
use Rattle.amf0_write.proofs.Leading0.{long_fields, met_first, values_append, sound_node, sound_done}

values_there : (vs : List Value) → segment_values (values_then vs) ≡ vs
values_there [] = refl
values_there (v ∷ vs) = ap (λ w. v ∷ w) (values_there vs)

pairs_there : (ps : List (List ℕ × Value)) → segment_values (pairs_then ps) ≡ seconds ps
pairs_there [] = refl
pairs_there (p ∷ ps) = ap (λ w. p.1 ∷ w) (pairs_there ps)

pub no_sealed : (a : Node) (c : Traits) → a.head ≡ object c → IsOpenTraits c → Fits a.head a.names a.values → a.values ≡ []
no_sealed a c e o f = nil_from_length a.values ((subst (λ h. Fits h a.names a.values) e f).0 ∙ ap length o.unsealed)

-- the first bytes of an object
pub front_none : (x : List ℕ) → x ≡ [] → object_front x ≡ 0x03 ∷ []
front_none x e = ap object_front e

pub front_some : (x : List ℕ) → (x ≡ [] → ⊥) → object_front x ≡ 0x10 ∷ to_be_bytes w16 (length x) ++ x
front_some [] f = absurd (f refl)
front_some (b ∷ x) f = refl

object_opens : (a : Node) (c : Traits) (x : List ℕ) → c.class ≡ x → a.head ≡ object c → IsOpenTraits c → IsText c.class → length c.class < 2 ^ 16 → Opens a (object_front x) (pairs_then (by_name a.names))
object_opens a c [] n e o t l = plain c e o n
object_opens a c (b ∷ x) n e o t l =
    subst (λ (y : List ℕ). Opens a (0x10 ∷ to_be_bytes w16 (length y) ++ y) (pairs_then (by_name a.names))) n (typed c e o (λ z. let k : b ∷ x ≡ [] = sym n ∙ z in cc) t l)

pub opens_object : (a : Node) (c : Traits) → a.head ≡ object c → IsOpenTraits c → IsText c.class → length c.class < 2 ^ 16 → Opens a (object_front c.class) (pairs_then (by_name a.names))
opens_object a c e o t l = object_opens a c c.class refl e o t l

-- the segments meet what the node's values are
opens_values : (a : Node) (b : List ℕ) (ps : List Segment) → Opens a b ps → Fits a.head a.names a.values → segment_values ps ≡ values_met a
opens_values a b ps (plain c e o n) f = pairs_there (by_name a.names) ∙ sym (object_met a c e (no_sealed a c e o f))
  where
    object_met : (a : Node) (c : Traits) → a.head ≡ object c → a.values ≡ [] → values_met a ≡ seconds (by_name a.names)
    object_met a c e n = rw (e, n) refl
opens_values a b ps (typed c e o n t l) f = pairs_there (by_name a.names) ∙ sym (object_met a c e (no_sealed a c e o f))
  where
    object_met : (a : Node) (c : Traits) → a.head ≡ object c → a.values ≡ [] → values_met a ≡ seconds (by_name a.names)
    object_met a c e n = rw (e, n) refl
opens_values a b ps (ecma e n m l) f = pairs_there (by_name a.names) ∙ sym (append-nil (seconds (by_name a.names))) ∙ sym (array_met a e n)
  where
    array_met : (a : Node) → a.head ≡ array → a.values ≡ [] → values_met a ≡ seconds (by_name a.names) ++ []
    array_met a e n = rw (e, n) refl
opens_values a b ps (strict e n l) f = values_there a.values ∙ sym (array_met a e n)
  where
    array_met : (a : Node) → a.head ≡ array → a.names ≡ [] → values_met a ≡ a.values
    array_met a e n = rw (e, n) refl

-- an array or an object enters
opens_enters : (a : Node) (b : List ℕ) (ps : List Segment) → Opens a b ps → enters0 a.head ≡ true
opens_enters a b ps (plain c e o n) = ap enters0 e
opens_enters a b ps (typed c e o n t l) = ap enters0 e
opens_enters a b ps (ecma e n m l) = ap enters0 e
opens_enters a b ps (strict e n l) = ap enters0 e

-- the marker of a node and the fields behind it, with their bytes
record Behind (g : Graph) (i : ℕ) (a : Node) (t : Tables0) (b : List ℕ) (t' : Tables0) : Type 0 where
  height : ℕ
  marker : ℕ
  rest : List Field
  spelled : NodeBy0 (SpellsIn0 height canonical g) canonical i a.head a.names a.values marker t rest t'
  is : b ≡ marker ∷ flat rest

behind : (g : Graph) (i : ℕ) (a : Node) (b c : List ℕ) (ps : List Segment) (t t' : Tables0) → Opens a b ps → Segments g ps (add_node0 t i) c t' → Behind g i a t (b ++ c) t'
behind g i a b c ps t t' (plain k e o n) h =
    let x = pairs_closed g (by_name a.names) (add_node0 t i) c t' h in
    record {
      height = x.0;
      marker = 0x03;
      rest = x.1.fields;
      spelled = subst (λ w. NodeBy0 (SpellsIn0 x.0 canonical g) canonical i w a.names a.values 0x03 t x.1.fields t') (sym e) (o, inl (refl, n, record { pairs = by_name a.names; same_names = by_name_again a.names; in_order = refl; spelled = x.1.spelled }));
      is = ap (λ w. 0x03 ∷ w) x.1.is;
    }
behind g i a b c ps t t' (typed k e o n d l) h =
    let x = pairs_closed g (by_name a.names) (add_node0 t i) c t' h in
    let y = name_fields k.class d l in
    record {
      height = x.0;
      marker = 0x10;
      rest = y.0 ++ x.1.fields;
      spelled = subst (λ w. NodeBy0 (SpellsIn0 x.0 canonical g) canonical i w a.names a.values 0x10 t (y.0 ++ x.1.fields) t') (sym e)
          (o, inr (refl, n, record { front = y.0; back = x.1.fields; mid = add_node0 t i; joined = refl; first = (y.1, refl); second = record { pairs = by_name a.names; same_names = by_name_again a.names; in_order = refl; spelled = x.1.spelled } }));
      is = ap (λ w. 0x10 ∷ w) (ap (λ w. w ++ c) (sym y.2) ∙ ap (λ w. flat y.0 ++ w) x.1.is ∙ sym (flat-append y.0 x.1.fields));
    }
behind g i a b c ps t t' (ecma e n m l) h =
    let x = pairs_closed g (by_name a.names) (add_node0 t i) c t' h in
    let count : Field = field (u32_kind no_refusal) (to_be_bytes w32 (length a.names)) in
    record {
      height = x.0;
      marker = 0x08;
      rest = count ∷ x.1.fields;
      spelled = subst (λ w. NodeBy0 (SpellsIn0 x.0 canonical g) canonical i w a.names a.values 0x08 t (count ∷ x.1.fields) t') (sym e)
          (inl (refl, n, m, record { front = count ∷ []; back = x.1.fields; mid = add_node0 t i; joined = refl; first = ((length a.names, l, refl, refl), refl); second = record { pairs = by_name a.names; same_names = by_name_again a.names; in_order = refl; spelled = x.1.spelled } }));
      is = ap (λ w. 0x08 ∷ (to_be_bytes w32 (length a.names) ++ w)) x.1.is;
    }
behind g i a b c ps t t' (strict e n l) h =
    let x = values_closed g a.values (add_node0 t i) c t' h in
    let count : Field = field (u32_kind no_refusal) (to_be_bytes w32 (length a.values)) in
    record {
      height = x.0;
      marker = 0x0A;
      rest = count ∷ x.1.fields;
      spelled = subst (λ w. NodeBy0 (SpellsIn0 x.0 canonical g) canonical i w a.names a.values 0x0A t (count ∷ x.1.fields) t') (sym e)
          (inr (refl, n, l, record { front = count ∷ []; back = x.1.fields; mid = add_node0 t i; joined = refl; first = (refl, refl); second = x.1.spelled }));
      is = ap (λ w. 0x0A ∷ (to_be_bytes w32 (length a.values) ++ w)) x.1.is;
    }

-- a date or an XML document
pub data Loose (a : Node) : List ℕ → Type 0 where
  dated : (p : ℕ) → a.head ≡ date p → Loose a (0x0B ∷ to_be_bytes w64 p ++ 0 ∷ 0 ∷ [])
  documented : (x : List ℕ) → a.head ≡ xml_document x → IsText x → length x < 2 ^ 32 → Loose a (0x0F ∷ to_be_bytes w32 (length x) ++ x)

loose_enters : (a : Node) (b : List ℕ) → Loose a b → enters0 a.head ≡ false
loose_enters a b (dated p e) = ap enters0 e
loose_enters a b (documented x e t l) = ap enters0 e

loose_is : (a : Node) (b : List ℕ) → Loose a b → is_loose0 a.head ≡ true
loose_is a b (dated p e) = ap is_loose0 e
loose_is a b (documented x e t l) = ap is_loose0 e

loose_values : (a : Node) (b : List ℕ) → Loose a b → Fits a.head a.names a.values → values_met a ≡ []
loose_values a b (dated p e) f = let k = subst (λ h. Fits h a.names a.values) e f in none a (date p) e k.1 k.2 refl
  where
    none : (a : Node) (h : Head) → a.head ≡ h → a.names ≡ [] → a.values ≡ [] → values_met (record { head = h; names = []; values = [] }) ≡ [] → values_met a ≡ []
    none a h e n m k = rw (e, n, m) k
loose_values a b (documented x e t l) f = let k = subst (λ h. Fits h a.names a.values) e f in none a (xml_document x) e k.1 k.2 refl
  where
    none : (a : Node) (h : Head) → a.head ≡ h → a.names ≡ [] → a.values ≡ [] → values_met (record { head = h; names = []; values = [] }) ≡ [] → values_met a ≡ []
    none a h e n m k = rw (e, n, m) k

loose_behind : (g : Graph) (i : ℕ) (a : Node) (b : List ℕ) (t : Tables0) → Loose a b → Behind g i a t b (add_done0 t i)
loose_behind g i a b t (dated p e) = record {
  height = 0;
  marker = 0x0B;
  rest = field (raw_kind 8) (to_be_bytes w64 p) ∷ field (raw_kind 2) (to_be_bytes w16 0) ∷ [];
  spelled = subst (λ w. NodeBy0 (SpellsIn0 0 canonical g) canonical i w a.names a.values 0x0B t (field (raw_kind 8) (to_be_bytes w64 p) ∷ field (raw_kind 2) (to_be_bytes w16 0) ∷ []) (add_done0 t i)) (sym e) (refl, 0, omega arith, refl, refl, refl);
  is = refl;
}
loose_behind g i a b t (documented x e d l) =
    let o = long_fields x d l in
    record {
      height = 0;
      marker = 0x0F;
      rest = o.0;
      spelled = subst (λ w. NodeBy0 (SpellsIn0 0 canonical g) canonical i w a.names a.values 0x0F t o.0 (add_done0 t i)) (sym e) (refl, o.1, refl);
      is = ap (λ w. 0x0F ∷ w) (sym o.2);
    }

module _ (g : Graph) (i : ℕ) (there : i < length g.nodes) (fits : Fits (node_at g i).head (node_at g i).names (node_at g i).values) where
  begun : (t : Tables0) (b : List ℕ) (t' : Tables0) → Absent t.amf3.done i → Behind g i (node_at g i) t b t' → IsCanonical g (node i) t b t'
  begun t b t' new x may_end = (
    suc x.height,
    marker0_field may_end t x.marker ∷ x.rest,
    inl (inr (record { there = there; new = new; fits = fits; marker = x.marker; rest = x.rest; fields = refl; behind = x.spelled })),
    x.is,
  )

  -- an array or an object that begins: its segments are left
  pub leads_opened : (before after : List Segment) (o p n : Output) → Absent (done_of o) i → tables_of p ≡ add_node0 (tables_of o) i → p.loose ≡ o.loose → p.bytes ≡ o.bytes → Opened (node_at g i) before after p n → Leads g (value (node i) ∷ before) after o n
  leads_opened before after o p n new e q b x =
      let same : tables_of n ≡ add_node0 (tables_of o) i = x.adds.tables ∙ e in
      let done : done_of n ≡ done_of o ++ i ∷ [] = ap (λ (t : Tables0). t.amf3.done) same in
      let met : segment_values after ≡ values_met (node_at g i) ++ segment_values before = ap segment_values x.left ∙ values_append x.segments before ∙ ap (λ w. w ++ segment_values before) (opens_values (node_at g i) x.bytes x.segments x.is fits) in record {
        bytes = x.bytes;
        appended = x.adds.bytes ∙ ap (λ w. w.items ++ x.bytes) b;
        completes = λ more t d.
            let s = segments_split g x.segments before (tables_of n) more t (subst (λ w. Segments g w (tables_of n) more t) x.left d) in record {
              front = x.bytes ++ s.front;
              back = s.back;
              mid = s.mid;
              joined = ap (λ w. x.bytes ++ w) s.joined ∙ sym (append_assoc x.bytes s.front s.back);
              first = begun (tables_of o) (x.bytes ++ s.front) s.mid new (behind g i (node_at g i) x.bytes s.front x.segments (tables_of o) s.mid x.is (subst (λ u. Segments g x.segments u s.front s.mid) same s.first));
              second = s.second;
            };
        meets = λ all ks w. (ks, subst (λ z. Meets g z (segment_values after) all ks) (sym done) (subst (λ z. Meets g (done_of o ++ i ∷ []) z all ks) (sym met) (met_first new w)), λ k a. a);
        later = omega (arith, ap length done, length_pushed (done_of o) i);
        grown = grown_node g i o n (opens_enters (node_at g i) x.bytes x.segments x.is) same (x.adds.loose ∙ ap (λ w. w.items) q);
        sound = λ s. subst (AreTables0 g) (sym same) (sound_node g (tables_of o) i (opens_enters (node_at g i) x.bytes x.segments x.is) new s);
      }

  -- a date or an XML document
  pub leads_loose : (b : List ℕ) (before : List Segment) (o n : Output) (id : NodeId) → id.0 ≡ i → Absent (done_of o) i → Loose (node_at g i) b → AddsLoose id b o n → Leads g (value (node i) ∷ before) before o n
  leads_loose b before o n id k new x h =
      let same : tables_of n ≡ add_done0 (tables_of o) i = h.tables ∙ ap (λ (j : ℕ). add_done0 (tables_of o) j) k in
      let done : done_of n ≡ done_of o ++ i ∷ [] = ap (λ (t : Tables0). t.amf3.done) same in
      let met : segment_values before ≡ values_met (node_at g i) ++ segment_values before = ap (λ w. w ++ segment_values before) (sym (loose_values (node_at g i) b x fits)) in record {
        bytes = b;
        appended = h.bytes;
        completes = λ more t d. record { front = b; back = more; mid = tables_of n; joined = refl; first = subst (λ u. IsCanonical g (node i) (tables_of o) b u) (sym same) (begun (tables_of o) b (add_done0 (tables_of o) i) new (loose_behind g i (node_at g i) b (tables_of o) x)); second = d };
        meets = λ all ks w. (ks, subst (λ z. Meets g z (segment_values before) all ks) (sym done) (subst (λ z. Meets g (done_of o ++ i ∷ []) z all ks) (sym met) (met_first new w)), λ k a. a);
        later = omega (arith, ap length done, length_pushed (done_of o) i);
        grown = grown_loose g i o n id k (loose_enters (node_at g i) b x) same h.loose;
        sound = λ s. subst (AreTables0 g) (sym same) (sound_done g (tables_of o) i (loose_enters (node_at g i) b x) (loose_is (node_at g i) b x) new s);
      }
