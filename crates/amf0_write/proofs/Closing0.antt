-- Segments one after the other are the values, or the pairs, of a node.
use Rattle.std.proofs.Common.{◌≡◌, ℕ, ◌+◌, ◌<◌, ◌^◌, Bool, true, false, List, [], ◌∷◌, ◌++◌, length, sym, refl, ap, ◌∙◌, subst, arith, append_assoc, append-nil}
use Rattle.std.specs.Int.{to_be_bytes, w16}
use Rattle.amf_io.specs.Field.{Field, flat, field, contents, u16_kind, text_kind, no_refusal}
use Rattle.amf_io.proofs.Paths.{flat-append}
use Rattle.amf_wire.specs.Style.{canonical}
use Rattle.amf_wire.specs.Text.{IsText}
use Rattle.amf_graph.specs.Graph.{Value, Graph}
use Rattle.amf3_spelling.specs.Then.{Spelling, Then}
use Rattle.amf0_spelling.specs.Tables0.{Tables0}
use Rattle.amf0_spelling.specs.Segments0.{marker0_field, Short, Values0, Pairs0, is_empty}
use Rattle.amf0_spelling.specs.Spells0.{SpellsIn0}
use Rattle.amf0_write.specs.Writes0.{Segment, values_then, pairs_then, IsCanonical, Segments}
use Rattle.amf0_write.proofs.Heights0.{higher, values_more, pairs_more}

pub contents_flat : (x : List ℕ) → flat (contents text_kind x) ≡ x
contents_flat [] = refl
contents_flat (b ∷ x) = ap (λ w. b ∷ w) (append-nil x)

-- a name, as fields
pub name_fields : (x : List ℕ) → IsText x → length x < 2 ^ 16 → (fs : List Field) × Short x fs × (flat fs ≡ to_be_bytes w16 (length x) ++ x)
name_fields x t l = (field (u16_kind no_refusal) (to_be_bytes w16 (length x)) ∷ contents text_kind x, (t, l, refl), ap (λ w. to_be_bytes w16 (length x) ++ w) (contents_flat x))

-- fields with the bytes of a segment
pub record Fielded (A : Spelling Tables0) (t : Tables0) (b : List ℕ) (t' : Tables0) : Type 0 where
  pub fields : List Field
  pub spelled : A t fields t'
  pub is : b ≡ flat fields

module _ (g : Graph) where
  abbrev At : ℕ → Bool → Value → Spelling Tables0
  At n = SpellsIn0 n canonical g

  -- one and then another, of one height
  two : (n m : ℕ) (may_end : Bool) (v : Value) (B : ℕ → Spelling Tables0) → ((k : ℕ) (t : Tables0) (fs : List Field) (t' : Tables0) → B m t fs t' → B (m + k) t fs t') → (t u t' : Tables0) (b c d : List ℕ) → Fielded (At n may_end v) t b u → Fielded (B m) u c t' → d ≡ b ++ c → (k : ℕ) × Fielded (Then (At k may_end v) (B k)) t d t'
  two n m may_end v B more t u t' b c d x y e = (
    n + m,
    record {
      fields = x.fields ++ y.fields;
      spelled = record { front = x.fields; back = y.fields; mid = u; joined = refl; first = higher g n m may_end v t x.fields u x.spelled; second = subst (λ k. B k u y.fields t') swap (more n u y.fields t' y.spelled) };
      is = e ∙ ap (λ w. w ++ c) x.is ∙ ap (λ w. flat x.fields ++ w) y.is ∙ sym (flat-append x.fields y.fields);
    },
  )
    where
      swap : m + n ≡ n + m
      swap = omega arith

  canonical_fields : (may_end : Bool) (v : Value) (t : Tables0) (b : List ℕ) (t' : Tables0) → IsCanonical g v t b t' → (n : ℕ) × Fielded (At n may_end v) t b t'
  canonical_fields may_end v t b t' h = let o = h may_end in (o.0, record { fields = o.1; spelled = o.2; is = o.3 })

  pub values_closed : (vs : List Value) (t : Tables0) (b : List ℕ) (t' : Tables0) → Segments g (values_then vs) t b t' → (n : ℕ) × Fielded (Values0 (At n) vs) t b t'
  values_closed [] t b t' h = (0, record { fields = []; spelled = (refl, h.1); is = h.0 })
  values_closed (v ∷ vs) t b t' h =
      let x = canonical_fields false v t h.front h.mid h.first in
      let y = values_closed vs h.mid h.back t' h.second in
      two x.0 y.0 false v (λ n. Values0 (At n) vs) (λ k. values_more (At y.0) (At (y.0 + k)) (higher g y.0 k) vs) t h.mid t' h.front h.back b x.1 y.1 h.joined

  pub pairs_closed : (ps : List (List ℕ × Value)) (t : Tables0) (b : List ℕ) (t' : Tables0) → Segments g (pairs_then ps) t b t' → (n : ℕ) × Fielded (Pairs0 (At n) ps) t b t'
  pairs_closed [] t b t' h =
      let x = name_fields [] h.first.0 h.first.1 in
      let same : h.mid ≡ t = h.first.3 in
      let after : t' ≡ t = h.second.second.1 ∙ h.second.first.1 ∙ same in
      let back : h.back ≡ 0x09 ∷ [] = h.second.joined ∙ ap (λ w. w ++ h.second.back) h.second.first.0 ∙ ap (λ w. 0x09 ∷ w) h.second.second.0 in (
        0,
        record {
          fields = x.0 ++ marker0_field true t 0x09 ∷ [];
          spelled = record { front = x.0; back = marker0_field true t 0x09 ∷ []; mid = t; joined = refl; first = (x.1, refl); second = ([], refl, refl, after) };
          is = h.joined ∙ ap (λ w. w ++ h.back) (h.first.2 ∙ sym x.2) ∙ ap (λ w. flat x.0 ++ w) back ∙ sym (flat-append x.0 (marker0_field true t 0x09 ∷ []));
        },
      )
  pairs_closed (p ∷ ps) t b t' h =
      let n = name_fields p.0 h.first.0 h.first.1 in
      let second = h.second in
      let first = subst (λ u. IsCanonical g p.1 u second.front second.mid) h.first.3 second.first in
      let x = canonical_fields (is_empty p.0) p.1 t second.front second.mid first in
      let y = pairs_closed ps second.mid second.back t' second.second in
      let o = two x.0 y.0 (is_empty p.0) p.1 (λ n. Pairs0 (At n) ps) (λ k. pairs_more (At y.0) (At (y.0 + k)) (higher g y.0 k) ps) t second.mid t' second.front second.back h.back x.1 y.1 second.joined in (
        o.0,
        record {
          fields = n.0 ++ o.1.fields;
          spelled = record { front = n.0; back = o.1.fields; mid = t; joined = refl; first = (n.1, refl); second = o.1.spelled };
          is = h.joined ∙ ap (λ w. w ++ h.back) (h.first.2 ∙ sym n.2) ∙ ap (λ w. flat n.0 ++ w) o.1.is ∙ sym (flat-append n.0 o.1.fields);
        },
      )

  -- segments in two runs
  pub record Split (ps qs : List Segment) (t : Tables0) (b : List ℕ) (t' : Tables0) : Type 0 where
    pub front : List ℕ
    pub back : List ℕ
    pub mid : Tables0
    pub joined : b ≡ front ++ back
    pub first : Segments g ps t front mid
    pub second : Segments g qs mid back t'

  pub segments_split : (ps qs : List Segment) (t : Tables0) (b : List ℕ) (t' : Tables0) → Segments g (ps ++ qs) t b t' → Split ps qs t b t'
  segments_split [] qs t b t' h = record { front = []; back = b; mid = t; joined = refl; first = (refl, refl); second = h }
  segments_split (p ∷ ps) qs t b t' h =
      let o = segments_split ps qs h.mid h.back t' h.second in record {
        front = h.front ++ o.front;
        back = o.back;
        mid = o.mid;
        joined = h.joined ∙ ap (λ w. h.front ++ w) o.joined ∙ sym (append_assoc h.front o.front o.back);
        first = record { front = h.front; back = o.front; mid = h.mid; joined = refl; first = h.first; second = o.first };
        second = o.second;
      }
