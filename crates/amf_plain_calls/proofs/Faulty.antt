-- The object of a fault, text by text.
use Rattle.std.proofs.Common.{◌≡◌, ◌∙◌, ℕ, true, List, [], ◌∷◌, length, ap, codes}
use Rattle.amf_wire.specs.Text.{is_text, IsText}
use Rattle.amf_wire.proofs.TextTest.{is_text-is}
use Rattle.amf_graph.specs.declared.value.TextId.{TextId}
use Rattle.amf_graph.specs.Arena.{Arena, StoredTraits, object}
use Rattle.amf_graph.specs.Building.{no_arena, kept_text, kept_traits, kept_node, stored_traits, closed}
use Rattle.amf_graph.specs.Grafting.{text_value}
use Rattle.flex_msgs.specs.declared.reply.FaultText.{FaultText}
use Rattle.amf_plain_calls.specs.FoundForms.{fault_arena}

module _ (f : FaultText) (b0 b1 b2 b3 b4 b5 b6 b7 b8 b9 : Arena) (class x1 x2 x3 x4 x5 x6 : TextId) (t : ℕ)
    (e0 : b0 ≡ no_arena) (e1 : b1 ≡ kept_text b0 []) (e2 : b2 ≡ kept_text b1 (codes "code")) (e3 : b3 ≡ kept_text b2 f.code) (e4 : b4 ≡ kept_text b3 (codes "description")) (e5 : b5 ≡ kept_text b4 f.text)
    (e6 : b6 ≡ kept_text b5 (codes "level")) (e7 : b7 ≡ kept_text b6 (codes "error")) (e8 : b8 ≡ kept_traits b7 (stored_traits class true []))
    (i0 : class.0 ≡ length b0.texts) (i1 : x1.0 ≡ length b1.texts) (i2 : x2.0 ≡ length b2.texts) (i3 : x3.0 ≡ length b3.texts) (i4 : x4.0 ≡ length b4.texts) (i5 : x5.0 ≡ length b5.texts) (i6 : x6.0 ≡ length b6.texts) (it : t ≡ length b7.traits) where
  t1 : b1 ≡ kept_text no_arena []
  t1 = e1 ∙ ap (λ z. kept_text z []) e0

  t2 : b2 ≡ record { texts = [] ∷ codes "code" ∷ []; traits = []; nodes = [] }
  t2 = e2 ∙ ap (λ z. kept_text z (codes "code")) t1

  t3 : b3 ≡ record { texts = [] ∷ codes "code" ∷ f.code ∷ []; traits = []; nodes = [] }
  t3 = e3 ∙ ap (λ z. kept_text z f.code) t2

  t4 : b4 ≡ record { texts = [] ∷ codes "code" ∷ f.code ∷ codes "description" ∷ []; traits = []; nodes = [] }
  t4 = e4 ∙ ap (λ z. kept_text z (codes "description")) t3

  t5 : b5 ≡ record { texts = [] ∷ codes "code" ∷ f.code ∷ codes "description" ∷ f.text ∷ []; traits = []; nodes = [] }
  t5 = e5 ∙ ap (λ z. kept_text z f.text) t4

  t6 : b6 ≡ record { texts = [] ∷ codes "code" ∷ f.code ∷ codes "description" ∷ f.text ∷ codes "level" ∷ []; traits = []; nodes = [] }
  t6 = e6 ∙ ap (λ z. kept_text z (codes "level")) t5

  t7 : b7 ≡ record { texts = [] ∷ codes "code" ∷ f.code ∷ codes "description" ∷ f.text ∷ codes "level" ∷ codes "error" ∷ []; traits = []; nodes = [] }
  t7 = e7 ∙ ap (λ z. kept_text z (codes "error")) t6

  abbrev own_traits : StoredTraits
  own_traits = record { class = 0; dynamic = true; sealed = [] }

  class_first : stored_traits class true [] ≡ own_traits
  class_first = ap (λ (n : ℕ). record { class = n; dynamic = true; sealed = [] }) (i0 ∙ ap (λ (z : Arena). length z.texts) e0)

  pub with_traits : b8 ≡ record { texts = [] ∷ codes "code" ∷ f.code ∷ codes "description" ∷ f.text ∷ codes "level" ∷ codes "error" ∷ []; traits = own_traits ∷ []; nodes = [] }
  with_traits = e8 ∙ ap (λ z. kept_traits z (stored_traits class true [])) t7 ∙ ap (λ (s : StoredTraits). record { texts = [] ∷ codes "code" ∷ f.code ∷ codes "description" ∷ f.text ∷ codes "level" ∷ codes "error" ∷ []; traits = s ∷ []; nodes = [] }) class_first

  pub traits_first : t ≡ 0
  traits_first = it ∙ ap (λ (z : Arena). length z.traits) t7

  pub n1 : x1.0 ≡ 1
  n1 = i1 ∙ ap (λ (z : Arena). length z.texts) t1

  pub n2 : x2.0 ≡ 2
  n2 = i2 ∙ ap (λ (z : Arena). length z.texts) t2

  pub n3 : x3.0 ≡ 3
  n3 = i3 ∙ ap (λ (z : Arena). length z.texts) t3

  pub n4 : x4.0 ≡ 4
  n4 = i4 ∙ ap (λ (z : Arena). length z.texts) t4

  pub n5 : x5.0 ≡ 5
  n5 = i5 ∙ ap (λ (z : Arena). length z.texts) t5

  pub n6 : x6.0 ≡ 6
  n6 = i6 ∙ ap (λ (z : Arena). length z.texts) t6

  pub object_first : (n : ℕ) → n ≡ length b8.nodes → n ≡ 0
  object_first n e = e ∙ ap (λ (z : Arena). length z.nodes) with_traits

  pub fault_made : b9 ≡ kept_node b8 (closed (object t) ((x1.0, text_value x2.0) ∷ (x3.0, text_value x4.0) ∷ (x5.0, text_value x6.0) ∷ []) []) → b9 ≡ fault_arena f
  fault_made e =
      e ∙ ap (λ z. kept_node z (closed (object t) ((x1.0, text_value x2.0) ∷ (x3.0, text_value x4.0) ∷ (x5.0, text_value x6.0) ∷ []) [])) with_traits
      ∙ ap (λ k. same k x1.0 x2.0 x3.0 x4.0 x5.0 x6.0) traits_first
      ∙ ap (λ k. same 0 k x2.0 x3.0 x4.0 x5.0 x6.0) n1 ∙ ap (λ k. same 0 1 k x3.0 x4.0 x5.0 x6.0) n2 ∙ ap (λ k. same 0 1 2 k x4.0 x5.0 x6.0) n3
      ∙ ap (λ k. same 0 1 2 3 k x5.0 x6.0) n4 ∙ ap (λ k. same 0 1 2 3 4 k x6.0) n5 ∙ ap (λ k. same 0 1 2 3 4 5 k) n6
    where
      same : (k a b c d e g : ℕ) → Arena
      same k a b c d e g = record {
        texts = [] ∷ codes "code" ∷ f.code ∷ codes "description" ∷ f.text ∷ codes "level" ∷ codes "error" ∷ [];
        traits = own_traits ∷ [];
        nodes = closed (object k) ((a, text_value b) ∷ (c, text_value d) ∷ (e, text_value g) ∷ []) [] ∷ [];
      }

pub a_text : (x : List ℕ) → is_text x ≡ true → IsText x
a_text x t = (is_text-is x).0 t
