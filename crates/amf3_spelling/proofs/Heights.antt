-- What is spelled in a height is spelled in a greater one, by the same fields.
use Rattle.std.proofs.Common.{ℕ, zero, suc, ◌≤◌, List, [], ◌∷◌, sym, subst, inl, inr, arith}
use Rattle.amf_wire.specs.Style.{Style}
use Rattle.amf_graph.specs.Graph.{Value, leaf, node, Graph, node_at}
use Rattle.amf3_spelling.specs.Tables.{Tables, add_node}
use Rattle.amf3_spelling.specs.Then.{Spelling, Then, Plain}
use Rattle.amf3_spelling.specs.ByteSpelling as bytes
use Rattle.amf3_spelling.specs.LawsHeight3.{MoreHeightSpells}
use Rattle.amf3_spelling.specs.Words3.{Text}
use Rattle.amf3_spelling.specs.Segments3.{Segment, flag, four, eight, raw, chars, word, value, Fixed, Lifted, Segments, segments_of}
use Rattle.amf3_spelling.specs.Headers3.{HeaderBy}
use Rattle.amf3_spelling.specs.Nodes3.{Begun}
use Rattle.amf3_spelling.specs.Spells3.{ValueBy, InlineIn, SpellsIn}
use Rattle.amf3_spelling.proofs.BytesOf.{to_spells}
use Rattle.amf3_spelling.proofs.FieldsOf.{from_spells}
use Rattle.amf3_spelling.proofs.Forget.{Implies, then_implies}

module _ (s : Style) (R Q : Value → Spelling Tables) (f : (v : Value) → Implies (R v) (Q v)) where
  behind : (A : Spelling Tables) (ps : List Segment) → Implies (Segments R s ps) (Segments Q s ps) → Implies (Then A (Segments R s ps)) (Then A (Segments Q s ps))
  behind A ps = then_implies A (Segments R s ps) A (Segments Q s ps) (λ t fs t' z. z)

  pub segments_more : (ps : List Segment) → Implies (Segments R s ps) (Segments Q s ps)
  segments_more [] t fs t' z = z
  segments_more (word x ∷ ps) t fs t' z = behind (Lifted (Text s x)) ps (segments_more ps) t fs t' z
  segments_more (value v ∷ ps) t fs t' z = then_implies (R v) (Segments R s ps) (Q v) (Segments Q s ps) (f v) (segments_more ps) t fs t' z
  segments_more (flag b ∷ ps) t fs t' z = behind (Plain (Fixed s (flag b))) ps (segments_more ps) t fs t' z
  segments_more (four n ∷ ps) t fs t' z = behind (Plain (Fixed s (four n))) ps (segments_more ps) t fs t' z
  segments_more (eight n ∷ ps) t fs t' z = behind (Plain (Fixed s (eight n))) ps (segments_more ps) t fs t' z
  segments_more (raw x ∷ ps) t fs t' z = behind (Plain (Fixed s (raw x))) ps (segments_more ps) t fs t' z
  segments_more (chars x ∷ ps) t fs t' z = behind (Plain (Fixed s (chars x))) ps (segments_more ps) t fs t' z

  begun_more : (g : Graph) (i : ℕ) → Implies (Begun R s g i) (Begun Q s g i)
  begun_more g i t fs t' z = record {
    there = z.there;
    new = z.new;
    fits = z.fits;
    pairs = z.pairs;
    same_names = z.same_names;
    in_order = z.in_order;
    named = z.named;
    number = z.number;
    header = z.header;
    spelled = z.spelled;
    rest = z.rest;
    fields = z.fields;
    behind = behind (Lifted (HeaderBy s (node_at g i).head (node_at g i).values z.number)) (segments_of (node_at g i).head z.pairs (node_at g i).values) (segments_more (segments_of (node_at g i).head z.pairs (node_at g i).values)) (add_node t i) z.rest t' z.behind;
  }

value_more : (s : Style) (g : Graph) (I J : ℕ → Spelling Tables) → ((i : ℕ) → Implies (I i) (J i)) → (v : Value) → Implies (ValueBy I s g v) (ValueBy J s g v)
value_more s g I J f (leaf x) t fs t' z = z
value_more s g I J f (node i) t fs t' (inl z) = inl z
value_more s g I J f (node i) t fs t' (inr z) = inr (f i t fs t' z)

inline_more : (s : Style) (g : Graph) (n m : ℕ) → n ≤ m → (i : ℕ) → Implies (InlineIn n s g i) (InlineIn m s g i)
inline_more s g zero m l i t fs t' z = absurd z
inline_more s g (suc n) zero l i t fs t' z = absurd (omega arith)
inline_more s g (suc n) (suc m) l i t fs t' z = begun_more s (SpellsIn n s g) (SpellsIn m s g) (value_more s g (InlineIn n s g) (InlineIn m s g) (inline_more s g n m (omega arith))) g i t fs t' z

pub spells_more : (s : Style) (g : Graph) (n m : ℕ) → n ≤ m → (v : Value) → Implies (SpellsIn n s g v) (SpellsIn m s g v)
spells_more s g n m l v = value_more s g (InlineIn n s g) (InlineIn m s g) (inline_more s g n m l) v

pub more_height : MoreHeightSpells
more_height = record {
  fields = λ n m l s g v t fs t' z. spells_more s g n m l v t fs t' z;
  bytes = λ n m l s g v t b t' z.
      let o = from_spells n s g v t b t' z in
      subst (λ w. bytes.Spells m s g v t w t') (sym o.2) (to_spells m s g v t o.0 t' (spells_more s g n m l v t o.0 t' o.1));
}
