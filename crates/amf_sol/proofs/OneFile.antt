-- A shared object has one canonical file, which lacks nothing, and one first lack.
use Rattle.std.proofs.Common.{◌≡◌, ℕ, zero, suc, ◌*◌, ◌<◌, false, List, [], ◌∷◌, ◌++◌, length, slice_get, Some, refl, sym, ap, ◌∙◌, subst, arith, append-nil}
use Rattle.std.specs.Int.{to_be_bytes, w32}
use Rattle.std.proofs.lemmas.Option.{same_Some}
use Rattle.amf_io.specs.Field.{Field, flat}
use Rattle.amf_io.proofs.Paths.{flat-append}
use Rattle.amf_wire.specs.Style.{canonical}
use Rattle.amf_wire.specs.U29.{IsU29}
use Rattle.amf_graph.specs.declared.lack.LackKind.{LackKind}
use Rattle.amf_graph.specs.declared.lack.LackKind.TheVariants.{EmptyName, NoForm, LongName, Shared, FarReference, LongFile}
use Rattle.amf_graph.specs.Graph.{Value, Graph, node_at}
use Rattle.amf_graph.specs.ByName.{by_name}
use Rattle.amf_graph.specs.Lacks.{rank, IsFirstLack}
use Rattle.amf_graph.specs.Order.{IsOrder}
use Rattle.amf_graph.proofs.Lists.{no_entry}
use Rattle.amf_graph.proofs.Walks.{walks_fixed}
use Rattle.amf3_spelling.specs.Lacks3.{Lacks3}
use Rattle.amf3_spelling.specs.Tables.{Words, Tables, with_words}
use Rattle.amf3_spelling.specs.Then.{Plain}
use Rattle.amf3_spelling.specs.Words3.{Text, empty, whole, placed}
use Rattle.amf3_spelling.specs.Segments3.{Lifted}
use Rattle.amf3_spelling.specs.Spells3.{Spells3}
use Rattle.amf3_spelling.proofs.ByteSpelling as spelling
use Rattle.amf3_spelling.proofs.BytesOf.{to_spells}
use Rattle.amf3_spelling.proofs.Fixed3.{fixed_spells}
use Rattle.amf3_spelling.proofs.Stays3.{Proper, stays_same, keeps_spells}
use Rattle.amf3_spelling.proofs.Steps3.{text_fixed}
use Rattle.amf0_spelling.specs.Lacks0.{Lacks0}
use Rattle.amf0_spelling.specs.Segments0.{Short}
use Rattle.amf0_spelling.specs.Spells0.{Spells0}
use Rattle.amf0_spelling.specs.Tables0.{Tables0, no_tables0}
use Rattle.amf0_spelling.proofs.Fixed0 as fixed0
use Rattle.amf0_spelling.proofs.Stays0 as kept0
use Rattle.amf0_spelling.proofs.LowLaws.{one_lowering}
use Rattle.amf_sol.specs.declared.sol_version.SolVersion.{SolVersion}
use Rattle.amf_sol.specs.declared.sol_version.SolVersion.TheVariants.{Amf0, Amf3}
use Rattle.amf_sol.specs.SharedObject.{Shared as Object, HasHolder, second_signature, padding, version_field, PairsBy, file_tables, file_tables0, PairsOf, HolderBy, AfterLength, SpellsFile}
use Rattle.amf_sol.specs.FileLacks.{Unless0, IsHolderLack, IsFileLack, in_holder, too_long}
use Rattle.amf_sol.specs.FileLaws.{FilesOrLacks}
use Rattle.amf_sol.proofs.FileWrites.{one_holder, holder_lacks_nothing}
use Rattle.amf_sol.proofs.LowHolders.{lowered_holder}

-- The pairs.

bytes_text : (x : List ℕ) (w : Words) (fs : List Field) (w' : Words) → Text canonical x w fs w' → spelling.Text canonical x w (flat fs) w'
bytes_text x w fs w' (empty e h u f a) = spelling.empty e (subst (λ b. IsU29 canonical 1 b) (sym (ap flat f ∙ append-nil h)) u) a
bytes_text x w fs w' (whole e i o h u f a) = spelling.whole e i o h u (ap flat f ∙ ap (λ z. h ++ z) (append-nil x)) a
bytes_text x w fs w' (placed e k i o h u f a) = spelling.placed e k i o (subst (λ b. IsU29 canonical (2 * k) b) (sym (ap flat f ∙ append-nil h)) u) a

abbrev Text3 : List ℕ → Tables → List Field → Tables → Type 0
Text3 x = Lifted (Text canonical x)

abbrev Text0 : List ℕ → Tables0 → List Field → Tables0 → Type 0
Text0 x = Plain (Short x)

joined_same : (a b a' b' : List Field) (fs gs : List Field) → fs ≡ a ++ b → gs ≡ a' ++ b' → flat a ≡ flat a' → flat b ≡ flat b' → flat fs ≡ flat gs
joined_same a b a' b' fs gs e f p q = ap flat e ∙ flat-append a b ∙ ap (λ z. z ++ flat b) p ∙ ap (λ z. flat a' ++ z) q ∙ sym (flat-append a' b') ∙ sym (ap flat f)

module _ (g : Graph) where
  one_text3 : (x : List ℕ) (t u w : Tables) (fs gs : List Field) → Text3 x t fs u → Text3 x t gs w → (flat fs ≡ flat gs) × (u ≡ w)
  one_text3 x t u w fs gs (k, z, e) (l, y, f) =
      let o = text_fixed x t.words k l (flat fs) (flat gs) (bytes_text x t.words fs k z) (bytes_text x t.words gs l y) in
      (o.0, e ∙ ap (λ m. with_words t m) o.1 ∙ sym f)

  one_pairs3 : (ps : List (List ℕ × Value)) (t u w : Tables) (fs gs : List Field) → Proper g t → PairsBy Text3 (Spells3 canonical g) ps t fs u → PairsBy Text3 (Spells3 canonical g) ps t gs w → (flat fs ≡ flat gs) × (u ≡ w)
  one_pairs3 [] t u w fs gs p x y = (ap flat (x.0 ∙ sym y.0), x.1 ∙ sym y.1)
  one_pairs3 (q ∷ ps) t u w fs gs p x y =
      let named = one_text3 q.0 t x.mid y.mid x.front y.front x.first y.first in
      let begun = stays_same g t x.mid (ap (λ (k : Tables). k.nodes) x.first.2) (ap (λ (k : Tables). k.done) x.first.2) in
      let p1 = begun.proper p in
      let a = x.second in
      let b = y.second in
      let other : Spells3 canonical g q.1 x.mid b.front b.mid = subst (λ k. Spells3 canonical g q.1 k b.front b.mid) (sym named.1) b.first in
      let left = to_spells a.first.0 canonical g q.1 x.mid a.front a.mid a.first.1 in
      let valued = fixed_spells g a.first.0 other.0 q.1 x.mid (flat a.front) (flat b.front) a.mid b.mid p1 left (to_spells other.0 canonical g q.1 x.mid b.front b.mid other.1) in
      let kept = keeps_spells g canonical a.first.0 q.1 x.mid (flat a.front) a.mid left in
      let c = a.second in
      let d = b.second in
      let rest : PairsBy Text3 (Spells3 canonical g) ps a.mid c.back u = subst (λ k. PairsBy Text3 (Spells3 canonical g) ps k c.back u) c.first.1 c.second in
      let more : PairsBy Text3 (Spells3 canonical g) ps a.mid d.back w = subst (λ k. PairsBy Text3 (Spells3 canonical g) ps k d.back w) (d.first.1 ∙ sym valued.1) d.second in
      let o = one_pairs3 ps a.mid u w c.back d.back (kept.proper p1) rest more in (
        joined_same x.front x.back y.front y.back fs gs x.joined y.joined named.0
            (joined_same a.front a.back b.front b.back x.back y.back a.joined b.joined valued.0
            (joined_same c.front c.back d.front d.back a.back b.back c.joined d.joined (ap flat (c.first.0 ∙ sym d.first.0)) o.0)),
        o.1,
      )

  one_pairs0 : (ps : List (List ℕ × Value)) (t u w : Tables0) (fs gs : List Field) → kept0.Proper g t → PairsBy Text0 (Spells0 canonical g) ps t fs u → PairsBy Text0 (Spells0 canonical g) ps t gs w → (flat fs ≡ flat gs) × (u ≡ w)
  one_pairs0 [] t u w fs gs p x y = (ap flat (x.0 ∙ sym y.0), x.1 ∙ sym y.1)
  one_pairs0 (q ∷ ps) t u w fs gs p x y =
      let named : x.front ≡ y.front = x.first.0.2 ∙ sym y.first.0.2 in
      let a = x.second in
      let b = y.second in
      let left : Spells0 canonical g q.1 t a.front a.mid = subst (λ k. Spells0 canonical g q.1 k a.front a.mid) x.first.1 a.first in
      let right : Spells0 canonical g q.1 t b.front b.mid = subst (λ k. Spells0 canonical g q.1 k b.front b.mid) y.first.1 b.first in
      let valued = fixed0.fixed_spells g q.1 t a.front b.front a.mid b.mid p left right in
      let kept = kept0.keeps_values_in g canonical left.0 false q.1 t a.front a.mid left.1 in
      let c = a.second in
      let d = b.second in
      let rest : PairsBy Text0 (Spells0 canonical g) ps a.mid c.back u = subst (λ k. PairsBy Text0 (Spells0 canonical g) ps k c.back u) c.first.1 c.second in
      let more : PairsBy Text0 (Spells0 canonical g) ps a.mid d.back w = subst (λ k. PairsBy Text0 (Spells0 canonical g) ps k d.back w) (d.first.1 ∙ sym valued.1) d.second in
      let o = one_pairs0 ps a.mid u w c.back d.back (kept.proper p) rest more in (
        joined_same x.front x.back y.front y.back fs gs x.joined y.joined (ap flat named)
            (joined_same a.front a.back b.front b.back x.back y.back a.joined b.joined (ap flat valued.0)
            (joined_same c.front c.back d.front d.back a.back b.back c.joined d.joined (ap flat (c.first.0 ∙ sym d.first.0)) o.0)),
        o.1,
      )

  proper3 : (h : ℕ) → h < length g.nodes → Proper g (file_tables h)
  proper3 h l = record {
    once = λ j k i e f. one j k i e f;
    places = λ j k i e f. absurd (no_entry j i e);
    listed = λ k i e. absurd (no_entry k i e);
    within = λ k i e. subst (λ n. n < length g.nodes) (at_one k i e).1 l;
  }
    where
      at_one : (k i : ℕ) → slice_get (h ∷ []) k ≡ Some i → (k ≡ 0) × (h ≡ i)
      at_one zero i e = (refl, same_Some h i e)
      at_one (suc k) i e = absurd (no_entry k i e)

      one : (j k i : ℕ) → slice_get (h ∷ []) j ≡ Some i → slice_get (h ∷ []) k ≡ Some i → j ≡ k
      one j k i e f = (at_one j i e).0 ∙ sym (at_one k i f).0

  one_holder3 : (fs gs : List Field) → HasHolder g → PairsOf canonical Amf3 g fs → PairsOf canonical Amf3 g gs → flat fs ≡ flat gs
  one_holder3 fs gs (h, holder) p q =
      let ps = by_name (node_at g h).names in
      let same = one_holder g h p.holder holder p.is_holder in
      let other = one_holder g h q.holder holder q.is_holder in
      let p1 : p.pairs ≡ ps = p.in_order ∙ ap (λ i. by_name (node_at g i).names) (sym same) in
      let q1 : q.pairs ≡ ps = q.in_order ∙ ap (λ i. by_name (node_at g i).names) (sym other) in
      let x : PairsBy Text3 (Spells3 canonical g) ps (file_tables h) fs p.spelled.0 = subst (λ i. PairsBy Text3 (Spells3 canonical g) ps (file_tables i) fs p.spelled.0) (sym same) (subst (λ w. PairsBy Text3 (Spells3 canonical g) w (file_tables p.holder) fs p.spelled.0) p1 p.spelled.1) in
      let y : PairsBy Text3 (Spells3 canonical g) ps (file_tables h) gs q.spelled.0 = subst (λ i. PairsBy Text3 (Spells3 canonical g) ps (file_tables i) gs q.spelled.0) (sym other) (subst (λ w. PairsBy Text3 (Spells3 canonical g) w (file_tables q.holder) gs q.spelled.0) q1 q.spelled.1) in
      (one_pairs3 ps (file_tables h) p.spelled.0 q.spelled.0 fs gs (proper3 h holder.pairs.there) x y).0

  one_holder0 : (fs gs : List Field) → HasHolder g → PairsOf canonical Amf0 g fs → PairsOf canonical Amf0 g gs → flat fs ≡ flat gs
  one_holder0 fs gs (h, holder) p q =
      let ps = by_name (node_at g h).names in
      let same = one_holder g h p.holder holder p.is_holder in
      let other = one_holder g h q.holder holder q.is_holder in
      let p1 : p.pairs ≡ ps = p.in_order ∙ ap (λ i. by_name (node_at g i).names) (sym same) in
      let q1 : q.pairs ≡ ps = q.in_order ∙ ap (λ i. by_name (node_at g i).names) (sym other) in
      let x : PairsBy Text0 (Spells0 canonical g) ps (file_tables0 h) fs p.spelled.0 = subst (λ i. PairsBy Text0 (Spells0 canonical g) ps (file_tables0 i) fs p.spelled.0) (sym same) (subst (λ w. PairsBy Text0 (Spells0 canonical g) w (file_tables0 p.holder) fs p.spelled.0) p1 p.spelled.1) in
      let y : PairsBy Text0 (Spells0 canonical g) ps (file_tables0 h) gs q.spelled.0 = subst (λ i. PairsBy Text0 (Spells0 canonical g) ps (file_tables0 i) gs q.spelled.0) (sym other) (subst (λ w. PairsBy Text0 (Spells0 canonical g) w (file_tables0 q.holder) gs q.spelled.0) q1 q.spelled.1) in
      let proper = (kept0.stays_done g no_tables0 h holder.pairs.there (λ k e. no_entry k h e)).proper (kept0.proper_none g) in
      (one_pairs0 ps (file_tables0 h) p.spelled.0 q.spelled.0 fs gs proper x y).0

-- The file.

one_held : (version : SolVersion) (g : Graph) (fs gs : List Field) → HasHolder g → HolderBy canonical version g fs → HolderBy canonical version g gs → flat fs ≡ flat gs
one_held Amf3 g fs gs h p q = one_holder3 g fs gs h p q
one_held Amf0 g fs gs h (k, low, is, p) (l, other, lowered, q) =
    let same : other ≡ low = one_lowering g other low lowered is in
    one_holder0 low fs gs (lowered_holder g low is h) p (subst (λ z. PairsOf canonical Amf0 z gs) same q)

one_rest : (o : Object) (fs gs : List Field) → HasHolder o.holder → AfterLength canonical o fs → AfterLength canonical o gs → flat fs ≡ flat gs
one_rest o fs gs h a b =
    let named : a.name ≡ b.name = a.named.2 ∙ sym b.named.2 in
    let held = one_held o.version o.holder a.pairs b.pairs h a.held b.held in
    joined_same (second_signature ∷ a.name) (padding ∷ version_field o.version ∷ a.pairs) (second_signature ∷ b.name) (padding ∷ version_field o.version ∷ b.pairs) fs gs a.fields b.fields
    (ap (λ z. flat (second_signature ∷ z)) named) (ap (λ z. padding.bytes ++ ((version_field o.version).bytes ++ z)) held)

one_file : (o : Object) (fs gs : List Field) → HasHolder o.holder → SpellsFile canonical o fs → SpellsFile canonical o gs → flat fs ≡ flat gs
one_file o fs gs h a b =
    let rest = one_rest o a.rest b.rest h a.behind b.behind in
    let size : a.size ≡ b.size = a.right ∙ ap length rest ∙ sym b.right in
    ap flat a.fields ∙ ap (λ n. 0x00 ∷ 0xBF ∷ (to_be_bytes w32 n ++ flat a.rest)) size ∙ ap (λ z. 0x00 ∷ 0xBF ∷ (to_be_bytes w32 b.size ++ z)) rest ∙ sym (ap flat b.fields)

not_both : (o : Object) (fs : List Field) → HasHolder o.holder → SpellsFile canonical o fs → (number : ℕ) (kind : LackKind) → IsFileLack o number kind → ⊥
not_both o fs h s number kind (in_holder l) = holder_lacks_nothing o.version o.holder s.behind.pairs h s.behind.held number kind l
not_both o fs h s number kind (too_long e f rest behind long none) =
    let same = ap length (one_rest o rest s.rest h behind s.behind) in
    omega (arith, same, long, s.right, s.in_bits)

-- The first lack.

same_rank : (k l : LackKind) → rank k ≡ rank l → k ≡ l
same_rank EmptyName EmptyName e = refl
same_rank NoForm NoForm e = refl
same_rank LongName LongName e = refl
same_rank Shared Shared e = refl
same_rank FarReference FarReference e = refl
same_rank LongFile LongFile e = refl
same_rank _ _ e = absurd (omega (arith, e))

one_first : (L : ℕ → LackKind → Type 0) (m n : ℕ) (k l : LackKind) → IsFirstLack L m k → IsFirstLack L n l → (m ≡ n) × (k ≡ l)
one_first L m n k l x y =
    let a = x.least n l y.lacks in
    let b = y.least m k x.lacks in
    let e : m ≡ n = omega (arith, a, b) in
    let c = x.first l (subst (λ w. L w l) (sym e) y.lacks) in
    let d = y.first k (subst (λ w. L w k) e x.lacks) in
    (e, same_rank k l (omega (arith, c, d)))

one_in_holder : (version : SolVersion) (g : Graph) (m n : ℕ) (k l : LackKind) → IsHolderLack version g m k → IsHolderLack version g n l → (m ≡ n) × (k ≡ l)
one_in_holder Amf3 g m n k l (order, o, x) (other, p, y) =
    let same : other ≡ order = walks_fixed p o in
    one_first (Unless0 (Lacks3 g order)) m n k l x (subst (λ z. IsFirstLack (Unless0 (Lacks3 g z)) n l) same y)
one_in_holder Amf0 g m n k l (low, is, order, o, x) (other, lowered, more, p, y) =
    let alone : other ≡ low = one_lowering g other low lowered is in
    let q : IsOrder low more = subst (λ z. IsOrder z more) alone p in
    let same : more ≡ order = walks_fixed q o in
    one_first (Lacks0 low 1 order) m n k l x (subst (λ z. IsFirstLack (Lacks0 low 1 z) n l) same (subst (λ z. IsFirstLack (Lacks0 z 1 more) n l) alone y))

one_lack : (o : Object) (m n : ℕ) (k l : LackKind) → IsFileLack o m k → IsFileLack o n l → (m ≡ n) × (k ≡ l)
one_lack o m n k l (in_holder x) (in_holder y) = one_in_holder o.version o.holder m n k l x y
one_lack o m n k l (in_holder x) (too_long e f rest behind long none) = absurd (none m k x)
one_lack o m n k l (too_long e f rest behind long none) (in_holder y) = absurd (none n l y)
one_lack o m n k l (too_long e f rest behind long none) (too_long e' f' rest' behind' long' none') = (e ∙ sym e', f ∙ sym f')

pub files_or_lacks : FilesOrLacks
files_or_lacks = λ o h. record {
  one_file = λ fs gs a b. one_file o fs gs h a b;
  not_both = λ fs a number kind l. not_both o fs h a number kind l;
  one_lack = λ m n k l a b. one_lack o m n k l a b;
}
