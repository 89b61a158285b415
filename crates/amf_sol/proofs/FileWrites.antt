-- The parts of a file, in bytes behind others.
use Rattle.std.proofs.Common.{◌≡◌, Result, Ok, Err, IsErrAnd, IsErrOf, ℕ, ◌<◌, ◌≤◌, ◌^◌, List, [], ◌∷◌, ◌++◌, length, refl, sym, ap, ◌∙◌, subst, arith, append_assoc}
use Rattle.std.specs.Int.{to_be_bytes, w16, w32}
use Rattle.amf_io.specs.Field.{Field, flat}
use Rattle.amf_io.proofs.Paths.{flat-append}
use Rattle.amf_wire.specs.Style.{canonical}
use Rattle.amf_wire.specs.Text.{IsText}
use Rattle.amf_graph.specs.declared.lack.Lack.{Lack}
use Rattle.amf_graph.specs.declared.lack.LackKind.{LackKind}
use Rattle.amf_graph.specs.declared.lack.LackKind.TheVariants.{LongFile}
use Rattle.amf_graph.specs.declared.write_end.WriteEnd.{WriteEnd}
use Rattle.amf_graph.specs.declared.write_end.WriteEnd.TheVariants.{NoSpelling}
use Rattle.amf_graph.specs.Graph.{Value, node, Graph, node_at}
use Rattle.amf_graph.specs.ByName.{by_name}
use Rattle.amf_graph.specs.Order.{IsOrder}
use Rattle.amf_graph.proofs.NameOrder.{by_name_again}
use Rattle.amf3_spelling.specs.Tables.{Tables}
use Rattle.amf3_spelling.specs.Then.{Then, Plain}
use Rattle.amf3_spelling.specs.Words3.{Text}
use Rattle.amf3_spelling.specs.Segments3.{Lifted}
use Rattle.amf3_spelling.specs.Spells3.{Spells3}
use Rattle.amf0_spelling.specs.Lacks0.{Lacks0}
use Rattle.amf0_spelling.specs.Lowered.{IsLoweringOf}
use Rattle.amf0_spelling.specs.Segments0.{Short}
use Rattle.amf0_spelling.specs.Spells0.{Spells0}
use Rattle.amf0_spelling.specs.Tables0.{Tables0}
use Rattle.amf0_spelling.proofs.LowLaws.{one_lowering}
use Rattle.amf3_write.specs.Written.{AppendsPart, AppendsText}
use Rattle.amf0_write.specs.PartLacks0.{IsLackOutside}
use Rattle.amf0_write.specs.Written0.{tables0, AppendsPart0}
use Rattle.amf0_write.proofs.Closing0.{name_fields}
use Rattle.amf_sol.specs.declared.sol_version.SolVersion.{SolVersion}
use Rattle.amf_sol.specs.declared.sol_version.SolVersion.TheVariants.{Amf0, Amf3}
use Rattle.amf_sol.specs.SharedObject.{Shared, IsPairHolder, IsHolder, HasHolder, signature, length_field, second_signature, padding, version_number, version_field, pair_end, PairsBy, file_tables, file_tables0, PairsOf, HolderBy, AfterLength}
use Rattle.amf_sol.specs.FileLacks.{IsHolderLack, IsFileLack, too_long}
use Rattle.amf_sol.specs.FileParts.{Appends, AppendsBy, IsHead, Pair3, Pair0, file_bytes}
use Rattle.amf_sol.specs.WrittenFile.{AppendsFile}
use Rattle.amf_sol.proofs.HolderLacks0.{Written0, spelled_lacks_nothing0}
use Rattle.amf_sol.proofs.HolderLacks3.{Written3, spelled_lacks_nothing3}
use Rattle.amf_sol.proofs.LowHolders.{lowered_holder}
use Rattle.amf_sol.proofs.WrittenPairs.{then_appends}

-- an end that is handed on
pub handed_on : {T U : Type 0} (L : Lack → Type 0) (e : WriteEnd) (r : Result U WriteEnd) → IsErrAnd r (λ x. x ≡ e) → ((l : Lack) → IsErrOf {T = T} (Err e) (NoSpelling l) → L l) → (l : Lack) → IsErrOf r (NoSpelling l) → L l
handed_on L e (Ok u) h f l k = absurd h
handed_on L e (Err x) h f l k = let s : x ≡ NoSpelling l = cc in f l (ap (λ y. Err y) (sym h ∙ s))

-- The head.

pub name_written : (x a b c : List ℕ) → IsText x → length x < 2 ^ 16 → b ≡ a ++ to_be_bytes w16 (length x) → c ≡ b ++ x → Appends (Short x) a c
name_written x a b c t l e f =
    let o = name_fields x t l in
    let w = to_be_bytes w16 (length x) in
    (o.0, o.1, f ∙ ap (λ z. z ++ x) e ∙ append_assoc a w x ∙ ap (λ z. a ++ z) (sym o.2))

regroup : (a b c d e : List ℕ) → (((a ++ b) ++ c) ++ d) ++ e ≡ a ++ (b ++ (c ++ (d ++ e)))
regroup a b c d e = simp append_assoc

pub head_written : (name : List ℕ) (version : SolVersion) (a b c d e : List ℕ) → b ≡ a ++ second_signature.bytes → Appends (Short name) b c → d ≡ c ++ padding.bytes → e ≡ d ++ version_number version ∷ [] → Appends (IsHead name version) a e
head_written name version a b c d e p (ns, is, q) r s =
    let v = version_number version ∷ [] in (
      second_signature ∷ (ns ++ padding ∷ version_field version ∷ []),
      record { spelled = ns; is_name = is; fields = refl },
      s ∙ ap (λ z. z ++ v) (r ∙ ap (λ z. z ++ padding.bytes) (q ∙ ap (λ z. z ++ flat ns) p)) ∙ regroup a second_signature.bytes (flat ns) padding.bytes v
          ∙ ap (λ z. a ++ (second_signature.bytes ++ z)) (sym (flat-append ns (padding ∷ version_field version ∷ []))),
    )

pub rest_written : (o : Shared) (a b c : List ℕ) → Appends (IsHead o.name o.version) a b → Appends (HolderBy canonical o.version o.holder) b c → Appends (AfterLength canonical o) a c
rest_written o a b c (fs, head, e) (gs, held, f) = (
  fs ++ gs,
  record {
    name = head.spelled;
    pairs = gs;
    named = head.is_name;
    held = held;
    fields = ap (λ z. z ++ gs) head.fields ∙ ap (λ z. second_signature ∷ z) (append_assoc head.spelled (padding ∷ version_field o.version ∷ []) gs);
  },
  f ∙ ap (λ z. z ++ flat gs) e ∙ append_assoc a (flat fs) (flat gs) ∙ ap (λ z. a ++ z) (sym (flat-append fs gs)),
)

-- Pairs.

end_written : {S : Type 0} (t : S) (a b : List ℕ) → b ≡ a ++ 0 ∷ [] → AppendsBy (Plain (λ fs. fs ≡ pair_end ∷ [])) t t a b
end_written t a b e = (pair_end ∷ [], (refl, refl), e)

pub pair3_written : (g : Graph) (x : List ℕ) (v : Value) (t u t' : Tables) (a b c d : List ℕ) → AppendsText x t u a b → AppendsPart g v u t' b c → d ≡ c ++ 0 ∷ [] → AppendsBy (Pair3 g x v) t t' a d
pair3_written g x v t u t' a b c d p q e =
    then_appends (Lifted (Text canonical x)) (Then (Spells3 canonical g v) (Plain (λ fs. fs ≡ pair_end ∷ []))) t u t' a b d p
    (then_appends (Spells3 canonical g v) (Plain (λ fs. fs ≡ pair_end ∷ [])) u t' t' b c d q (end_written t' c d e))

pub pair0_written : (g : Graph) (x : List ℕ) (v : Value) (t t' : Tables0) (a b c d : List ℕ) → Appends (Short x) a b → AppendsPart0 g v t t' b c → d ≡ c ++ 0 ∷ [] → AppendsBy (Pair0 g x v) t t' a d
pair0_written g x v t t' a b c d (fs, p, f) q e =
    then_appends (Plain (Short x)) (Then (Spells0 canonical g v) (Plain (λ fs. fs ≡ pair_end ∷ []))) t t t' a b d (fs, (p, refl), f)
    (then_appends (Spells0 canonical g v) (Plain (λ fs. fs ≡ pair_end ∷ [])) t t' t' b c d q (end_written t' c d e))

-- a text leaves what was done
pub text_done : (x : List ℕ) (t u : Tables) (a b : List ℕ) → AppendsText x t u a b → u.done ≡ t.done
text_done x t u a b (fs, (w, z, e), f) = ap (λ (k : Tables). k.done) e

module _ (g : Graph) (h : ℕ) (holder : IsHolder g h) where
  pub holder_written3 : (t : Tables) (a b : List ℕ) → Written3 g h holder (by_name (node_at g h).names) t a b → Appends (PairsOf canonical Amf3 g) a b
  holder_written3 t a b (u, (fs, spelled, e), beside) =
      (fs, record { holder = h; is_holder = holder.pairs; pairs = by_name (node_at g h).names; same_names = by_name_again (node_at g h).names; in_order = refl; spelled = (u, spelled) }, e)

  pub holder_written0 : (t : Tables) (a b : List ℕ) → Written0 g h holder (by_name (node_at g h).names) [] t a b → Appends (PairsOf canonical Amf0 g) a b
  holder_written0 t a b w =
      let s = w.spelled in
      (s.0, record { holder = h; is_holder = holder.pairs; pairs = by_name (node_at g h).names; same_names = by_name_again (node_at g h).names; in_order = refl; spelled = (tables0 t, s.1) }, s.2)

-- what is written in AMF 0 is the lowered graph
pub lowered_written : (g low : Graph) (a b : List ℕ) → HasHolder g → IsLoweringOf g low → Appends (PairsOf canonical Amf0 low) a b → Appends (HolderBy canonical Amf0 g) a b
lowered_written g low a b h is (fs, p, e) = (fs, (h, low, is, p), e)

pub lowered_lack : (g low : Graph) (number : ℕ) (kind : LackKind) → IsLoweringOf g low → IsLackOutside low 1 number kind → IsHolderLack Amf0 g number kind
lowered_lack g low number kind is (order, o, f) = (low, is, order, o, f)

-- The whole file.

pub one_holder : (g : Graph) (h i : ℕ) → IsHolder g h → IsPairHolder g i → h ≡ i
one_holder g h i a b = let same : ◌≡◌ {A = Value} (node h) (node i) = sym a.pairs.root ∙ b.root in cc

pairs3_lack_nothing : (g : Graph) (fs : List Field) → HasHolder g → PairsOf canonical Amf3 g fs → (number : ℕ) (kind : LackKind) → IsHolderLack Amf3 g number kind → ⊥
pairs3_lack_nothing g fs (h, holder) p =
    let same = one_holder g h p.holder holder p.is_holder in
    let is : IsHolder g p.holder = subst (IsHolder g) same holder in
    let spelled = subst (λ ps. PairsBy (λ x. Lifted (Text canonical x)) (Spells3 canonical g) ps (file_tables p.holder) fs p.spelled.0) p.in_order p.spelled.1 in
    spelled_lacks_nothing3 g p.holder is fs p.spelled.0 spelled

pairs0_lack_nothing : (g : Graph) (fs : List Field) → HasHolder g → PairsOf canonical Amf0 g fs → (order : List ℕ) → IsOrder g order → (number : ℕ) (kind : LackKind) → Lacks0 g 1 order number kind → ⊥
pairs0_lack_nothing g fs (h, holder) p =
    let same = one_holder g h p.holder holder p.is_holder in
    let is : IsHolder g p.holder = subst (IsHolder g) same holder in
    let spelled = subst (λ ps. PairsBy (λ x. Plain (Short x)) (Spells0 canonical g) ps (file_tables0 p.holder) fs p.spelled.0) p.in_order p.spelled.1 in
    spelled_lacks_nothing0 g p.holder is fs p.spelled.0 spelled

-- a holder whose pairs are spelled lacks nothing
pub holder_lacks_nothing : (version : SolVersion) (g : Graph) (fs : List Field) → HasHolder g → HolderBy canonical version g fs → (number : ℕ) (kind : LackKind) → IsHolderLack version g number kind → ⊥
holder_lacks_nothing Amf3 g fs h p number kind l = pairs3_lack_nothing g fs h p number kind l
holder_lacks_nothing Amf0 g fs h (k, low, is, p) number kind (other, lowered, order, o, l) =
    let same : other ≡ low = one_lowering g other low lowered is in
    pairs0_lack_nothing low fs (lowered_holder g low is h) p order (subst (λ z. IsOrder z order) same o) number kind (subst (λ z. Lacks0 z 1 order number kind) same l.lacks)

pub long_file : (o : Shared) (rest : List ℕ) → HasHolder o.holder → Appends (AfterLength canonical o) [] rest → 2 ^ 32 ≤ length rest → IsFileLack o 0 LongFile
long_file o rest h (fs, behind, e) l =
    let same : length rest ≡ length (flat fs) = ap length e in
    too_long refl refl fs behind (omega (arith, same, l)) (λ n k z. holder_lacks_nothing o.version o.holder behind.pairs h behind.held n k z)

pub file_written : (o : Shared) (rest a b : List ℕ) → Appends (AfterLength canonical o) [] rest → length rest < 2 ^ 32 → b ≡ a ++ file_bytes rest → AppendsFile o a b
file_written o rest a b (fs, behind, e) l f = (
  signature ∷ length_field (length rest) ∷ fs,
  record { size = length rest; rest = fs; in_bits = l; right = ap length e; behind = behind; fields = refl },
  f ∙ ap (λ z. a ++ (0x00 ∷ 0xBF ∷ (to_be_bytes w32 (length rest) ++ z))) e,
)
