-- The lack of a shared object: none where it is spelled, that of its lowering, and the same for the same shared objects.
use Rattle.std.proofs.Common.{◌≡◌, ℕ, ◌<◌, List, length, sym, refl, ap, subst, arith}
use Rattle.amf_wire.specs.Style.{canonical}
use Rattle.amf_graph.specs.declared.lack.LackKind.{LackKind}
use Rattle.amf_graph.specs.declared.lack.LackKind.TheVariants.{EmptyName, NoForm, LongName, Shared as SharedNode, FarReference, LongFile}
use Rattle.amf_graph.specs.Graph.{Graph}
use Rattle.amf_graph.specs.Isomorphic.{Isomorphic}
use Rattle.amf_graph.specs.Lacks.{IsFirstLack}
use Rattle.amf_graph.specs.Order.{first, IsOrder}
use Rattle.amf_graph.proofs.Isomorphisms.{isomorphic_sym}
use Rattle.amf_graph.proofs.Places.{order_along}
use Rattle.amf3_spelling.specs.Lacks3.{Lacks3}
use Rattle.amf3_spelling.proofs.LacksAlike.{lack_is, lacks_along}
use Rattle.amf0_spelling.specs.Lacks0.{Lacks0}
use Rattle.amf0_spelling.proofs.LacksAlike0.{lacks_along0}
use Rattle.amf0_spelling.proofs.LowLaws.{one_lowering}
use Rattle.amf_sol.specs.declared.sol_version.SolVersion.{SolVersion}
use Rattle.amf_sol.specs.declared.sol_version.SolVersion.TheVariants.{Amf0, Amf3}
use Rattle.amf_sol.specs.FileLacks.{Unless0, IsHolderLack, IsFileLack, in_holder, too_long}
use Rattle.amf_sol.specs.SharedObject.{Shared, PairsOf, SpelledFile}
use Rattle.amf_sol.proofs.OneFile.{files_or_lacks}
use Rattle.amf_sol.proofs.Unheld.{has_holder}
use Rattle.amf_listings.specs.SameFile.{SameFile, IsFittedHolder, IsLoweredFile}
use Rattle.amf_listings.proofs.CanonicalFiles.{holder, pairs_free, held_pairs, pairs_held, behind_turned, pairs_turn}

unless_is : (L : ℕ → LackKind → Type 0) (n : ℕ) (k : LackKind) → ((m : ℕ) (l : LackKind) → L m l → l ≡ EmptyName) → Unless0 L n k → (0 < n) × L n k
unless_is L n EmptyName only u = u
unless_is L n NoForm only u = absurd (let e = only n NoForm u in cc)
unless_is L n LongName only u = absurd (let e = only n LongName u in cc)
unless_is L n SharedNode only u = absurd (let e = only n SharedNode u in cc)
unless_is L n FarReference only u = absurd (let e = only n FarReference u in cc)
unless_is L n LongFile only u = absurd (let e = only n LongFile u in cc)

unless_of : (L : ℕ → LackKind → Type 0) (n : ℕ) (k : LackKind) → 0 < n → L n k → Unless0 L n k
unless_of L n EmptyName l x = (l, x)
unless_of L n NoForm l x = x
unless_of L n LongName l x = x
unless_of L n SharedNode l x = x
unless_of L n FarReference l x = x
unless_of L n LongFile l x = x

only_empty : (g : Graph) (order : List ℕ) (n : ℕ) (k : LackKind) → Lacks3 g order n k → k ≡ EmptyName
only_empty g order n k (i, e, l) = (lack_is g i k l).0

-- what is spelled lacks nothing
pub not_both : (o : Shared) (b : List ℕ) (number : ℕ) (kind : LackKind) → SpelledFile canonical o b → IsFileLack o number kind → ⊥
not_both o b n k (fs, x, e) l = let law = files_or_lacks o (holder o b (fs, x, e)) in law.not_both fs x n k l

-- Where the reasons are the same, so is the first.

first_over : (L M : ℕ → LackKind → Type 0) → ((n : ℕ) (k : LackKind) → L n k → M n k) → ((n : ℕ) (k : LackKind) → M n k → L n k) → (n : ℕ) (k : LackKind) → IsFirstLack L n k → IsFirstLack M n k
first_over L M to back n k f = record { lacks = to n k f.lacks; least = λ m l x. f.least m l (back m l x); first = λ l x. f.first l (back n l x) }

unless_along : (g h : Graph) (xs ys : List ℕ) → IsOrder g xs → IsOrder h ys → Isomorphic g h → (n : ℕ) (kind : LackKind) → Unless0 (Lacks3 g xs) n kind → Unless0 (Lacks3 h ys) n kind
unless_along g h xs ys a b i n kind u = let x = unless_is (Lacks3 g xs) n kind (only_empty g xs) u in unless_of (Lacks3 h ys) n kind x.0 (lacks_along g h xs ys a b i n kind x.1)

-- what a holder lacks, each that is the same but for its numbers lacks
held_along : (version : SolVersion) (g h : Graph) → Isomorphic g h → IsFittedHolder version g g → IsFittedHolder version h h → (n : ℕ) (k : LackKind) → IsHolderLack version g n k → IsHolderLack version h n k
held_along Amf3 g h i a b n k (order, o, l) =
    let s = order_along g h order o i in
    (s.0, s.1, first_over (Unless0 (Lacks3 g order)) (Unless0 (Lacks3 h s.0)) (unless_along g h order s.0 o s.1 i) (unless_along h g s.0 order s.1 o (isomorphic_sym g h i)) n k l)
held_along Amf0 g h i a b n k (y, low, order, o, l) =
    let same : y ≡ g = one_lowering g y g low a in
    let here : IsOrder g order = subst (λ (w : Graph). IsOrder w order) same o in
    let lacks : IsFirstLack (Lacks0 g 1 order) n k = subst (λ (w : Graph). IsFirstLack (Lacks0 w 1 order) n k) same l in
    let s = order_along g h order here i in
    (h, b, s.0, s.1, first_over (Lacks0 g 1 order) (Lacks0 h 1 s.0) (lacks_along0 g h order s.0 here s.1 i 1) (lacks_along0 h g s.0 order s.1 here (isomorphic_sym g h i) 1) n k lacks)

-- a holder and its lowering lack the same
held_low : (version : SolVersion) (g y : Graph) → IsFittedHolder version g y → IsFittedHolder version y y → (n : ℕ) (k : LackKind) → IsHolderLack version g n k → IsHolderLack version y n k
held_low Amf3 g y is still n k l = subst (λ (w : Graph). IsHolderLack Amf3 w n k) (sym is) l
held_low Amf0 g y is still n k (h, low, order, o, l) =
    let same : h ≡ y = one_lowering g h y low is in
    (y, still, order, subst (λ (w : Graph). IsOrder w order) same o, subst (λ (w : Graph). IsFirstLack (Lacks0 w 1 order) n k) same l)

held_up : (version : SolVersion) (g y : Graph) → IsFittedHolder version g y → IsFittedHolder version y y → (n : ℕ) (k : LackKind) → IsHolderLack version y n k → IsHolderLack version g n k
held_up Amf3 g y is still n k l = subst (λ (w : Graph). IsHolderLack Amf3 w n k) is l
held_up Amf0 g y is still n k (h, low, order, o, l) =
    let same : h ≡ y = one_lowering y h y low still in
    (y, is, order, subst (λ (w : Graph). IsOrder w order) same o, subst (λ (w : Graph). IsFirstLack (Lacks0 w 1 order) n k) same l)

pub lowered_lack : (o low : Shared) → IsLoweredFile o low → IsLoweredFile low low → (number : ℕ) (kind : LackKind) → IsFileLack o number kind → IsFileLack low number kind
lowered_lack o low m still n k lacks = by lacks
  where
    fits : IsFittedHolder o.version low.holder low.holder
    fits = subst (λ v. IsFittedHolder v low.holder low.holder) (sym m.version) still.holder

    by : IsFileLack o n k → IsFileLack low n k
    by (in_holder l) = in_holder (subst (λ v. IsHolderLack v low.holder n k) m.version (held_low o.version o.holder low.holder m.holder fits n k l))
    by (too_long at is rest a long none) =
        let p = subst (λ v. PairsOf canonical v low.holder a.pairs) m.version (held_pairs o.version o.holder low.holder a.pairs m.holder a.held) in
        let has = has_holder low.version low.holder a.pairs (pairs_free low.version low.holder a.pairs p) in
        let t = behind_turned canonical canonical o low rest a m.name m.version a.pairs (pairs_held low.version low.holder low.holder a.pairs has still.holder p) refl in
        too_long at is t.0 t.1 (let e = ap length t.2 in omega (arith, e, long)) (λ j q x. none j q (held_up o.version o.holder low.holder m.holder fits j q (subst (λ v. IsHolderLack v low.holder j q) (sym m.version) x)))

pub lacks_alike : (low other : Shared) → SameFile low other → IsLoweredFile low low → IsLoweredFile other other → (number : ℕ) (kind : LackKind) → IsFileLack low number kind → IsFileLack other number kind
lacks_alike low other same still also n k lacks = by lacks
  where
    fits : IsFittedHolder low.version other.holder other.holder
    fits = subst (λ v. IsFittedHolder v other.holder other.holder) (sym same.version) also.holder

    by : IsFileLack low n k → IsFileLack other n k
    by (in_holder l) = in_holder (subst (λ v. IsHolderLack v other.holder n k) same.version (held_along low.version low.holder other.holder same.holder still.holder fits n k l))
    by (too_long at is rest a long none) =
        let t = pairs_turn low.holder other.holder same.holder low.version a.pairs (held_pairs low.version low.holder low.holder a.pairs still.holder a.held) in
        let p = subst (λ v. PairsOf canonical v other.holder t.0) same.version t.1 in
        let has = has_holder other.version other.holder t.0 (pairs_free other.version other.holder t.0 p) in
        let r = behind_turned canonical canonical low other rest a same.name same.version t.0 (pairs_held other.version other.holder other.holder t.0 has also.holder p) t.2 in
        too_long at is r.0 r.1 (let e = ap length r.2 in omega (arith, e, long))
        (λ j q x. none j q (held_along low.version other.holder low.holder (isomorphic_sym low.holder other.holder same.holder) fits still.holder j q (subst (λ v. IsHolderLack v other.holder j q) (sym same.version) x)))
