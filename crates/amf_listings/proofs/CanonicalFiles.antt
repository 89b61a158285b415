-- Canonical spellings of shared objects: there is one at most, it spells the lowering, and it is one of exactly the shared objects that are the same once they are lowered.
use Rattle.std.proofs.Common.{◌≡◌, ℕ, ◌<◌, List, [], ◌∷◌, ◌++◌, length, refl, sym, ap, ◌∙◌, subst}
use Rattle.std.specs.Int.{to_be_bytes, w32}
use Rattle.std.specs.List.{AllZip}
use Rattle.std.specs.Prelude.{◌↔◌}
use Rattle.amf_io.specs.Field.{Field, flat}
use Rattle.amf_wire.specs.Style.{Style, free, canonical, Only}
use Rattle.amf_graph.specs.ByName.{by_name}
use Rattle.amf_graph.specs.Graph.{Value, leaf, node, Graph, node_at}
use Rattle.amf_graph.specs.Isomorphic.{ValuesMatch, PairsMatch, StandIn, Isomorphic}
use Rattle.amf_graph.proofs.Isomorphisms.{isomorphic_sym}
use Rattle.amf_graph.proofs.Lists.{no_entry}
use Rattle.amf_graph.proofs.NameOrder.{by_name_again}
use Rattle.amf_graph.proofs.Places.{Along, along_push}
use Rattle.amf3_spelling.specs.Segments3.{Lifted}
use Rattle.amf3_spelling.specs.Spells3.{Spells3}
use Rattle.amf3_spelling.specs.Tables.{Tables, with_words}
use Rattle.amf3_spelling.specs.Then.{Plain}
use Rattle.amf3_spelling.specs.Words3.{Text}
use Rattle.amf3_spelling.proofs.BytesOf.{to_spells}
use Rattle.amf3_spelling.proofs.FieldsOf.{from_spells}
use Rattle.amf3_spelling.proofs.Forget.{forget3}
use Rattle.amf0_spelling.specs.Segments0.{Short}
use Rattle.amf0_spelling.specs.Spells0.{Spells0}
use Rattle.amf0_spelling.specs.Tables0.{Tables0}
use Rattle.amf0_spelling.proofs.Forget0.{forget0}
use Rattle.amf0_spelling.proofs.Low.{lowered_alike as low_alike}
use Rattle.amf0_spelling.proofs.LowLaws.{one_lowering}
use Rattle.amf_sol.specs.declared.sol_version.SolVersion.{SolVersion}
use Rattle.amf_sol.specs.declared.sol_version.SolVersion.TheVariants.{Amf0, Amf3}
use Rattle.amf_sol.specs.SharedObject.{Shared, IsPairHolder, HasHolder, signature, length_field, second_signature, padding, version_number, version_field, file_tables, file_tables0, MembersBy, PairsOf, HolderBy, AfterLength, SpelledFile}
use Rattle.amf_sol.proofs.OneFile.{files_or_lacks}
use Rattle.amf_sol.proofs.Unheld.{has_holder}
use Rattle.amf_listings.specs.SameFile.{SameFile, IsFittedHolder, IsLoweredFile, IsAlikeFile}
use Rattle.amf3_spelling.proofs.Carried3.{Joined, carried_spells}
use Rattle.amf0_spelling.proofs.Carried0.{Joined as Joined0, carried_spells0}
use Rattle.amf_listings.proofs.Members.{pairs_imply, pairs_carried}
use Rattle.amf_listings.proofs.FileParts.{forget_name}
use Rattle.amf_listings.proofs.SameFileBytes.{rest_flat, same_bytes}

-- What is asked of a canonical spelling alone is forgotten.

members_free : (version : SolVersion) (g : Graph) (holder : ℕ) (ps : List (List ℕ × Value)) (fs : List Field) → MembersBy canonical version g holder ps fs → MembersBy free version g holder ps fs
members_free Amf3 g holder ps fs (t, z) = (t, pairs_imply (λ x. Lifted (Text canonical x)) (λ x. Lifted (Text free x)) (Spells3 canonical g) (Spells3 free g) (forget_name canonical) (forget3 canonical g) ps (file_tables holder) fs t z)
members_free Amf0 g holder ps fs (t, z) = (t, pairs_imply (λ x. Plain (Short x)) (λ x. Plain (Short x)) (Spells0 canonical g) (Spells0 free g) (λ x u gs u' y. y) (forget0 canonical g) ps (file_tables0 holder) fs t z)

pub pairs_free : (version : SolVersion) (g : Graph) (fs : List Field) → PairsOf canonical version g fs → PairsOf free version g fs
pairs_free version g fs p = record { holder = p.holder; is_holder = p.is_holder; pairs = p.pairs; same_names = p.same_names; in_order = tt; spelled = members_free version g p.holder p.pairs fs p.spelled }

-- the pairs of the lowering
pub held_pairs : (version : SolVersion) (g y : Graph) (fs : List Field) → IsFittedHolder version g y → HolderBy canonical version g fs → PairsOf canonical version y fs
held_pairs Amf3 g y fs is p = subst (λ (w : Graph). PairsOf canonical Amf3 w fs) (sym is) p
held_pairs Amf0 g y fs is (has, h, low, p) = subst (λ (w : Graph). PairsOf canonical Amf0 w fs) (one_lowering g h y low is) p

-- a holder whose lowering has these pairs
pub pairs_held : (version : SolVersion) (g y : Graph) (fs : List Field) → HasHolder g → IsFittedHolder version g y → PairsOf canonical version y fs → HolderBy canonical version g fs
pairs_held Amf3 g y fs has is p = subst (λ (w : Graph). PairsOf canonical Amf3 w fs) is p
pairs_held Amf0 g y fs has is p = (has, y, is, p)

has_held : (version : SolVersion) (g : Graph) (fs : List Field) → HolderBy canonical version g fs → HasHolder g
has_held Amf3 g fs p = has_holder Amf3 g fs (pairs_free Amf3 g fs p)
has_held Amf0 g fs (has, h, low, p) = has

low_held : (version : SolVersion) (g : Graph) (fs : List Field) → HolderBy canonical version g fs → (y : Graph) × IsFittedHolder version g y
low_held Amf3 g fs p = (g, refl)
low_held Amf0 g fs (has, h, low, p) = (h, low)

pub holder : (o : Shared) (b : List ℕ) → SpelledFile canonical o b → HasHolder o.holder
holder o b (fs, x, e) = has_held o.version o.holder x.behind.pairs x.behind.held

has_low : (o : Shared) (b : List ℕ) → SpelledFile canonical o b → (low : Shared) × IsLoweredFile o low
has_low o b (fs, x, e) =
    let y = low_held o.version o.holder x.behind.pairs x.behind.held in
    (record { name = o.name; version = o.version; holder = y.0 }, record { name = refl; version = refl; holder = y.1 })

-- A file of other pairs with the same bytes.

abbrev behind_by : (s z : Style) (o k : Shared) (fs : List Field) (a : AfterLength s o fs) → o.name ≡ k.name → (ps : List Field) → HolderBy z k.version k.holder ps → AfterLength z k (second_signature ∷ a.name ++ padding ∷ version_field k.version ∷ ps)
behind_by s z o k fs a e ps h = record { name = a.name; pairs = ps; named = subst (λ x. Short x a.name) e a.named; held = h; fields = refl }

pub behind_bytes : (s z : Style) (o k : Shared) (fs gs : List Field) (a : AfterLength s o fs) (b : AfterLength z k gs) → o.version ≡ k.version → flat b.name ≡ flat a.name → flat b.pairs ≡ flat a.pairs → flat gs ≡ flat fs
behind_bytes s z o k fs gs a b e d c =
    rest_flat z k gs b
    ∙ ap (λ l. second_signature.bytes ++ (l ++ (padding.bytes ++ (version_number k.version ∷ flat b.pairs)))) d
    ∙ ap (λ v. second_signature.bytes ++ (flat a.name ++ (padding.bytes ++ (version_number v ∷ flat b.pairs)))) (sym e)
    ∙ ap (λ l. second_signature.bytes ++ (flat a.name ++ (padding.bytes ++ (version_number o.version ∷ l)))) c
    ∙ sym (rest_flat s o fs a)

-- what stands behind the length, with pairs of the same bytes
pub behind_turned : (s z : Style) (o k : Shared) (fs : List Field) (a : AfterLength s o fs) → o.name ≡ k.name → o.version ≡ k.version → (ps : List Field) → HolderBy z k.version k.holder ps → flat ps ≡ flat a.pairs → (gs : List Field) × AfterLength z k gs × (flat gs ≡ flat fs)
behind_turned s z o k fs a e d ps h c =
    let b = behind_by s z o k fs a e ps h in
    (_, b, behind_bytes s z o k fs _ a b d refl c)

still_right : (z : Style) (n : ℕ) (fs gs : List Field) → Only canonical (n ≡ length (flat fs)) → flat gs ≡ flat fs → Only z (n ≡ length (flat gs))
still_right free n fs gs r e = tt
still_right canonical n fs gs r e = r ∙ ap length (sym e)

turned : (z : Style) (o k : Shared) (b : List ℕ) (s : SpelledFile canonical o b) → o.name ≡ k.name → o.version ≡ k.version → (ps : List Field) → HolderBy z k.version k.holder ps → flat ps ≡ flat s.1.behind.pairs → SpelledFile z k b
turned z o k b (fs, x, e) same also ps h c =
    let t = behind_turned canonical z o k x.rest x.behind same also ps h c in (
      signature ∷ length_field x.size ∷ t.0,
      record { size = x.size; rest = t.0; in_bits = x.in_bits; right = still_right z x.size x.rest t.0 x.right t.2; behind = t.1; fields = refl },
      e ∙ ap flat x.fields ∙ ap (λ l. signature.bytes ++ (to_be_bytes w32 x.size ++ l)) (sym t.2),
    )

-- canonical bytes spell the lowering
pub forget : (o low : Shared) (b : List ℕ) → SpelledFile canonical o b → IsLoweredFile o low → SpelledFile free low b
forget o low b s m =
    let x = s.1.behind in
    let p = pairs_free o.version low.holder x.pairs (held_pairs o.version o.holder low.holder x.pairs m.holder x.held) in
    turned free o low b s m.name m.version x.pairs (subst (λ v. PairsOf free v low.holder x.pairs) m.version p) refl

pub lowered_spelling : (o low : Shared) (b : List ℕ) → IsLoweredFile o low → IsLoweredFile low low → SpelledFile canonical o b → SpelledFile canonical low b
lowered_spelling o low b m again s =
    let x = s.1.behind in
    let p = subst (λ v. PairsOf canonical v low.holder x.pairs) m.version (held_pairs o.version o.holder low.holder x.pairs m.holder x.held) in
    let has = has_holder low.version low.holder x.pairs (pairs_free low.version low.holder x.pairs p) in
    turned canonical o low b s m.name m.version x.pairs (pairs_held low.version low.holder low.holder x.pairs has again.holder p) refl

-- There is one canonical spelling.

pub alone : (o : Shared) (b c : List ℕ) → SpelledFile canonical o b → SpelledFile canonical o c → b ≡ c
alone o b c (fs, x, e) (gs, y, d) = let l = files_or_lacks o (holder o b (fs, x, e)) in e ∙ l.one_file fs gs x y ∙ sym d

-- It is carried to each graph that is the same but for its numbers.

root_at : (P : ℕ → ℕ → Type 0) (a : ℕ) (w : Value) → ValuesMatch P (node a) w → (b : ℕ) × (w ≡ node b) × P a b
root_at P a (leaf x) m = absurd m
root_at P a (node b) m = (b, refl, m)

none_zip : (P : ℕ → ℕ → Type 0) (vs ws : List Value) → vs ≡ [] → AllZip (ValuesMatch P) vs ws → ws ≡ []
none_zip P [] [] e m = refl
none_zip P [] (w ∷ ws) e m = absurd m
none_zip P (v ∷ vs) ws e m = cc

module _ (g h : Graph) (i : Isomorphic g h) where
  abbrev P : ℕ → ℕ → Type 0
  P = StandIn i.pairs

  there : (j k : ℕ) → P j k → k < length h.nodes
  there j k m = (i.within j k m).1

  abbrev J3 : Tables → Tables → Type 0
  J3 = Joined g h P i.left i.right there i.nodes

  abbrev J0 : Tables0 → Tables0 → Type 0
  J0 = Joined0 g h P i.left i.right there i.nodes

  no_nodes : Along P [] []
  no_nodes = record { size = refl; pairs = λ k j l e f. absurd (no_entry k j e) }

  name_carried : (x : List ℕ) (t u : Tables) (fs : List Field) (t' : Tables) → J3 t u → Lifted (Text canonical x) t fs t' → (gs : List Field) × (u' : Tables) × Lifted (Text canonical x) u gs u' × (flat gs ≡ flat fs) × J3 t' u'
  name_carried x t u fs t' j (w, z, e) =
      let both : J3 (with_words t w) (with_words u w) = record { words = refl; nodes_along = j.nodes_along; done_along = j.done_along } in
      (fs, with_words u w, (w, subst (λ l. Text canonical x l fs w) j.words z, refl), refl, subst (λ l. J3 l (with_words u w)) (sym e) both)

  value_carried : (v w : Value) → ValuesMatch P v w → (t u : Tables) (fs : List Field) (t' : Tables) → J3 t u → Spells3 canonical g v t fs t' → (gs : List Field) × (u' : Tables) × Spells3 canonical h w u gs u' × (flat gs ≡ flat fs) × J3 t' u'
  value_carried v w m t u fs t' j (n, z) =
      let o = carried_spells g h P i.left i.right there i.nodes n v w m t u (flat fs) t' j (to_spells n canonical g v t fs t' z) in
      let f = from_spells n canonical h w u (flat fs) o.0 o.1 in
      (f.0, o.0, (n, f.1), sym f.2, o.2)

  name_carried0 : (x : List ℕ) (t u : Tables0) (fs : List Field) (t' : Tables0) → J0 t u → Short x fs × (t' ≡ t) → (gs : List Field) × (u' : Tables0) × (Short x gs × (u' ≡ u)) × (flat gs ≡ flat fs) × J0 t' u'
  name_carried0 x t u fs t' j (z, e) = (fs, u, (z, refl), refl, subst (λ l. J0 l u) (sym e) j)

  value_carried0 : (v w : Value) → ValuesMatch P v w → (t u : Tables0) (fs : List Field) (t' : Tables0) → J0 t u → Spells0 canonical g v t fs t' → (gs : List Field) × (u' : Tables0) × Spells0 canonical h w u gs u' × (flat gs ≡ flat fs) × J0 t' u'
  value_carried0 v w m t u fs t' j z =
      let o = carried_spells0 g h P i.left i.right there i.nodes v w m t u fs t' j z in
      (fs, o.0, o.1, refl, o.2)

  members_carried : (version : SolVersion) (a b : ℕ) → P a b → (ps qs : List (List ℕ × Value)) → AllZip (PairsMatch P) ps qs → (fs : List Field) → MembersBy canonical version g a ps fs → (gs : List Field) × MembersBy canonical version h b qs gs × (flat gs ≡ flat fs)
  members_carried Amf3 a b m ps qs z fs (t, x) =
      let start : J3 (file_tables a) (file_tables b) = record { words = refl; nodes_along = no_nodes; done_along = along_push P [] [] a b m no_nodes } in
      let o = pairs_carried P J3 (λ x. Lifted (Text canonical x)) (Spells3 canonical g) (Spells3 canonical h) name_carried value_carried ps qs z (file_tables a) (file_tables b) fs t start x in
      (o.0, (o.1, o.2), o.3)
  members_carried Amf0 a b m ps qs z fs (t, x) =
      let start : J0 (file_tables0 a) (file_tables0 b) = record { nodes_along = no_nodes; done_along = along_push P [] [] a b m no_nodes } in
      let o = pairs_carried P J0 (λ x. Plain (Short x)) (Spells0 canonical g) (Spells0 canonical h) name_carried0 value_carried0 ps qs z (file_tables0 a) (file_tables0 b) fs t start x in
      (o.0, (o.1, o.2), o.3)

  pub pairs_turn : (version : SolVersion) (fs : List Field) → PairsOf canonical version g fs → (gs : List Field) × PairsOf canonical version h gs × (flat gs ≡ flat fs)
  pairs_turn version fs p =
      let x = p.is_holder in
      let r = root_at P p.holder h.root (subst (λ v. ValuesMatch P v h.root) x.root i.root) in
      let b = r.0 in
      let n = i.nodes p.holder b r.2 in
      let qs = by_name (node_at h b).names in
      let o = members_carried version p.holder b r.2 p.pairs qs (subst (λ l. AllZip (PairsMatch P) l qs) (sym p.in_order) n.names) fs p.spelled in
      let y : IsPairHolder h b = record { root = r.1; there = there p.holder b r.2; head = sym n.head ∙ x.head; unsealed = none_zip P (node_at g p.holder).values (node_at h b).values x.unsealed n.values } in
      (o.0, record { holder = b; is_holder = y; pairs = qs; same_names = by_name_again (node_at h b).names; in_order = refl; spelled = o.1 }, o.2)

-- the lowerings of the same shared object are the same
holders_alike : (version : SolVersion) (g h y x : Graph) → Isomorphic g h → IsFittedHolder version g y → IsFittedHolder version h x → Isomorphic y x
holders_alike Amf3 g h y x i a b = subst (λ (w : Graph). Isomorphic w x) (sym a) (subst (λ (w : Graph). Isomorphic g w) (sym b) i)
holders_alike Amf0 g h y x i a b = low_alike g h y x i a b

pub lowered_alike : (o k low other : Shared) → SameFile o k → IsLoweredFile o low → IsLoweredFile k other → SameFile low other
lowered_alike o k low other same a b = record {
  name = sym a.name ∙ same.name ∙ b.name;
  version = sym a.version ∙ same.version ∙ b.version;
  holder = holders_alike o.version o.holder k.holder low.holder other.holder same.holder a.holder (subst (λ v. IsFittedHolder v k.holder other.holder) (sym same.version) b.holder);
}

carried : (o fit q low : Shared) (b : List ℕ) → SpelledFile canonical o b → IsLoweredFile o fit → HasHolder q.holder → IsLoweredFile q low → SameFile low fit → SpelledFile canonical q b
carried o fit q low b s a has c same =
    let x = s.1.behind in
    let p = held_pairs o.version o.holder fit.holder x.pairs a.holder x.held in
    let t = pairs_turn fit.holder low.holder (isomorphic_sym low.holder fit.holder same.holder) o.version x.pairs p in
    let version : o.version ≡ q.version = a.version ∙ sym same.version ∙ sym c.version in
    let held = pairs_held q.version q.holder low.holder t.0 has c.holder (subst (λ v. PairsOf canonical v low.holder t.0) version t.1) in
    turned canonical o q b s (a.name ∙ sym same.name ∙ sym c.name) version t.0 held t.2

pub every : (o fit : Shared) (b : List ℕ) → SpelledFile canonical o b → IsLoweredFile o fit → (q : Shared) → IsAlikeFile q fit ↔ SpelledFile canonical q b
every o fit b s a q = (
  λ is. carried o fit q is.1 b s a is.0 is.2 is.3,
  λ t. let low = has_low q b t in (holder q b t, low.0, low.1, same_bytes low.0 fit b (forget q low.0 b t low.1) (forget o fit b s a)),
)
