-- A shared object file that is spelled is read.
use Rattle.std.proofs.Common.{◌≡◌, ℕ, suc, ◌+◌, ◌*◌, ◌%◌, ◌/◌, ◌<◌, ◌&&◌, Bool, true, false, cond, eqb, leb, List, [], ◌∷◌, ◌++◌, length, Option, Some, None, refl, sym, ap, ◌∙◌, arith, subst, append_assoc}
use Rattle.std.proofs.lemmas.Nat.{from_be_bytes-to_be_bytes_2}
use Rattle.std.specs.Int.{to_be_bytes, w16}
use Rattle.amf_io.specs.declared.reason.Reason.TheVariants.{BadTextIndex}
use Rattle.amf_io.specs.declared.reason.Reason.{Reason}
use Rattle.amf_io.specs.Field.{Field, field, IsClean, contents, flat, text_kind, u16_kind, u29_kind, no_refusal}
use Rattle.amf_io.specs.Layout.{give, bind, Takes, Runs}
use Rattle.amf_io.proofs.Paths.{runs_bind}
use Rattle.amf_wire.specs.Style.{free}
use Rattle.amf_wire.specs.U29.{IsU29}
use Rattle.amf_wire.proofs.U29Fields.{IsOneField, one_field}
use Rattle.amf_graph.specs.Graph.{Value, Graph}
use Rattle.amf3_layout_laws.specs.Layout3Words.{chunk, text_layout}
use Rattle.amf3_layout_laws.specs.Layout3.{value_layout}
use Rattle.amf3_spelling.specs.Segments3.{Lifted}
use Rattle.amf3_spelling.specs.Refusals3.{text_header_refusal, text_header_kind}
use Rattle.amf3_spelling.specs.Spells3.{Spells3}
use Rattle.amf3_spelling.specs.Tables.{Words, Tables}
use Rattle.amf3_spelling.specs.Then.{Plain}
use Rattle.amf3_spelling.specs.Words3.{empty, whole, placed, Text}
use Rattle.amf3_spelling.proofs.Clean.{AllClean, clean_as, text_field, contents_clean, below_length}
use Rattle.amf3_layout_laws.proofs.Layout3Complete.{spelled_read}
use Rattle.amf3_layout_laws.proofs.Layout3Parts.{Like, parts_length, like_text, chunk_runs}
use Rattle.amf3_layout_laws.proofs.Layout3Texts.{takes, FoundText, text_complete}
use Rattle.amf0_layout_laws.specs.Layout0.{new_text0, short_layout, value0_layout}
use Rattle.amf0_layout_laws.specs.Layout0State.{State0, in_amf3}
use Rattle.amf0_spelling.specs.Segments0.{Short}
use Rattle.amf0_spelling.specs.Spells0.{Spells0}
use Rattle.amf0_spelling.specs.Tables0.{Tables0}
use Rattle.amf0_layout_laws.proofs.Layout0Complete.{Like0, spelled_read0}
use Rattle.amf_sol.specs.declared.sol_version.SolVersion.{SolVersion}
use Rattle.amf_sol.specs.declared.sol_version.SolVersion.TheVariants.{Amf0, Amf3}
use Rattle.amf_sol.specs.SharedObject.{signature, length_field, second_signature, padding, pair_end, version_number, version_kind, version_field, PairsBy, file_tables, file_tables0, PairsOf}
use Rattle.amf_sol.specs.FileLayout.{FileState, file, no_pairs, version_of, behind_name, head_layout, with_pair, behind_pair, pair_by, pair_layout, HasPairs}
use Rattle.amf_io.specs.Repeated.{steps, after_head}

-- the fields of names are whole and not refused

clean_short : (x : List ℕ) (fs : List Field) → Short x fs → AllClean fs
clean_short x fs (t, l, e) = clean_as _ fs e (record { is_whole = refl; clean = refl }, contents_clean text_kind x (text_field x t))

number_field : (n : ℕ) (b : List ℕ) (refusal : ℕ → Option Reason) → IsU29 free n b → refusal n ≡ None → IsClean (field (u29_kind refusal) b)
number_field n b refusal u e = let h : IsOneField n b = one_field u.spelled in record { is_whole = h.is_whole; clean = ap refusal h.value ∙ e }

odd_is : (k : ℕ) → eqb ((2 * k + 1) % 2) 0 ≡ false
odd_is k = grind arith

odd_header : (texts k : ℕ) → text_header_refusal texts (2 * k + 1) ≡ None
odd_header texts k = ap (λ b. cond (b && leb texts ((2 * k + 1) / 2)) (Some BadTextIndex) None) (odd_is k)

even_header : (texts k : ℕ) → k < texts → text_header_refusal texts (2 * k) ≡ None
even_header texts k h = ap (λ b. cond b (Some BadTextIndex) None) (both_false (eqb ((2 * k) % 2) 0) (leb texts (2 * k / 2)) (ap (leb texts) (half_is k) ∙ not_below texts k h))
  where
    half_is : (k : ℕ) → 2 * k / 2 ≡ k
    half_is k = omega arith

    both_false : (a b : Bool) → b ≡ false → (a && b) ≡ false
    both_false true b e = e
    both_false false b e = refl

    not_below : (texts k : ℕ) → k < texts → leb texts k ≡ false
    not_below texts k h = grind arith

pub clean_text : (x : List ℕ) (w : Words) (fs : List Field) (w' : Words) → Text free x w fs w' → AllClean fs
clean_text x w fs w' (empty e h u f a) = clean_as _ fs f (number_field 1 h (text_header_refusal (length w.texts)) u (odd_header (length w.texts) 0), tt)
clean_text x w fs w' (whole e i o h u f a) = clean_as _ fs f (number_field (2 * length x + 1) h (text_header_refusal (length w.texts)) u (odd_header (length w.texts) (length x)), (text_field x i e, tt))
clean_text x w fs w' (placed e k i o h u f a) = clean_as _ fs f (number_field (2 * k) h (text_header_refusal (length w.texts)) u (even_header (length w.texts) k (below_length w.texts k x i)), tt)

pub short_runs : (x : List ℕ) (fs : List Field) (s : State0) → Short x fs → Runs (short_layout s) fs (new_text0 s x)
short_runs x fs s h =
    let size = to_be_bytes w16 (length x) in
    let d = subst AllClean h.2 (clean_short x fs h) in
    subst (λ l. Runs (short_layout s) l (new_text0 s x)) (sym h.2)
    (takes (u16_kind no_refusal) size d.0, subst (λ n. Runs (chunk text_kind n (λ y. give (new_text0 s y))) (contents text_kind x) (new_text0 s x)) (sym (from_be_bytes-to_be_bytes_2 (length x) h.1)) (chunk_runs text_kind x (new_text0 s) d.1))

end_runs : (version : SolVersion) (name : List ℕ) (s : State0) → Runs (behind_pair version name s) (pair_end ∷ []) (file version name s)
end_runs version name s = (record { is_kind = refl; is_whole = refl; clean = refl }, refl)

-- a pair and those behind it
joined_pairs : (fs front back first last : List Field) → fs ≡ front ++ back → back ≡ first ++ last → fs ≡ (front ++ first) ++ last
joined_pairs fs front back first last a b = a ∙ ap (λ l. front ++ l) b ∙ sym (append_assoc front first last)

pairs0_found : (g : Graph) (n : ℕ) (name : List ℕ) (pairs : List (List ℕ × Value)) (t : Tables0) (fs : List Field) (u : Tables0) (s : State0) → Like0 g t s → length (flat fs) < n → PairsBy (λ x. Plain (Short x)) (Spells0 free g) pairs t fs u
    → (z : FileState) × Runs (steps (pair_layout n) (length pairs) (file Amf0 name s)) fs z
pairs0_found g n name [] t fs u s like lt p = (file Amf0 name s, subst (λ l. Runs (give (file Amf0 name s)) l (file Amf0 name s)) (sym p.0) refl)
pairs0_found g n name (x ∷ pairs) t fs u s like lt p =
    let q = p.second in
    let r = q.second in
    let all = parts_length fs p.front p.back p.joined in
    let behind = parts_length p.back q.front q.back q.joined in
    let last = parts_length q.back r.front r.back r.joined in
    let y = new_text0 s x.0 in
    let like1 : Like0 g p.mid y.state = subst (λ w. Like0 g w y.state) (sym p.first.1) (record { amf3 = record { words = like.amf3.words; marks = like.amf3.marks }; size = like.size }) in
    let o = spelled_read0 g n x.1 p.mid q.front q.mid y.state like1 (omega arith) q.first in
    let z = with_pair y.id o.result.value o.result.state in
    let like2 : Like0 g r.mid z = subst (λ w. Like0 g w z) (sym r.first.1) (record { amf3 = record { words = o.like.amf3.words; marks = o.like.amf3.marks }; size = o.like.size }) in
    let rest = pairs0_found g n name pairs r.mid r.back u z like2 (omega arith) r.second in
    let one : Runs (pair_by Amf0 n name s) (p.front ++ (q.front ++ r.front)) (file Amf0 name z) =
    runs_bind (short_layout s) (λ x. bind (value0_layout n false x.state) (λ v. behind_pair Amf0 name (with_pair x.id v.value v.state))) p.front (q.front ++ r.front) y (give (file Amf0 name z)) (short_runs x.0 p.front s p.first.0)
    (runs_bind (value0_layout n false y.state) (λ v. behind_pair Amf0 name (with_pair y.id v.value v.state)) q.front r.front o.result (give (file Amf0 name z)) o.runs
    (subst (λ l. Runs (behind_pair Amf0 name z) l (file Amf0 name z)) (sym r.first.0) (end_runs Amf0 name z))) in
    let cut = joined_pairs fs p.front p.back (q.front ++ r.front) r.back p.joined (q.joined ∙ ap (λ l. q.front ++ l) r.joined ∙ sym (append_assoc q.front r.front r.back)) in
    (rest.0, subst (λ l. Runs (steps (pair_layout n) (suc (length pairs)) (file Amf0 name s)) l rest.0) (sym cut) (runs_bind (pair_by Amf0 n name s) (λ u. steps (pair_layout n) (length pairs) u) (p.front ++ (q.front ++ r.front)) r.back (file Amf0 name z) (give rest.0) one rest.1))

pairs3_found : (g : Graph) (n : ℕ) (name : List ℕ) (pairs : List (List ℕ × Value)) (t : Tables) (fs : List Field) (u : Tables) (s : State0) → Like g t s.amf3 → length (flat fs) < n → PairsBy (λ x. Lifted (Text free x)) (Spells3 free g) pairs t fs u
    → (z : FileState) × Runs (steps (pair_layout n) (length pairs) (file Amf3 name s)) fs z
pairs3_found g n name [] t fs u s like lt p = (file Amf3 name s, subst (λ l. Runs (give (file Amf3 name s)) l (file Amf3 name s)) (sym p.0) refl)
pairs3_found g n name (x ∷ pairs) t fs u s like lt p =
    let q = p.second in
    let r = q.second in
    let all = parts_length fs p.front p.back p.joined in
    let behind = parts_length p.back q.front q.back q.joined in
    let last = parts_length q.back r.front r.back r.joined in
    let w = p.first.0 in
    let text : Text free x.0 s.amf3.words p.front w = subst (λ k. Text free x.0 k p.front w) like.words p.first.1 in
    let f : FoundText (text_header_kind (length s.amf3.words.texts)) text_kind x.0 s.amf3 p.front w = text_complete (text_header_refusal (length s.amf3.words.texts)) text_kind s.amf3 x.0 p.front w (clean_text x.0 s.amf3.words p.front w text) text in
    let y = f.read in
    let like1 = like_text g t p.mid w s.amf3 y.state like p.first.2 f.after f.marks in
    let o = spelled_read g n x.1 p.mid q.front q.mid y.state like1 (omega arith) q.first in
    let z = with_pair y.id o.result.value (in_amf3 s o.result.state) in
    let like2 : Like g r.mid z.amf3 = subst (λ m. Like g m z.amf3) (sym r.first.1) (record { words = o.like.words; marks = o.like.marks }) in
    let rest = pairs3_found g n name pairs r.mid r.back u z like2 (omega arith) r.second in
    let one : Runs (pair_by Amf3 n name s) (p.front ++ (q.front ++ r.front)) (file Amf3 name z) =
    runs_bind (text_layout s.amf3) (λ x. bind (value_layout n x.state) (λ v. behind_pair Amf3 name (with_pair x.id v.value (in_amf3 s v.state)))) p.front (q.front ++ r.front) y (give (file Amf3 name z)) f.runs
    (runs_bind (value_layout n y.state) (λ v. behind_pair Amf3 name (with_pair y.id v.value (in_amf3 s v.state))) q.front r.front o.result (give (file Amf3 name z)) o.runs
    (subst (λ l. Runs (behind_pair Amf3 name z) l (file Amf3 name z)) (sym r.first.0) (end_runs Amf3 name z))) in
    let cut = joined_pairs fs p.front p.back (q.front ++ r.front) r.back p.joined (q.joined ∙ ap (λ l. q.front ++ l) r.joined ∙ sym (append_assoc q.front r.front r.back)) in
    (rest.0, subst (λ l. Runs (steps (pair_layout n) (suc (length pairs)) (file Amf3 name s)) l rest.0) (sym cut) (runs_bind (pair_by Amf3 n name s) (λ u. steps (pair_layout n) (length pairs) u) (p.front ++ (q.front ++ r.front)) r.back (file Amf3 name z) (give rest.0) one rest.1))

pairs_found : (g : Graph) (n : ℕ) (version : SolVersion) (name : List ℕ) (fs : List Field) (p : PairsOf free version g fs) → length (flat fs) < n → (z : FileState) × Runs (steps (pair_layout n) (length p.pairs) (file version name no_pairs)) fs z
pairs_found g n Amf0 name fs p lt = pairs0_found g n name p.pairs (file_tables0 p.holder) fs p.spelled.0 no_pairs (record { amf3 = record { words = refl; marks = refl }; size = refl }) lt p.spelled.1
pairs_found g n Amf3 name fs p lt = pairs3_found g n name p.pairs (file_tables p.holder) fs p.spelled.0 no_pairs (record { words = refl; marks = refl }) lt p.spelled.1

-- up to the first pair

version_taken : (v : SolVersion) → Takes version_kind (version_field v)
version_taken Amf0 = record { is_kind = refl; is_whole = refl; clean = refl }
version_taken Amf3 = record { is_kind = refl; is_whole = refl; clean = refl }

version_is : (v : SolVersion) → version_of (version_number v ∷ []) ≡ v
version_is Amf0 = refl
version_is Amf3 = refl

head_runs : (size : ℕ) (x : List ℕ) (fs : List Field) (v : SolVersion) → Short x fs → Runs head_layout (signature ∷ length_field size ∷ second_signature ∷ (fs ++ padding ∷ version_field v ∷ [])) (file v x no_pairs)
head_runs size x fs v h = (
  record { is_kind = refl; is_whole = refl; clean = refl },
  (
    record { is_kind = refl; is_whole = refl; clean = refl },
    (
      record { is_kind = refl; is_whole = refl; clean = refl },
      runs_bind (short_layout no_pairs) (λ y. behind_name y.bytes) fs (padding ∷ version_field v ∷ []) (new_text0 no_pairs x) (give (file v x no_pairs)) (short_runs x fs no_pairs h)
          (record { is_kind = refl; is_whole = refl; clean = refl }, (version_taken v, ap (λ w. give (file w x no_pairs)) (version_is v))),
    ),
  ),
)

pub file_found : (m n : ℕ) (fs : List Field) → HasPairs m fs → length (flat fs) < n → (z : FileState) × Runs (after_head head_layout (pair_layout n) m) fs z
file_found m n fs (o, s, e) lt =
    let a = s.behind in
    let held : PairsOf free o.version o.holder a.pairs = a.held in
    let head = signature ∷ length_field s.size ∷ second_signature ∷ (a.name ++ padding ∷ version_field o.version ∷ []) in
    let cut : fs ≡ head ++ a.pairs = s.fields ∙ ap (λ l. signature ∷ length_field s.size ∷ l) (a.fields ∙ ap (λ l. second_signature ∷ l) (sym (append_assoc a.name (padding ∷ version_field o.version ∷ []) a.pairs))) in
    let total = parts_length fs head a.pairs cut in
    let z = pairs_found o.holder n o.version o.name a.pairs held (omega arith) in
    let all : Runs (after_head head_layout (pair_layout n) (length held.pairs)) (head ++ a.pairs) z.0 = runs_bind head_layout (λ f. steps (pair_layout n) (length held.pairs) f) head a.pairs (file o.version o.name no_pairs) (give z.0) (head_runs s.size o.name a.name o.version a.named) z.1 in
    (z.0, subst (λ k. Runs (after_head head_layout (pair_layout n) k) fs z.0) e (subst (λ l. Runs (after_head head_layout (pair_layout n) (length held.pairs)) l z.0) (sym cut) all))
