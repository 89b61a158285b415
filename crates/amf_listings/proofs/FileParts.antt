-- Names and values on the tables of a file: what each does to them, and what two spellings of each have in common.
use Rattle.std.proofs.Common.{◌≡◌, ℕ, ◌<◌, ◌*◌, false, List, [], ◌∷◌, ◌++◌, length, sym, ap, ◌∙◌, subst, append-nil}
use Rattle.amf_io.specs.Field.{Kind, Field, field, flat}
use Rattle.amf_wire.specs.Style.{Style, free}
use Rattle.amf_wire.specs.U29.{IsU29}
use Rattle.amf_graph.specs.Graph.{Value, Graph}
use Rattle.amf_graph.specs.Isomorphic.{ValuesMatch}
use Rattle.amf_graph.proofs.Lists.{no_entry}
use Rattle.amf3_spelling.specs.Tables.{Words, Tables, with_words}
use Rattle.amf3_spelling.specs.Words3.{empty, whole, placed, Text}
use Rattle.amf3_spelling.specs.Segments3.{Lifted}
use Rattle.amf3_spelling.specs.Spells3.{Spells3}
use Rattle.amf3_spelling.proofs.Alike3.{Tied as Tied3, alike}
use Rattle.amf3_spelling.proofs.BytesOf.{to_spells}
use Rattle.amf3_spelling.proofs.ByteSpelling.{Text as ByteText, empty as empty_bytes, whole as whole_bytes, placed as placed_bytes}
use Rattle.amf3_spelling.proofs.Forget.{Implies}
use Rattle.amf3_spelling.proofs.Stays3.{Proper as Proper3, Stays as Stays3, stays_same as stays_same3, keeps_spells}
use Rattle.amf3_spelling.proofs.Steps3.{text_same}
use Rattle.amf0_spelling.specs.Segments0.{Short}
use Rattle.amf0_spelling.specs.Spells0.{Spells0}
use Rattle.amf0_spelling.specs.Tables0.{Tables0, no_tables0}
use Rattle.amf0_spelling.proofs.Alike0.{Tied as Tied0, alike0}
use Rattle.amf0_spelling.proofs.Bytes.{short_same}
use Rattle.amf0_spelling.proofs.Stays0.{Proper as Proper0, Stays as Stays0, stays_same as stays_same0, stays_done, proper_none, keeps_values_in}
use Rattle.amf_sol.specs.SharedObject.{file_tables, file_tables0}
use Rattle.amf_listings.proofs.Members.{Met, Stays}

-- AMF 3.

one_field : (fs : List Field) (k : Kind) (h : List ℕ) → fs ≡ field k h ∷ [] → flat fs ≡ h
one_field fs k h e = ap flat e ∙ append-nil h

pub to_text : (s : Style) (x : List ℕ) (w : Words) (fs : List Field) (w' : Words) → Text s x w fs w' → ByteText s x w (flat fs) w'
to_text s x w fs w' (empty e h u f a) = empty_bytes e (subst (λ b. IsU29 s 1 b) (sym (one_field fs _ h f)) u) a
to_text s x w fs w' (whole e i o h u f a) = whole_bytes e i o h u (ap flat f ∙ ap (λ b. h ++ b) (append-nil x)) a
to_text s x w fs w' (placed e k i o h u f a) = placed_bytes e k i o (subst (λ b. IsU29 s (2 * k) b) (sym (one_field fs _ h f)) u) a

forget_u29 : (s : Style) (n : ℕ) (b : List ℕ) → IsU29 s n b → IsU29 free n b
forget_u29 s n b u = record { spelled = u.spelled; shortest = tt }

forget_text : (s : Style) (x : List ℕ) (w : Words) (fs : List Field) (w' : Words) → Text s x w fs w' → Text free x w fs w'
forget_text s x w fs w' (empty e h u f a) = empty e h (forget_u29 s 1 h u) f a
forget_text s x w fs w' (whole e i o h u f a) = whole e i tt h (forget_u29 s _ h u) f a
forget_text s x w fs w' (placed e k i o h u f a) = placed tt k i tt h (forget_u29 s _ h u) f a

pub forget_name : (s : Style) (x : List ℕ) → Implies (Lifted (Text s x)) (Lifted (Text free x))
forget_name s x t fs t' (w, z, e) = (w, forget_text s x t.words fs w z, e)

pub name_keep : (s : Style) (g : Graph) (x : List ℕ) (t : Tables) (fs : List Field) (t' : Tables) → Lifted (Text s x) t fs t' → Stays3 g t t'
name_keep s g x t fs t' (w, z, e) = stays_same3 g t t' (ap (λ (y : Tables). y.nodes) e) (ap (λ (y : Tables). y.done) e)

pub value_keep : (s : Style) (g : Graph) (v : Value) (t : Tables) (fs : List Field) (t' : Tables) → Spells3 s g v t fs t' → Stays3 g t t'
value_keep s g v t fs t' (n, z) = keeps_spells g s n v t (flat fs) t' (to_spells n s g v t fs t' z)

pub stays3 : (g : Graph) (t t' : Tables) → Stays3 g t t' → Stays (λ (x : Tables). x.done) t t'
stays3 g t t' k = record { longer = k.longer; stays = k.stays }

pub name_same : (s z : Style) (x y : List ℕ) (t u : Tables) (fs gs : List Field) (r q : List ℕ) (t' u' : Tables) → Tied3 t u → Lifted (Text s x) t fs t' → Lifted (Text z y) u gs u' → flat fs ++ r ≡ flat gs ++ q → (x ≡ y) × (r ≡ q) × Tied3 t' u' × (length t'.done ≡ length t.done)
name_same s z x y t u fs gs r q t' u' j (w, a, e) (k, b, d) same =
    let o = text_same x y t.words w k (flat fs) (flat gs) r q (to_text s x t.words fs w a) (subst (λ l. ByteText z y l (flat gs) k) (sym j.words) (to_text z y u.words gs k b)) same in
    let tied : Tied3 (with_words t w) (with_words u k) = record { words = o.2; size = j.size; level = j.level; pairs = j.pairs } in
    (o.0, o.1, subst (λ l. Tied3 l u') (sym e) (subst (λ l. Tied3 (with_words t w) l) (sym d) tied), ap (λ (l : Tables). length l.done) e)

pub value_same : (s z : Style) (g h : Graph) (v w : Value) (t u : Tables) (fs gs : List Field) (r q : List ℕ) (t' u' : Tables) → Tied3 t u → Spells3 s g v t fs t' → Spells3 z h w u gs u' → flat fs ++ r ≡ flat gs ++ q → (r ≡ q) × Met (λ (x : Tables). x.done) Tied3 g h (length t.done) t' u' (λ P. ValuesMatch P v w)
value_same s z g h v w t u fs gs r q t' u' j (n, a) (m, b) same =
    let o = alike g h s z n m v w t u (flat fs) (flat gs) r q t' u' j (to_spells n s g v t fs t' a) (to_spells m z h w u gs u' b) same in
    (o.rest, record { tied = o.tied; fresh = o.fresh; says = o.says })

-- AMF 0.

pub name_keep0 : (g : Graph) (x : List ℕ) (t : Tables0) (fs : List Field) (t' : Tables0) → Short x fs × (t' ≡ t) → Stays0 g t t'
name_keep0 g x t fs t' z = stays_same0 g t t' z.1

pub value_keep0 : (s : Style) (g : Graph) (v : Value) (t : Tables0) (fs : List Field) (t' : Tables0) → Spells0 s g v t fs t' → Stays0 g t t'
value_keep0 s g v t fs t' (n, z) = keeps_values_in g s n false v t fs t' z

pub stays0 : (g : Graph) (t t' : Tables0) → Stays0 g t t' → Stays (λ (x : Tables0). x.amf3.done) t t'
stays0 g t t' k = record { longer = k.longer; stays = k.stays }

pub name_same0 : (x y : List ℕ) (t u : Tables0) (fs gs : List Field) (r q : List ℕ) (t' u' : Tables0) → Tied0 t u → Short x fs × (t' ≡ t) → Short y gs × (u' ≡ u) → flat fs ++ r ≡ flat gs ++ q → (x ≡ y) × (r ≡ q) × Tied0 t' u' × (length t'.amf3.done ≡ length t.amf3.done)
name_same0 x y t u fs gs r q t' u' j (a, e) (b, d) same =
    let o = short_same x y fs gs r q a b same in
    (o.0, o.1, subst (λ l. Tied0 l u') (sym e) (subst (λ l. Tied0 t l) (sym d) j), ap (λ (l : Tables0). length l.amf3.done) e)

pub value_same0 : (s z : Style) (g h : Graph) (v w : Value) (t u : Tables0) (fs gs : List Field) (r q : List ℕ) (t' u' : Tables0) → Tied0 t u → Spells0 s g v t fs t' → Spells0 z h w u gs u' → flat fs ++ r ≡ flat gs ++ q → (r ≡ q) × Met (λ (x : Tables0). x.amf3.done) Tied0 g h (length t.amf3.done) t' u' (λ P. ValuesMatch P v w)
value_same0 s z g h v w t u fs gs r q t' u' j a b same =
    let o = alike0 g h s z v w t u fs gs r q t' u' j a b same in
    (o.rest, record { tied = o.tied; fresh = o.fresh; says = o.says })

-- The tables of a file are those of its graph.

pub file_proper0 : (g : Graph) (i : ℕ) → i < length g.nodes → Proper0 g (file_tables0 i)
file_proper0 g i there = let k = stays_done g no_tables0 i there (λ n e. no_entry n i e) in k.proper (proper_none g)

pub file_proper : (g : Graph) (i : ℕ) → i < length g.nodes → Proper3 g (file_tables i)
file_proper g i there = let p = file_proper0 g i there in p.amf3
