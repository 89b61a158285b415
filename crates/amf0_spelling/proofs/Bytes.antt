-- Fields with bytes behind them: where one ends, and what it says.
use Rattle.std.specs.Int.{to_be_bytes, from_be_bytes, w16, w32, w64}
use Rattle.std.proofs.Common.{◌≡◌, ℕ, ◌<◌, ◌^◌, List, [], ◌∷◌, ◌++◌, length, sym, refl, ap, ◌∙◌, append_assoc}
use Rattle.std.proofs.lemmas.Nat.{from_be_bytes-to_be_bytes_2, from_be_bytes-to_be_bytes_4, from_be_bytes-to_be_bytes_8}
use Rattle.amf_io.specs.Field.{Kind, Field, flat, field, contents, text_kind}
use Rattle.amf_wire.specs.Style.{Style}
use Rattle.amf_graph.proofs.Lists.{split_same}
use Rattle.amf3_spelling.proofs.BytesOf.{flat_append, flat_contents}
use Rattle.amf0_spelling.specs.Segments0.{Short, Long, Count0}

pub be16 : (n m : ℕ) (x y : List ℕ) → n < 2 ^ 16 → m < 2 ^ 16 → to_be_bytes w16 n ++ x ≡ to_be_bytes w16 m ++ y → (n ≡ m) × (x ≡ y)
be16 n m x y l k e =
    let s = split_same (to_be_bytes w16 n) (to_be_bytes w16 m) x y refl e in
    (sym (from_be_bytes-to_be_bytes_2 n l) ∙ ap (from_be_bytes w16) s.0 ∙ from_be_bytes-to_be_bytes_2 m k, s.1)

pub be32 : (n m : ℕ) (x y : List ℕ) → n < 2 ^ 32 → m < 2 ^ 32 → to_be_bytes w32 n ++ x ≡ to_be_bytes w32 m ++ y → (n ≡ m) × (x ≡ y)
be32 n m x y l k e =
    let s = split_same (to_be_bytes w32 n) (to_be_bytes w32 m) x y refl e in
    (sym (from_be_bytes-to_be_bytes_4 n l) ∙ ap (from_be_bytes w32) s.0 ∙ from_be_bytes-to_be_bytes_4 m k, s.1)

pub be64 : (n m : ℕ) (x y : List ℕ) → n < 2 ^ 64 → m < 2 ^ 64 → to_be_bytes w64 n ++ x ≡ to_be_bytes w64 m ++ y → (n ≡ m) × (x ≡ y)
be64 n m x y l k e =
    let s = split_same (to_be_bytes w64 n) (to_be_bytes w64 m) x y refl e in
    (sym (from_be_bytes-to_be_bytes_8 n l) ∙ ap (from_be_bytes w64) s.0 ∙ from_be_bytes-to_be_bytes_8 m k, s.1)

-- two lists of fields that are joined, and bytes behind them
pub cut : (fs front back : List Field) (r : List ℕ) → fs ≡ front ++ back → flat fs ++ r ≡ flat front ++ (flat back ++ r)
cut fs front back r e = ap (λ w. flat w ++ r) e ∙ ap (λ w. w ++ r) (flat_append front back) ∙ append_assoc (flat front) (flat back) r

-- a length and contents, and bytes behind them
pub text_flat : (k : Kind) (kind : ℕ → Kind) (b x r : List ℕ) (fs : List Field) → fs ≡ field k b ∷ contents kind x → flat fs ++ r ≡ b ++ (x ++ r)
text_flat k kind b x r fs e = ap (λ w. flat w ++ r) e ∙ ap (λ w. (b ++ w) ++ r) (flat_contents kind x) ∙ append_assoc b x r

-- one field and bytes behind it
pub one_flat : (k : Kind) (b r : List ℕ) (fs : List Field) → fs ≡ field k b ∷ [] → flat fs ++ r ≡ b ++ r
one_flat k b r fs e = ap (λ w. flat w ++ r) e ∙ append_assoc b [] r

pub short_same : (x y : List ℕ) (fs gs : List Field) (r q : List ℕ) → Short x fs → Short y gs → flat fs ++ r ≡ flat gs ++ q → (x ≡ y) × (r ≡ q)
short_same x y fs gs r q a b e =
    let f = be16 (length x) (length y) (x ++ r) (y ++ q) a.1 b.1 (sym (text_flat _ text_kind (to_be_bytes w16 (length x)) x r fs a.2) ∙ e ∙ text_flat _ text_kind (to_be_bytes w16 (length y)) y q gs b.2) in
    split_same x y r q f.0 f.1

pub long_same : (x y : List ℕ) (fs gs : List Field) (r q : List ℕ) → Long x fs → Long y gs → flat fs ++ r ≡ flat gs ++ q → (x ≡ y) × (r ≡ q)
long_same x y fs gs r q a b e =
    let f = be32 (length x) (length y) (x ++ r) (y ++ q) a.1 b.1 (sym (text_flat _ text_kind (to_be_bytes w32 (length x)) x r fs a.2) ∙ e ∙ text_flat _ text_kind (to_be_bytes w32 (length y)) y q gs b.2) in
    split_same x y r q f.0 f.1

-- a count that is not checked
pub count_same : (s z : Style) (n m : ℕ) (fs gs : List Field) (r q : List ℕ) → Count0 s n fs → Count0 z m gs → flat fs ++ r ≡ flat gs ++ q → (Unit {0}) × (r ≡ q)
count_same s z n m fs gs r q a b e = (tt, (be32 a.0 b.0 r q a.1 b.1 (sym (one_flat _ (to_be_bytes w32 a.0) r fs a.3) ∙ e ∙ one_flat _ (to_be_bytes w32 b.0) q gs b.3)).1)
