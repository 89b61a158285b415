-- What parts of a writer of packets append, one after the other.
use Rattle.std.proofs.Common.{◌≡◌, ℕ, List, [], ◌∷◌, ◌++◌, length, Result, Ok, Err, IsErrAnd, refl, sym, ap, ◌∙◌, subst, append_assoc, append-nil}
use Rattle.amf_io.specs.Field.{Field, flat}
use Rattle.amf_graph.specs.declared.lack.LackKind.{LackKind}
use Rattle.amf3_spelling.proofs.BytesOf.{flat_append}
use Rattle.amf_packet.specs.declared.packet_end.PacketEnd.{PacketEnd}
use Rattle.amf_packet.specs.declared.packet_end.PacketEnd.TheVariants.{TooMany, LongText, NoSpelling, Memory}
use Rattle.amf_packet.specs.Packet.{Beside, Each, CountBy, ListBy}
use Rattle.amf_packet.specs.WriteParts.{Grows, Appends, Writes}

-- bytes behind bytes

pub grows_then : (a b c : List ℕ) → Grows a b → Grows b c → Grows a c
grows_then a b c (x, e) (y, f) = (x ++ y, f ∙ ap (λ w. w ++ y) e ∙ append_assoc a x y)

pub grows_none : (a : List ℕ) → Grows a a
grows_none a = ([], sym (append-nil a))

pub appends_grow : (P : List Field → Type 0) (a b : List ℕ) → Appends P a b → Grows a b
appends_grow P a b (fs, p, e) = (flat fs, e)

pub appends_then : (P Q : List Field → Type 0) (a b c : List ℕ) → Appends P a b → Appends Q b c → Appends (Beside P Q) a c
appends_then P Q a b c (fs, p, e) (gs, q, f) = (fs ++ gs, (fs, gs, refl, p, q), f ∙ ap (λ w. w ++ flat gs) e ∙ append_assoc a (flat fs) (flat gs) ∙ ap (λ w. a ++ w) (sym (flat_append fs gs)))

-- what an end says, said of more

pub ends_more : (P Q : List Field → Type 0) (L M : ℕ → ℕ → LackKind → Type 0) (a b c d : List ℕ) (e : PacketEnd) → ((v n : ℕ) (k : LackKind) → L v n k → M v n k) → Writes P L a b (Err e) → Writes Q M c d (Err e)
ends_more P Q L M a b c d TooMany more w = absurd w
ends_more P Q L M a b c d (LongText v) more w = absurd w
ends_more P Q L M a b c d (NoSpelling v l) more w = more v l.node l.kind w
ends_more P Q L M a b c d Memory more w = tt

pub writes_more : (P : List Field → Type 0) (L M : ℕ → ℕ → LackKind → Type 0) (a b : List ℕ) (r : Result (Unit {0}) PacketEnd) → ((v n : ℕ) (k : LackKind) → L v n k → M v n k) → Writes P L a b r → Writes P M a b r
writes_more P L M a b (Ok u) more w = w
writes_more P L M a b (Err e) more w = ends_more P P L M a b a b e more w

pub writes_then : (P Q : List Field → Type 0) (L : ℕ → ℕ → LackKind → Type 0) (a b c : List ℕ) (r : Result (Unit {0}) PacketEnd) → Appends P a b → Writes Q L b c r → Writes (Beside P Q) L a c r
writes_then P Q L a b c (Ok u) h w = appends_then P Q a b c h w
writes_then P Q L a b c (Err e) h w = ends_more Q (Beside P Q) L L b c a c e (λ v n k x. x) w

-- lists

each_more : {X : Type 0} (P : X → List Field → Type 0) (xs : List X) (x : X) (fs gs : List Field) → Each P xs fs → P x gs → Each P (xs ++ x ∷ []) (fs ++ gs)
each_more P [] x fs gs e p = (gs, [], ap (λ w. w ++ gs) e ∙ sym (append-nil gs), p, refl)
each_more P (y ∷ xs) x fs gs (front, back, e, p, q) r = (front, back ++ gs, ap (λ w. w ++ gs) e ∙ append_assoc front back gs, p, each_more P xs x back gs q r)

pub each_none : {X : Type 0} (P : X → List Field → Type 0) (a : List ℕ) → Appends (Each P []) a a
each_none P a = ([], refl, sym (append-nil a))

pub each_next : {X : Type 0} (P : X → List Field → Type 0) (xs ys : List X) (x : X) (a b c : List ℕ) → ys ≡ xs ++ x ∷ [] → Appends (Each P xs) a b → Appends (P x) b c → Appends (Each P ys) a c
each_next P xs ys x a b c is (fs, p, e) (gs, q, f) =
    (fs ++ gs, subst (λ zs. Each P zs (fs ++ gs)) (sym is) (each_more P xs x fs gs p q), f ∙ ap (λ w. w ++ flat gs) e ∙ append_assoc a (flat fs) (flat gs) ∙ ap (λ w. a ++ w) (sym (flat_append fs gs)))

-- behind the count of a list all of its items
pub list_written : {X : Type 0} (P : X → List Field → Type 0) (xs ys : List X) (n : ℕ) (a b c : List ℕ) → n ≡ length xs → ys ≡ xs → Appends (CountBy n) a b → Appends (Each P ys) b c → Appends (ListBy P xs) a c
list_written P xs ys n a b c is all h k = appends_then (CountBy (length xs)) (Each P xs) a b c (subst (λ m. Appends (CountBy m) a b) is h) (subst (λ zs. Appends (Each P zs) b c) all k)

-- an end because memory ran out
pub memory_ended : (P : List Field → Type 0) (L : ℕ → ℕ → LackKind → Type 0) (a b : List ℕ) (r : Result (Unit {0}) PacketEnd) → IsErrAnd r (λ e. e ≡ Memory) → Writes P L a b r
memory_ended P L a b (Ok u) h = absurd h
memory_ended P L a b (Err e) h = subst (λ x. Writes P L a b (Err x)) (sym h) tt

-- an end of a part, handed on
pub part_ended : (P Q : List Field → Type 0) (L M : ℕ → ℕ → LackKind → Type 0) (a b c d : List ℕ) (e : PacketEnd) (r : Result (Unit {0}) PacketEnd) → IsErrAnd r (λ x. x ≡ e) → ((v n : ℕ) (k : LackKind) → L v n k → M v n k) → Writes P L a b (Err e) → Writes Q M c d r
part_ended P Q L M a b c d e (Ok u) h more w = absurd h
part_ended P Q L M a b c d e (Err x) h more w = subst (λ y. Writes Q M c d (Err y)) (sym h) (ends_more P Q L M a b c d e more w)
