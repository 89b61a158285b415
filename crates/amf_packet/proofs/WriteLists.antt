-- The items of a list that is kept, one by one: what was written of them, and what is told of one.
use Rattle.std.proofs.Common.{◌≡◌, ℕ, ◌+◌, ◌<◌, ◌≤◌, List, [], ◌∷◌, ◌++◌, length, map, take, get_or, Some, None, slice_get, sym, ap, ◌∙◌, subst}
use Rattle.std.specs.List.{AllByRecursion}
use Rattle.std.proofs.lemmas.List.{take-map, map_more, take_all, length-map}
use Rattle.std.proofs.lemmas.Option.{slice_get-get_or}
use Rattle.amf_io.specs.Field.{Field}
use Rattle.amf_graph.specs.declared.lack.LackKind.{LackKind}
use Rattle.amf_graph.proofs.Alls.{each_at}
use Rattle.amf_graph.proofs.Matched.{map_get}
use Rattle.amf_packet.specs.Packet.{Body, Each, CountBy, ListBy}
use Rattle.amf_packet.specs.PacketLacks.{AreShort}
use Rattle.amf_packet.specs.WriteParts.{Appends, IsSpelledBody, LacksFirst, LacksHere, IsFirstLong}
use Rattle.amf_packet.proofs.WriteJoins.{each_next, list_written}
use Rattle.amf_packet.proofs.WriteLacks.{lacks_at}

abbrev Texts : Type 0
Texts = List (List ℕ)

short_push : {X : Type 0} (texts : X → Texts) (xs : List X) (x : X) → AllByRecursion AreShort (map texts xs) → AreShort (texts x) → AllByRecursion AreShort (map texts (xs ++ x ∷ []))
short_push texts [] x h k = (k, tt)
short_push texts (y ∷ xs) x h k = (h.0, short_push texts xs x h.1 k)

module _ {K X : Type 0} (view : K → X) (ks : List K) (i : ℕ) (k : K) (lt : i < length ks) (is : k ≡ get_or ks i k) where
  at : slice_get (map view ks) i ≡ Some (view k)
  at = map_get view ks i k (slice_get-get_or ks i k lt ∙ ap (λ z. Some z) (sym is))

  one_more : map view (take (i + 1) ks) ≡ map view (take i ks) ++ view k ∷ []
  one_more = map_more view ks i k lt ∙ ap (λ z. map view (take i ks) ++ view z ∷ []) (sym is)

  pub next_written : (P : X → List Field → Type 0) (a b c : List ℕ) → Appends (Each P (map view (take i ks))) a b → Appends (P (view k)) b c → Appends (Each P (map view (take (i + 1) ks))) a c
  next_written P a b c h w = each_next P (map view (take i ks)) (map view (take (i + 1) ks)) (view k) a b c one_more h w

  pub item_lacks : (P : X → List Field → Type 0) (body : X → Body) → ((x : X) (fs : List Field) → P x fs → IsSpelledBody (body x)) → (before here : ℕ) → here ≡ before + i → (a b : List ℕ) → Appends (Each P (map view (take i ks))) a b → (v n : ℕ) (kind : LackKind) → LacksHere (body (view k)) here v n kind → LacksFirst before (map body (map view ks)) v n kind
  item_lacks P body spelled before here e a b h v n kind l =
      lacks_at P body spelled before i v n kind (map view ks) (view k) a b at (subst (λ zs. Appends (Each P zs) a b) (sym (take-map view i ks)) h) (subst (λ z. LacksHere (body (view k)) z v n kind) e l)

  pub item_of : (texts : X → Texts) (Q : Texts → Type 0) → AllByRecursion Q (map texts (map view ks)) → Q (texts (view k))
  item_of texts Q h = each_at Q (map texts (map view ks)) i (texts (view k)) h (map_get texts (map view ks) i (view k) at)

  pub long_at : (texts : X → Texts) → (AreShort (texts (view k)) → ⊥) → AllByRecursion AreShort (map texts (map view (take i ks))) → IsFirstLong (map texts (map view ks)) (Some i)
  long_at texts long h = (texts (view k), map_get texts (map view ks) i (view k) at, long, subst (λ zs. AllByRecursion AreShort zs) (ap (map texts) (sym (take-map view i ks)) ∙ sym (take-map texts i (map view ks))) h)

  pub short_more : (texts : X → Texts) → AreShort (texts (view k)) → AllByRecursion AreShort (map texts (map view (take i ks))) → AllByRecursion AreShort (map texts (map view (take (i + 1) ks)))
  short_more texts short h = subst (λ zs. AllByRecursion AreShort (map texts zs)) (sym one_more) (short_push texts (map view (take i ks)) (view k) h short)

pub short_all : {K X : Type 0} (view : K → X) (texts : X → Texts) (ks : List K) (i : ℕ) → length ks ≤ i → AllByRecursion AreShort (map texts (map view (take i ks))) → IsFirstLong (map texts (map view ks)) None
short_all view texts ks i le h = subst (λ zs. AllByRecursion AreShort (map texts (map view zs))) (take_all i ks le) h

pub all_written : {K X : Type 0} (view : K → X) (P : X → List Field → Type 0) (ks : List K) (n i : ℕ) (a b c : List ℕ) → n ≡ length ks → length ks ≤ i → Appends (CountBy n) a b → Appends (Each P (map view (take i ks))) b c → Appends (ListBy P (map view ks)) a c
all_written view P ks n i a b c e le h w = list_written P (map view ks) (map view (take i ks)) n a b c (e ∙ sym (length-map ks view)) (ap (map view) (take_all i ks le)) h w
