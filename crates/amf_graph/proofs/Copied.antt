-- Copies under new numbers, one more.
use Rattle.std.proofs.Common.{◌≡◌, ℕ, zero, suc, ◌+◌, ◌<◌, false, List, [], ◌∷◌, ◌++◌, length, map, take, get_or, slice_get, Some, sym, refl, ap, ◌∙◌, arith, add-one}
use Rattle.std.specs.List.{AllByRecursion}
use Rattle.std.proofs.Math.Seq.{take-suc}
use Rattle.std.proofs.lemmas.List.{map-append}
use Rattle.std.proofs.lemmas.Option.{slice_get_within, get_or_from_slice_get}
use Rattle.amf_graph.specs.declared.value.Value.{Value as Stored}
use Rattle.amf_graph.specs.declared.value.TextId.{TextId}
use Rattle.amf_graph.specs.declared.body.Body.{Body}
use Rattle.amf_graph.specs.declared.held.Held.{Held}
use Rattle.amf_graph.specs.Bodies.{body_head, body_names, body_values, body_node}
use Rattle.amf_graph.specs.Held.{held_head, held_names, held_values, held_node}
use Rattle.amf_graph.specs.Views.{named, flat}
use Rattle.amf_graph.specs.Grafting.{Renaming, renamed_value, renamed_values, renamed_names, renamed_head, renamed_node}
use Rattle.amf_graph.proofs.Entries.{flat_push}
use Rattle.amf_graph.proofs.HeldParts as parts

pub named_at : (P : ℕ × Stored → Type 0) (ps : List (TextId × Stored)) (i : ℕ) (d : TextId × Stored) → AllByRecursion P (named ps) → i < length ps → P ((get_or ps i d).0.0, (get_or ps i d).1)
named_at P [] i d h l = absurd (omega arith)
named_at P (p ∷ ps) zero d h l = h.0
named_at P (p ∷ ps) (suc i) d h l = named_at P ps i d h.1 (omega arith)

pub entry_more : (r : Renaming) (es copies : List (Stored × Stored)) (i : ℕ) (d : Stored × Stored) → i < length es → flat copies ≡ renamed_values r (flat (take i es)) → flat (copies ++ (renamed_value r (get_or es i d).0, renamed_value r (get_or es i d).1) ∷ []) ≡ renamed_values r (flat (take (i + 1) es))
entry_more r es copies i d l e =
    flat_push copies (renamed_value r (get_or es i d).0) (renamed_value r (get_or es i d).1)
    ∙ ap (λ w. w ++ renamed_value r (get_or es i d).0 ∷ renamed_value r (get_or es i d).1 ∷ []) e
    ∙ sym (map-append (renamed_value r) (flat (take i es)) ((get_or es i d).0 ∷ (get_or es i d).1 ∷ []))
    ∙ ap (renamed_values r) (sym (parts.entry_more es i d l))

pub map_more : {X Y : Type 0} (f : X → Y) (xs : List X) (i : ℕ) (x : X) (copies : List Y) → slice_get xs i ≡ Some x → copies ≡ map f (take i xs) → copies ++ f x ∷ [] ≡ map f (take (i + 1) xs)
map_more f xs i x copies e h =
    ap (λ w. w ++ f x ∷ []) h ∙ sym (map-append f (take i xs) (x ∷ []))
    ∙ ap (λ w. map f (take i xs ++ w ∷ [])) (sym (get_or_from_slice_get xs i x x e))
    ∙ ap (map f) (rw add-one (sym (take-suc xs i x (slice_get_within xs i x e))))

pub id_at : (P : ℕ → Type 0) (xs : List TextId) (i : ℕ) (d : TextId) → AllByRecursion P (map (λ x. x.0) xs) → i < length xs → P (get_or xs i d).0
id_at P [] i d h l = absurd (omega arith)
id_at P (x ∷ xs) zero d h l = h.0
id_at P (x ∷ xs) (suc i) d h l = id_at P xs i d h.1 (omega arith)

pub ids_more : (f : ℕ → ℕ) (xs copies : List TextId) (k : ℕ) (d y : TextId) → k < length xs → y.0 ≡ f (get_or xs k d).0 → map (λ x. x.0) copies ≡ map f (map (λ x. x.0) (take k xs)) → map (λ x. x.0) (copies ++ y ∷ []) ≡ map f (map (λ x. x.0) (take (k + 1) xs))
ids_more f xs copies k d y l e h =
    map-append (λ x. x.0) copies (y ∷ [])
    ∙ ap (λ w. w ++ y.0 ∷ []) h
    ∙ ap (λ w. map f (map (λ (x : TextId). x.0) (take k xs)) ++ w ∷ []) e
    ∙ rw (add-one, take-suc xs k d l, map-append, map-append) refl

-- a node is copied with its head, names and values
pub body_copied : (r : Renaming) (h : Held) (copy : Body) → body_head copy ≡ renamed_head r (held_head h) → body_names copy ≡ renamed_names r (held_names h) → body_values copy ≡ renamed_values r (held_values h) → body_node false copy ≡ renamed_node r (held_node false h)
body_copied r b copy h n v =
    ap (λ z. record { is_open = false; head = z; names = body_names copy; values = body_values copy }) h
    ∙ ap (λ z. record { is_open = false; head = renamed_head r (held_head b); names = z; values = body_values copy }) n
    ∙ ap (λ z. record { is_open = false; head = renamed_head r (held_head b); names = renamed_names r (held_names b); values = z }) v
