-- The bodies of a batch are spelled one after another.
use Rattle.std.proofs.Common.{◌≡◌, ◌∙◌, ℕ, ◌+◌, ◌<◌, List, [], ◌∷◌, ◌++◌, length, take, get_or, append-nil, refl, sym, ap, subst}
use Rattle.std.proofs.lemmas.List.{map-append}
use Rattle.amf_io.specs.Field.{flat}
use Rattle.amf_graph.specs.declared.value.Value.{Value as Stored}
use Rattle.amf_graph.specs.Graph.{Graph}
use Rattle.amf_graph.specs.Arena.{Arena, value_content, graph_of}
use Rattle.amf_graph.specs.Rooted.{RootedArena, content}
use Rattle.amf3_write.specs.Written.{AppendsCanonical}
use Rattle.flex_msgs.proofs.Partly.{one_more}
use Rattle.amf_poll_session.specs.Listened.{Spells}
use Rattle.amf_poll_session.specs.Steps.{bodies_at}
use Rattle.amf_poll_session.proofs.Steps.{spells_more}

-- one body more
pub body_more : (g h : RootedArena) (bodies : List Stored) (k : ℕ) (d : Stored) (old new : List ℕ) → k < length bodies → h.arena ≡ g.arena → h.root ≡ get_or bodies k d
    → Spells (bodies_at g (take k bodies)) old → AppendsCanonical (content h) old new → Spells (bodies_at g (take (k + 1) bodies)) new
body_more g h bodies k d old new l arena root was is =
    let v : Stored = get_or bodies k d in
    let one : Graph = record (content g) { root = value_content g.arena v } in
    let same : content h ≡ one = ap (λ (a : Arena). graph_of a h.root) arena ∙ ap (λ (r : Stored). graph_of g.arena r) root in
    let a : AppendsCanonical one old new = subst (λ (x : Graph). AppendsCanonical x old new) same is in
    let list : bodies_at g (take (k + 1) bodies) ≡ bodies_at g (take k bodies) ++ one ∷ [] =
    ap (bodies_at g) (one_more bodies k d l) ∙ map-append (λ (w : Stored). record (content g) { root = value_content g.arena w }) (take k bodies) (v ∷ []) in
    subst (λ (xs : List Graph). Spells xs new) (sym list)
    (subst (λ (b : List ℕ). Spells (bodies_at g (take k bodies) ++ one ∷ []) b) (sym a.2)
    (spells_more (bodies_at g (take k bodies)) (one ∷ []) old (flat a.0) was (flat a.0, [], sym (append-nil (flat a.0)), (a.0, a.1, refl), refl)))
