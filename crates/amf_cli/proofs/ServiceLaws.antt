-- The services of a registry that was made of those that are shipped.
use Rattle.std.proofs.Common.{◌≡◌, ℕ, Bool, List, [], ◌∷◌, ◌++◌, map, refl, sym, ap, ◌∙◌, subst}
use Rattle.std.specs.declared.dyn_box.DynBox.{DynBox}
use Rattle.amf_io.specs.declared.sink.Sink.{Ghosts as SinkMembers}
use Rattle.amf_io.specs.declared.link.Link.{Ghosts as LinkMembers}
use Rattle.amf_io.specs.declared.front.Front.{Ghosts as FrontMembers}
use Rattle.amf_graph.specs.Graph.{Graph}
use Rattle.amf_service.specs.Meaning.{Given, Meanings}
use Rattle.amf_service.specs.Registry.{Entry}
use Rattle.amf_service.specs.ServiceLaws.{ServiceLaws}
use Rattle.amf_service.specs.Shipped.{echo_name, echoed, sum_name, summed, names_name, named, of_one, shipped}
use Rattle.amf_answer_plan.specs.RespondLaws.{AreLawful}
use Rattle.amf_answer_plan.specs.Services.{services_by}
use Rattle.amf_gateway.specs.Tells.{HallMembers}
use Rattle.amf_cli.specs.ServesWords.{ServesWords}
use Rattle.amf_cli.proofs.FrontLaws.{serves_by}

-- by the names that its list had
by_given : {K S : Type 0} (name : K → List ℕ) (knows : S → List ℕ → Bool) (gives : S → List ℕ → Graph → Given) (es : List (K × S)) → services_by es name knows gives ≡ services_by (map (λ e. (name e.0, e.1)) es) (λ x. x) knows gives
by_given name knows gives [] = refl
by_given name knows gives (e ∷ es) = ap (λ (rest : List Entry). record { name = name e.0; means = record { knows = knows e.1; gives = gives e.1 } } ∷ rest) (by_given name knows gives es)

abbrev three_entries : List ℕ → Meanings → List ℕ → Meanings → List ℕ → Meanings → List Entry
three_entries x a y b z d = record { name = x; means = a } ∷ record { name = y; means = b } ∷ record { name = z; means = d } ∷ []

-- Boxes by the types of what they hold.
module _ {X A : Type 0} {V : X → Type 0} where
  -- a box of a value of that type
  abbrev of_type : DynBox X A V → (v : X) → V v → DynBox X A V
  of_type b v y = record { ptr = b.ptr; vtable = v; alloc = b.alloc; value = y }

  -- what holds of all of that type holds of the box
  of_box : {Y : Type 0} (k : DynBox X A V → Y) (f : Y) (b : DynBox X A V) (v : X) → b.vtable ≡ v → ((y : V v) → k (of_type b v y) ≡ f) → k b ≡ f
  of_box k f b v is at = subst (λ (x : X). (y : V x) → k (of_type b x y) ≡ f) (sym is) at b.value

  module _ {K : Type 0} (name : K → List ℕ) (knows : DynBox X A V → List ℕ → Bool) (gives : DynBox X A V → List ℕ → Graph → Given) where
    abbrev meant : DynBox X A V → Meanings
    meant b = record { knows = knows b; gives = gives b }

    shipped_by : (es : List (K × DynBox X A V)) (none one two three : List (List ℕ × DynBox X A V)) (x y z : List ℕ) (a b d : DynBox X A V) (u v w : X) → map (λ e. (name e.0, e.1)) es ≡ three → none ≡ [] → one ≡ none ++ (x, a) ∷ [] → two ≡ one ++ (y, b) ∷ [] → three ≡ two ++ (z, d) ∷ [] → x ≡ echo_name → y ≡ sum_name → z ≡ names_name → a.vtable ≡ u → b.vtable ≡ v → d.vtable ≡ w → ((i : V u) → meant (of_type a u i) ≡ of_one echo_name echoed) → ((i : V v) → meant (of_type b v i) ≡ of_one sum_name summed) → ((i : V w) → meant (of_type d w i) ≡ of_one names_name named) → services_by es name knows gives ≡ shipped
    shipped_by es none one two three x y z a b d u v w made empty first second third is_x is_y is_z is_a is_b is_d echoes sums lists =
        let front : one ≡ (x, a) ∷ [] = first ∙ ap (λ (l : List (List ℕ × DynBox X A V)). l ++ (x, a) ∷ []) empty in
        let more : two ≡ (x, a) ∷ (y, b) ∷ [] = second ∙ ap (λ (l : List (List ℕ × DynBox X A V)). l ++ (y, b) ∷ []) front in
        let all : three ≡ (x, a) ∷ (y, b) ∷ (z, d) ∷ [] = third ∙ ap (λ (l : List (List ℕ × DynBox X A V)). l ++ (z, d) ∷ []) more in
        let at_a : meant a ≡ of_one echo_name echoed = of_box meant (of_one echo_name echoed) a u is_a echoes in
        let at_b : meant b ≡ of_one sum_name summed = of_box meant (of_one sum_name summed) b v is_b sums in
        let at_d : meant d ≡ of_one names_name named = of_box meant (of_one names_name named) d w is_d lists in
        by_given name knows gives es
        ∙ ap (λ (l : List (List ℕ × DynBox X A V)). services_by l (λ n. n) knows gives) (made ∙ all)
        ∙ ap (λ (n : List ℕ). three_entries n (meant a) y (meant b) z (meant d)) is_x
        ∙ ap (λ (m : Meanings). three_entries echo_name m y (meant b) z (meant d)) at_a
        ∙ ap (λ (n : List ℕ). three_entries echo_name (of_one echo_name echoed) n (meant b) z (meant d)) is_y
        ∙ ap (λ (m : Meanings). three_entries echo_name (of_one echo_name echoed) sum_name m z (meant d)) at_b
        ∙ ap (λ (n : List ℕ). three_entries echo_name (of_one echo_name echoed) sum_name (of_one sum_name summed) n (meant d)) is_z
        ∙ ap (λ (m : Meanings). three_entries echo_name (of_one echo_name echoed) sum_name (of_one sum_name summed) names_name m) at_d

-- what is served by a registry of them is served by the services that are shipped
pub serves_shipped : {F H L O K X A : Type 0} {V : X → Type 0} (f : FrontMembers F H L) (h : HallMembers H L) (l : LinkMembers L) (o : SinkMembers O) (words : List (List ℕ)) (status : ℕ) (front back : F) (out wrote : O) (name : K → List ℕ) (knows : DynBox X A V → List ℕ → Bool) (gives : DynBox X A V → List ℕ → Graph → Given) (es : List (K × DynBox X A V)) → ServesWords f h l o (services_by es name knows gives) words status front back out wrote → (none one two three : List (List ℕ × DynBox X A V)) (x y z : List ℕ) (a b d : DynBox X A V) (u v w : X) → map (λ e. (name e.0, e.1)) es ≡ three → none ≡ [] → one ≡ none ++ (x, a) ∷ [] → two ≡ one ++ (y, b) ∷ [] → three ≡ two ++ (z, d) ∷ [] → x ≡ echo_name → y ≡ sum_name → z ≡ names_name → a.vtable ≡ u → b.vtable ≡ v → d.vtable ≡ w → ((i : V u) → meant name knows gives (of_type a u i) ≡ of_one echo_name echoed) → ((i : V v) → meant name knows gives (of_type b v i) ≡ of_one sum_name summed) → ((i : V w) → meant name knows gives (of_type d w i) ≡ of_one names_name named) → ServesWords f h l o shipped words status front back out wrote
serves_shipped f h l o words status front back out wrote name knows gives es serves none one two three x y z a b d u v w made empty first second third is_x is_y is_z is_a is_b is_d echoes sums lists =
    serves_by f h l o (services_by es name knows gives) shipped words status front back out wrote (shipped_by name knows gives es none one two three x y z a b d u v w made empty first second third is_x is_y is_z is_a is_b is_d echoes sums lists) serves

-- the services that are shipped obey the law of services
pub shipped_lawful : ServiceLaws → AreLawful shipped
shipped_lawful laws = (laws.echo, (laws.sum, (laws.names, tt)))
