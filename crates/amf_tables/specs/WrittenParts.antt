-- What a writer's table of traits keeps, and the entries by content that it stands for. A device of proofs.
use Rattle.std.specs.Prelude.{◌≡◌, ℕ, Bool, List, [], ◌∷◌, ◌++◌, map, Option, MatchOption}
use Rattle.std.specs.List.{AllByRecursion}
use Rattle.amf_graph.specs.declared.views.TraitsView.{TraitsView}
use Rattle.amf_graph.specs.declared.wrapped.Wrapped.{Wrapped}
use Rattle.amf_graph.specs.Arena.{Arena, traits_content}
use Rattle.amf_graph.specs.Building.{stored_traits}
use Rattle.amf_graph.specs.Graph.{Traits}
use Rattle.amf3_spelling.specs.Tables.{Entry, plain, external}
use Rattle.amf_tables.specs.TextCodes.{text_of, IsCode}

-- a class with members by the codes of its texts, or by copies of them; an externalizable class
pub data Written : Type 0 where
  coded : (class : ℕ) (dynamic : Bool) (sealed : List ℕ) → Written
  copied : (t : Traits) → Written
  wrapped : (class : Wrapped) → Written

-- over these texts
abbrev pub entry_of : List (List ℕ) → Written → Entry
entry_of texts (coded class dynamic sealed) = plain (record { class = text_of texts class; dynamic = dynamic; sealed = map (text_of texts) sealed })
entry_of texts (copied t) = plain t
entry_of texts (wrapped c) = external c

-- its codes are those of texts
abbrev pub IsWritten : List (List ℕ) → Written → Type 0
IsWritten texts (coded class dynamic sealed) = IsCode texts class × AllByRecursion (IsCode texts) sealed
IsWritten texts (copied t) = Unit {0}
IsWritten texts (wrapped c) = Unit {0}

abbrev pub IsNoCopy : Written → Type 0
IsNoCopy (coded class dynamic sealed) = Unit {0}
IsNoCopy (copied t) = ⊥
IsNoCopy (wrapped c) = Unit {0}

-- traits that a graph shows, by content
abbrev pub shown_traits : Arena → TraitsView → Traits
shown_traits a t = traits_content a (stored_traits t.class t.dynamic t.sealed.now)

-- it stands for this entry, by codes alone
pub record IsWrittenFor (texts : List (List ℕ)) (e : Entry) (w : Written) : Type 0 where
  pub same : entry_of texts w ≡ e
  pub codes : IsWritten texts w
  pub own : IsNoCopy w

-- nothing does
abbrev pub IsUnwritten : List (List ℕ) → Entry → Type 0
IsUnwritten texts e = (w : Written) → IsWrittenFor texts e w → ⊥

-- what stands for it by codes alone, or none where nothing does
abbrev pub IsFoundFor : List (List ℕ) → Entry → Option Written → Type 0
IsFoundFor texts e found = MatchOption found (IsUnwritten texts e) (IsWrittenFor texts e)

-- one more entry behind all stands for this one
abbrev pub IsPushed : List (List ℕ) → List Written → Entry → List Written → Type 0
IsPushed texts old e new = (w : Written) × (new ≡ old ++ w ∷ []) × (entry_of texts w ≡ e) × IsWritten texts w
