-- The parts of a node that were put onto the stack, in each graph whose arena has them. A device of proofs.
use Rattle.std.specs.Prelude.{ℕ, Bool, List, Result, OnOk}
use Rattle.amf_graph.specs.declared.value.Value.{Value as Stored}
use Rattle.amf_graph.specs.declared.value.TextId.{TextId}
use Rattle.amf_graph.specs.Graph.{Graph}
use Rattle.amf_graph.specs.Arena.{Arena, Names}
use Rattle.amf_graph.specs.Views.{flat}
use Rattle.amf_iso.specs.Contents.{pairs_of, AreValues, ArePairs}
use Rattle.amf_text_write.specs.declared.waiting.Piece.{Piece}
use Rattle.amf_text_write.specs.Names.{HavePlainNames, HavePlainKeys}
use Rattle.amf_text_write.specs.Pieces.{IsPiece, IsKey, Puts, two_tokens, named_tokens, values_tokens, entries_tokens, members_tokens, pairs_tokens, names_tokens}
use Rattle.amf_text_write.specs.Opening.{list_tokens, pairings_tokens, told_tokens}
use Rattle.amf_text_write.specs.Objects.{dynamic_tokens}

-- values, with so many levels left for the nodes in them
abbrev pub PutsValues : {T E : Type 0} → ℕ → List Stored → Result T E → List Piece → List Piece → Type 0
PutsValues n vs result old new = (g : Graph) (a : Arena) → AreValues a vs → OnOk result (Puts g a (values_tokens g a n vs) old new)

-- a piece and a value as a list of two
abbrev pub PutsTwo : {T E : Type 0} → ℕ → Piece → Stored → Result T E → List Piece → List Piece → Type 0
PutsTwo n p v result old new = (g : Graph) (a : Arena) → IsPiece a p → Names a v → OnOk result (Puts g a (two_tokens g a n p v) old new)

-- a named value as a member of an object
abbrev pub PutsNamed : {T E : Type 0} → ℕ → TextId → Stored → Result T E → List Piece → List Piece → Type 0
PutsNamed n id v result old new = (g : Graph) (a : Arena) → IsKey a id → Names a v → OnOk result (Puts g a (named_tokens g a n (id, v)) old new)

-- the keys of a dictionary with their values, as lists of two
abbrev pub PutsEntries : {T E : Type 0} → ℕ → List (Stored × Stored) → Result T E → List Piece → List Piece → Type 0
PutsEntries n es result old new = (g : Graph) (a : Arena) → AreValues a (flat es) → OnOk result (Puts g a (entries_tokens g a n es) old new)

-- named values as members of an object
abbrev pub PutsMembers : {T E : Type 0} → ℕ → List (TextId × Stored) → Result T E → List Piece → List Piece → Type 0
PutsMembers n ps result old new =
    (g : Graph) (a : Arena) → ArePairs a ps → HavePlainNames a ps → OnOk result (Puts g a (members_tokens g a n ps) old new)

-- and as lists of two
abbrev pub PutsPairs : {T E : Type 0} → ℕ → List (TextId × Stored) → Result T E → List Piece → List Piece → Type 0
PutsPairs n ps result old new = (g : Graph) (a : Arena) → ArePairs a ps → OnOk result (Puts g a (pairs_tokens g a n ps) old new)

-- the names of pairs as texts
abbrev pub PutsNames : {T E : Type 0} → List (TextId × Stored) → Result T E → List Piece → List Piece → Type 0
PutsNames ps result old new = (g : Graph) (a : Arena) → ArePairs a ps → OnOk result (Puts g a (names_tokens a ps) old new)

-- values as a list
abbrev pub PutsList : {T E : Type 0} → ℕ → List Stored → Result T E → List Piece → List Piece → Type 0
PutsList n vs result old new = (g : Graph) (a : Arena) → AreValues a vs → OnOk result (Puts g a (list_tokens g a n vs) old new)

-- the keys of a dictionary with their values, as a list
abbrev pub PutsEntryList : {T E : Type 0} → ℕ → List (Stored × Stored) → Result T E → List Piece → List Piece → Type 0
PutsEntryList n es result old new = (g : Graph) (a : Arena) → AreValues a (flat es) → OnOk result (Puts g a (pairings_tokens g a n es) old new)

-- named values as an object, whose keys the names are, or as a list of pairs
abbrev pub PutsTold : {T E : Type 0} → Bool → ℕ → List (TextId × Stored) → Result T E → List Piece → List Piece → Type 0
PutsTold are_keys n ps result old new =
    (g : Graph) (a : Arena) → ArePairs a ps → HavePlainKeys are_keys a ps → OnOk result (Puts g a (told_tokens g are_keys n (pairs_of a ps)) old new)

-- the further members of an object, where its class takes them
abbrev pub PutsDynamic : {T E : Type 0} → Bool → Bool → ℕ → List (TextId × Stored) → Result T E → List Piece → List Piece → Type 0
PutsDynamic dynamic are_keys n ps result old new =
    (g : Graph) (a : Arena) → ArePairs a ps → HavePlainKeys are_keys a ps
    → OnOk result (Puts g a (dynamic_tokens g dynamic are_keys n (pairs_of a ps)) old new)
