-- A pair is put into the open holder, behind its value.
use Rattle.std.proofs.Common.{◌≡◌, ℕ, zero, suc, ◌+◌, ◌^◌, ◌≤◌, ◌<◌, true, false, List, [], ◌∷◌, ◌++◌, length, set, get_or, refl, sym, ap, ◌∙◌, arith, subst}
use Rattle.std.proofs.lemmas.List.{append-nil}
use Rattle.std.specs.List.{AllByRecursion}
use Rattle.amf_graph.specs.declared.value.Value.{Value as Stored}
use Rattle.amf_graph.specs.declared.value.TextId.{TextId}
use Rattle.amf_graph.specs.declared.part.Part.TheVariants.{Named}
use Rattle.amf_graph.specs.Graph as graph
use Rattle.amf_graph.specs.Arena.{Arena, StoredNode, IsBuilt, IsTextId, Names, head_content}
use Rattle.amf_graph.specs.Building.{stored_at, changed, shut, more_part, Takes, HasRoom, IsFirstOpen, size_of, no_stored}
use Rattle.amf3_spelling.specs.KeptTables.{KeptTables, AreTablesIn}
use Rattle.amf3_spelling.specs.Reads3.{Grows}
use Rattle.amf3_layout_laws.proofs.Reader3Tables.{grows_itself}
use Rattle.amf3_read.specs.Filling.{IsOpened, with_more}
use Rattle.amf3_read.proofs.PartPut.{there, stays, still_open, same_head, put_node, put_built, put_tables, put_opened, put_head, put_nodes, more_size}
use Rattle.amf_sol.specs.FileLayout.{holder_arena}
use Rattle.amf_sol.specs.FileReading.{IsOpenHolder}

abbrev holder_head : graph.Head
holder_head = graph.object (record { class = []; dynamic = true; sealed = [] })

-- a holder that has just been opened
pub holder_new : (left : ℕ) → left < 2 ^ 27 → IsOpenHolder holder_arena left
holder_new left lt = record {
  opened = record { before = record { texts = holder_arena.texts; traits = holder_arena.traits; nodes = [] }; within = grows_itself holder_arena; place = refl; opened = refl; room = omega arith };
  head = refl;
  unsealed = refl;
}

module _ (a b : Arena) (l : ℕ) (h : IsOpenHolder a l) (g : Grows a b) (built : IsBuilt a) where
  abbrev o : IsOpened a 0 l
  o = h.opened

  pub holder_there : 0 < length b.nodes
  holder_there = there 0 l a b o g

  pub holder_open : (stored_at b 0).is_open ≡ true
  holder_open = still_open 0 l a b o g

  head_now : head_content b (stored_at b 0).head ≡ holder_head
  head_now = same_head 0 l a b o g built ∙ h.head

  pub holder_room : (x : TextId) (v : Stored) → HasRoom b (stored_at b 0) (Named x v)
  holder_room x v = subst (λ q. Takes q (length (stored_at b 0).values) (Named x v)) (sym head_now) refl

  pub not_full : 268435455 ≤ size_of (stored_at b 0) → ⊥
  not_full le = let s = ap size_of (stays 0 l a b o g) in let r = o.room in omega arith

  module _ (x : TextId) (v : Stored) (b1 : Arena) (is : b1 ≡ changed (more_part (Named x v)) 0 b) where
    node : stored_at b1 0 ≡ with_more (stored_at a 0) ((x.0, v) ∷ []) []
    node = put_node 0 l a b o g (Named x v) b1 is

    pub holder_more : (left : ℕ) → left + 1 ≤ l → IsOpenHolder b1 left
    holder_more left le = record {
      opened = put_opened 0 l a b o g (Named x v) b1 is left (let s = ap size_of node in let m = more_size (stored_at a 0) ((x.0, v) ∷ []) [] in omega arith);
      head = put_head 0 l a b o g (Named x v) b1 is built ∙ h.head;
      unsealed = ap (λ (n : StoredNode). n.values) node ∙ append-nil (stored_at a 0).values ∙ h.unsealed;
    }

    pub holder_built : IsBuilt b → IsTextId b x.0 → Names b v → IsBuilt b1
    holder_built k t n = put_built 0 l a b o g (Named x v) b1 is k (holder_room x v) (t, n)

    pub holder_tables : (u : KeptTables) → IsBuilt b → AreTablesIn b u → AreTablesIn b1 u
    holder_tables u k t = put_tables 0 l a b o g (Named x v) b1 is u k t

    pub holder_nodes : length b1.nodes ≡ length b.nodes
    holder_nodes = put_nodes 0 l a b o g (Named x v) b1 is

    pub holder_texts : length b1.texts ≡ length b.texts
    holder_texts = ap (λ (z : Arena). length z.texts) is

    pub holder_traits : length b1.traits ≡ length b.traits
    holder_traits = ap (λ (z : Arena). length z.traits) is

-- The holder is closed.

closed_at : (ns : List StoredNode) → AllByRecursion (λ n. n.is_open ≡ false) ns → (j : ℕ) → (get_or ns j no_stored).is_open ≡ false
closed_at [] h j = refl
closed_at (n ∷ ns) h zero = h.0
closed_at (n ∷ ns) h (suc j) = closed_at ns h.1 j

all_shut : (bs more nodes : List StoredNode) (n m : StoredNode) → 0 ≡ length bs → nodes ≡ (bs ++ n ∷ []) ++ more → AllByRecursion (λ n. n.is_open ≡ false) more → (i : ℕ) → (get_or (set nodes 0 (shut m)) i no_stored).is_open ≡ false
all_shut [] more nodes n m e is h i = subst (λ l. (get_or (set l 0 (shut m)) i no_stored).is_open ≡ false) (sym is) (by i)
  where
    by : (i : ℕ) → (get_or (set (n ∷ more) 0 (shut m)) i no_stored).is_open ≡ false
    by zero = refl
    by (suc j) = closed_at more h j
all_shut (b ∷ bs) more nodes n m e is h i = absurd (omega arith)

module _ (a : Arena) (h : IsOpenHolder a 0) where
  pub nothing_open : (b : Arena) (i : ℕ) → b ≡ changed shut 0 a → IsFirstOpen b i → ⊥
  nothing_open b i is f =
      let o = h.opened in
      let w = o.within in
      let closed : (stored_at b i).is_open ≡ false = ap (λ (z : Arena). (stored_at z i).is_open) is ∙ all_shut o.before.nodes w.more_nodes a.nodes (stored_at a 0) (stored_at a 0) o.place w.nodes w.closed i in
      let clash : true ≡ false = sym f.opened ∙ closed in
      cc
