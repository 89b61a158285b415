-- What was taken out and put back, and a graph as the part that its root is.
use Rattle.std.proofs.Common.{◌≡◌, ℕ, true, false, List, [], ◌∷◌, ◌++◌, length, take, OnOk, append-nil, sym, refl, ap, ◌∙◌, subst, inl, arith}
use Rattle.std.specs.Prelude.{Result, Ok, Err, OnErr, is_err}
use Rattle.std.proofs.lemmas.List.{take_at}
use Rattle.amf_io.specs.Field.{flat}
use Rattle.amf_wire.specs.Style.{canonical}
use Rattle.amf_graph.specs.Arena.{Names}
use Rattle.amf_graph.specs.Graph.{Value, Graph}
use Rattle.amf_graph.specs.Rooted.{RootedArena}
use Rattle.amf_graph.proofs.Lists.{no_entry}
use Rattle.amf3_spelling.specs.Tables.{Tables, no_tables}
use Rattle.amf0_spelling.specs.Spells0.{Spells0}
use Rattle.amf0_write.specs.declared.output.Output.{Output}
use Rattle.amf0_write.specs.Searched.{HasPartLack0}
use Rattle.amf0_write.specs.Unwritten0.{IsMetValue}
use Rattle.amf0_write.specs.Written0.{tables0, AreTables0, AppendsCanonical0, AppendsPart0}
use Rattle.amf0_write.specs.Writes0.{BeginsWith, value, Leads, Stops}
use Rattle.amf0_write.proofs.Leading0.{written_value}

pub taken_back : (old new : List ℕ) (start : ℕ) → start ≡ length old → BeginsWith old new → take start new ≡ old
taken_back old new start e b = ap (λ w. take start w) b.is ∙ take_at old b.rest start (sym e)

pub begins_itself : (old now : List ℕ) → now ≡ old → BeginsWith old now
begins_itself old now e = record { rest = []; is = e ∙ sym (append-nil old) }

pub on_ok_then : {T E : Type 0} (P Q : Type 0) (r : Result T E) → (is_err r ≡ false → P → Q) → OnOk r P → OnOk r Q
on_ok_then P Q (Ok v) f h = f refl h
on_ok_then P Q (Err x) f h = tt

pub on_err_then : {T E : Type 0} (Q : Type 0) (r : Result T E) → (is_err r ≡ true → Q) → OnErr r Q
on_err_then Q (Ok v) f = tt
on_err_then Q (Err x) f = f refl

pub part_written : (g : Graph) (v : Value) (o n : Output) (t t' : Tables) (old new : List ℕ) → o.tables ≡ t → o.bytes.items ≡ old → t' ≡ n.tables → new ≡ n.bytes.items → Leads g (value v ∷ []) [] o n → AppendsPart0 g v (tables0 t) (tables0 t') old new
part_written g v o n t t' old new e b f c h =
    let w = written_value g v o n h in
    (w.0, subst (λ (u : Tables). Spells0 canonical g v (tables0 u) w.0 (tables0 t')) e (subst (λ (u : Tables). Spells0 canonical g v (tables0 o.tables) w.0 (tables0 u)) (sym f) w.1), c ∙ w.2 ∙ ap (λ z. z ++ flat w.0) b)

pub part_sound : (g : Graph) (v : Value) (o n : Output) (t t' : Tables) → o.tables ≡ t → t' ≡ n.tables → AreTables0 g (tables0 t) → Leads g (value v ∷ []) [] o n → AreTables0 g (tables0 t')
part_sound g v o n t t' e f s h = subst (λ (u : Tables). AreTables0 g (tables0 u)) (sym f) (h.sound (subst (λ (u : Tables). AreTables0 g (tables0 u)) (sym e) s))

pub part_lacks : (g : Graph) (v : Value) (o : Output) (t : Tables) → o.tables ≡ t → Stops g (value v ∷ []) o → HasPartLack0 g v (tables0 t)
part_lacks g v o t e s = subst (λ (u : Tables). HasPartLack0 g v (tables0 u)) e (λ all again w. s (length o.tables.done) (omega arith) all again w)

-- A graph as a part.

pub root_met : (g : RootedArena) → Names g.arena g.root → IsMetValue g g.root
root_met g n = record { names = n; reached = inl refl }

pub none_written : (g : Graph) (t : Tables) → t ≡ no_tables → AreTables0 g (tables0 t)
none_written g t e = subst (λ (u : Tables). AreTables0 g (tables0 u)) (sym e) (record { once = λ j k i f h. absurd (no_entry j i f); outside = []; level = refl; loose = λ k i f h. absurd (no_entry k i f) })

pub written_whole : (g : Graph) (v : Value) (t t' : Tables) (old new : List ℕ) → t ≡ no_tables → v ≡ g.root → AppendsPart0 g v (tables0 t) (tables0 t') old new → AppendsCanonical0 g old new
written_whole g v t t' old new e r h =
    let k : AppendsPart0 g g.root (tables0 no_tables) (tables0 t') old new = subst (λ w. AppendsPart0 g w (tables0 no_tables) (tables0 t') old new) r (subst (λ (w : Tables). AppendsPart0 g v (tables0 w) (tables0 t') old new) e h) in
    (k.0, (tables0 t', k.1), k.2)
