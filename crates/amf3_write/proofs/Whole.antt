-- What was taken out and put back, and a graph as the part that its root is.
use Rattle.std.proofs.Common.{◌≡◌, ℕ, true, false, List, [], ◌∷◌, length, take, OnOk, append-nil, sym, refl, ap, ◌∙◌, subst}
use Rattle.std.specs.Prelude.{Result, Ok, Err, OnErr, is_err}
use Rattle.std.proofs.lemmas.List.{take_at}
use Rattle.amf_graph.specs.declared.lack.Lack.{Lack}
use Rattle.amf_graph.specs.Graph.{Value, Graph}
use Rattle.amf3_spelling.specs.Tables.{Tables, no_tables}
use Rattle.amf3_spelling.specs.ByteSpelling.{value}
use Rattle.amf3_write.specs.declared.output.Output.{Output}
use Rattle.amf3_write.specs.Written.{AppendsCanonical, AppendsPart}
use Rattle.amf3_write.specs.PartLacks.{HasUnnamed}
use Rattle.amf3_write.specs.Writes.{BeginsWith, HasFront, Stops}

pub written_whole : (g : Graph) (v : Value) (t t' : Tables) (old new : List ℕ) → t ≡ no_tables → v ≡ g.root → AppendsPart g v t t' old new → AppendsCanonical g old new
written_whole g v t t' old new e r h =
    let k : AppendsPart g g.root no_tables t' old new = subst (λ w. AppendsPart g w no_tables t' old new) r (subst (λ w. AppendsPart g v w t' old new) e h) in
    (k.0, (t', k.1), k.2)

-- where a writer of a value stops, the value leads to a node with an empty name
pub stops_at : (g : Graph) (v : Value) (o : Output) (t : Tables) (l : Lack) → o.tables ≡ t → Stops g (value v ∷ []) o l → HasUnnamed g v t.done
stops_at g v o t l e s = subst (λ (w : Tables). HasUnnamed g v w.done) e (record { node = s.node; unnamed = s.unnamed; is_met = λ all w. (l.node, s.later, s.place all w) })

pub taken_back : (old new : List ℕ) (start : ℕ) → start ≡ length old → BeginsWith old new → take start new ≡ old
taken_back old new start e b = ap (λ w. take start w) b.is ∙ take_at old b.rest start (sym e)

pub begins_itself : (old : List ℕ) → BeginsWith old old
begins_itself old = record { rest = []; is = sym (append-nil old) }

pub own_front : (o : Output) (t : Tables) (old : List ℕ) → o.tables ≡ t → o.bytes.items ≡ old → HasFront (record { bytes = old; nodes = t.nodes }) o
own_front o t old e b = record { bytes = subst (λ w. BeginsWith w o.bytes.items) b (begins_itself o.bytes.items); nodes = subst (λ (w : Tables). BeginsWith w.nodes o.tables.nodes) e (begins_itself o.tables.nodes) }

pub on_ok_then : {T E : Type 0} (P Q : Type 0) (r : Result T E) → (is_err r ≡ false → P → Q) → OnOk r P → OnOk r Q
on_ok_then P Q (Ok v) f h = f refl h
on_ok_then P Q (Err x) f h = tt

pub on_err_then : {T E : Type 0} (Q : Type 0) (r : Result T E) → (is_err r ≡ true → Q) → OnErr r Q
on_err_then Q (Ok v) f = tt
on_err_then Q (Err x) f = f refl
