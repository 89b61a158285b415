-- What is read of one value, from what the reader of AMF 0 answers.
use Rattle.std.proofs.Common.{◌≡◌, ℕ, suc, ◌<◌, Bool, true, false, List, [], ◌∷◌, length, Result, Ok, Err, refl, sym, ◌∙◌, subst, arith}
use Rattle.std.specs.Prelude.{IsTrue}
use Rattle.std.specs.List.{AllByRecursion}
use Rattle.std.specs.Result.{IsErrAnd}
use Rattle.amf_io.specs.declared.ends.ReadEnd.{ReadEnd}
use Rattle.amf_io.specs.declared.ends.ReadEnd.TheVariants.{Refused, ReadFault, Memory}
use Rattle.amf_io.specs.Field.{Field, flat}
use Rattle.amf_io.specs.Stretch.{AnswersOf, stretch}
use Rattle.amf_io.proofs.Ables.{path_some}
use Rattle.amf_io.specs.Layout.{give}
use Rattle.amf_graph.specs.Arena.{Arena, IsFinished}
use Rattle.amf_graph.specs.Building.{no_arena}
use Rattle.amf_graph.specs.Rooted.{RootedArena, content}
use Rattle.amf_graph.proofs.FinishedSmall.{completes_itself}
use Rattle.amf3_spelling.specs.Reads3.{Grows}
use Rattle.amf3_layout_laws.proofs.Values3Layout.{no_arena_built}
use Rattle.amf0_spelling.specs.KeptTables0.{KeptTables0, no_kept_tables0, tables0_of}
use Rattle.amf0_spelling.specs.Reads0.{IsReading0}
use Rattle.amf0_spelling.specs.Values0.{IsValue0}
use Rattle.amf0_layout_laws.specs.Layout0.{value0_layout}
use Rattle.amf0_layout_laws.specs.Layout0State.{state0_of}
use Rattle.amf0_layout_laws.proofs.Layout0Format.{values0_is_layout, reading_is_value0, answered0}
use Rattle.amf0_read.specs.Answer0.{IsReadWith}
use Rattle.amf0_read.specs.declared.formed.Read0.{Read0}
use Rattle.rtmp_listing.specs.Values.{IsReadFront, AnswersOne}

abbrev pub Answered : Type 0 → Arena → KeptTables0 → Arena → KeptTables0 → List ℕ → List ℕ → ℕ → ℕ → ℕ → Result Read0 ReadEnd → Type 0
Answered told a t b u input rest at place limit r = AnswersOf (λ x fs. IsReadWith a t fs b u x) (IsReading0 a t) (stretch told input rest at place limit) r

all_closed : (b : Arena) → Grows no_arena b → AllByRecursion (λ n. n.is_open ≡ false) b.nodes
all_closed b g = subst (λ ns. AllByRecursion (λ n. n.is_open ≡ false) ns) (sym g.nodes) g.closed

-- the builder and the tables held nothing
pub from_nothing : (told : Type 0) (a b : Arena) (t u : KeptTables0) (input rest : List ℕ) (at place limit : ℕ) (r : Result Read0 ReadEnd) → a ≡ no_arena → t ≡ no_kept_tables0 → Answered told a t b u input rest at place limit r → Answered told no_arena no_kept_tables0 b u input rest at place limit r
from_nothing told a b t u input rest at place limit r e h w =
    subst (λ x. Answered told x no_kept_tables0 b u input rest at place limit r) e (subst (λ x. Answered told a x b u input rest at place limit r) h w)

pub one_read : (b : Arena) (u : KeptTables0) (x : Read0) (input rest : List ℕ) (at place limit : ℕ) → Answered (Unit {0}) no_arena no_kept_tables0 b u input rest at place limit (Ok x) → IsReadFront (content (record { arena = b; root = x.value })) input rest at place
one_read b u x input rest at place limit r =
    let read = r.read.read in
    let finished : IsFinished b = record { built = read.built no_arena_built; closed = all_closed b read.grows } in
    record { fields = r.fields; spelled = (tables0_of b u, read.spelled b (completes_itself b finished)); accepted = reading_is_value0 r.fields r.accepted; parts = r.parts tt; taken = r.taken }

pub one_ended : (b : Arena) (u : KeptTables0) (input rest : List ℕ) (at place limit : ℕ) (e : ReadEnd) → Answered (Unit {0}) no_arena no_kept_tables0 b u input rest at place limit (Err e) → AnswersOne input rest at place limit (Err e)
one_ended b u input rest at place limit (Refused f) r = answered0 (λ x fs. IsReadWith no_arena no_kept_tables0 fs b u x) (stretch (Unit {0}) input rest at place limit) (Err (Refused f)) r tt
one_ended b u input rest at place limit ReadFault r = tt
one_ended b u input rest at place limit Memory r = tt

pub one_passed : (input rest : List ℕ) (at place limit : ℕ) (r : Result RootedArena ReadEnd) (e : ReadEnd) → IsErrAnd r (λ x. x ≡ e) → AnswersOne input rest at place limit (Err e) → AnswersOne input rest at place limit r
one_passed input rest at place limit (Ok x) e h a = absurd h
one_passed input rest at place limit (Err x) e h a = subst (λ (k : ReadEnd). AnswersOne input rest at place limit (Err k)) (sym h) a

-- a value has a byte
pub value_some : (fs : List Field) → IsValue0 fs → 0 < length (flat fs)
value_some [] v = let r = values0_is_layout.complete 1 [] v (omega arith) in let e = r.1 in absurd cc
value_some (f ∷ fs) v =
    let r = values0_is_layout.complete (suc (length (flat (f ∷ fs)))) (f ∷ fs) v (omega arith) in
    let some = path_some (value0_layout (suc (length (flat (f ∷ fs)))) false (state0_of no_arena no_kept_tables0)) (give r.0) f fs r.1 in
    omega (arith, some)

pub some_left : (over : Bool) (l : List ℕ) → over ≡ false → (l ≡ [] → IsTrue over) → 0 < length l
some_left over [] e h = let clash : true ≡ false = sym (h refl) ∙ e in absurd cc
some_left over (b ∷ l) e h = omega arith
