-- What is read of one value alone, from what the reader of AMF 0 answers.
use Rattle.std.proofs.Common.{◌≡◌, ℕ, ◌<◌, ◌^◌, false, List, [], ◌∷◌, ◌++◌, length, Result, Ok, Err, sym, ◌∙◌, subst, arith}
use Rattle.std.specs.List.{AllByRecursion}
use Rattle.std.specs.Result.{IsErrAnd}
use Rattle.amf_io.specs.Field.{AreBytes}
use Rattle.amf_io.specs.ReadEnds.{CountsEnd}
use Rattle.amf_io.specs.Verdict.{IsRefused}
use Rattle.amf_io.proofs.Bytes.{bytes_front}
use Rattle.amf3_spelling.specs.Reads3.{Grows}
use Rattle.amf_io.specs.declared.ends.ReadEnd.{ReadEnd}
use Rattle.amf_io.specs.declared.ends.ReadEnd.TheVariants.{Refused, ReadFault, Memory}
use Rattle.amf_io.specs.Stretch.{AnswersOf, stretch}
use Rattle.amf_graph.specs.Arena.{Arena, IsFinished}
use Rattle.amf_graph.specs.Building.{no_arena}
use Rattle.amf_graph.specs.Rooted.{RootedArena}
use Rattle.amf_graph.proofs.FinishedSmall.{completes_itself}
use Rattle.amf3_layout_laws.proofs.Values3Layout.{no_arena_built}
use Rattle.amf0_layout_laws.proofs.Layout0Format.{answered0}
use Rattle.amf0_spelling.specs.KeptTables0.{KeptTables0, no_kept_tables0, tables0_of}
use Rattle.amf0_spelling.specs.Reads0.{IsReading0}
use Rattle.amf0_spelling.specs.Values0.{IsValue0}
use Rattle.flv_meta.specs.File.{Tag, IsTag, number24}
use Rattle.amf0_read.specs.Answer0.{IsReadWith}
use Rattle.amf0_read.specs.declared.formed.Read0.{Read0}
use Rattle.flv_meta.specs.MetadataAnswer.{AnswersValue}

abbrev pub Answered : Type 0 → Arena → KeptTables0 → Arena → KeptTables0 → List ℕ → List ℕ → ℕ → ℕ → ℕ → Result Read0 ReadEnd → Type 0
Answered told a t b u input rest at place limit r = AnswersOf (λ x fs. IsReadWith a t fs b u x) (IsReading0 a t) (stretch told input rest at place limit) r

all_closed : (b : Arena) → Grows no_arena b → AllByRecursion (λ n. n.is_open ≡ false) b.nodes
all_closed b g = subst (λ ns. AllByRecursion (λ n. n.is_open ≡ false) ns) (sym g.nodes) g.closed

-- the builder and the tables held nothing
pub from_nothing : (told : Type 0) (a b : Arena) (t u : KeptTables0) (input rest : List ℕ) (at place limit : ℕ) (r : Result Read0 ReadEnd) → a ≡ no_arena → t ≡ no_kept_tables0 → Answered told a t b u input rest at place limit r → Answered told no_arena no_kept_tables0 b u input rest at place limit r
from_nothing told a b t u input rest at place limit r e h w =
    subst (λ x. Answered told x no_kept_tables0 b u input rest at place limit r) e (subst (λ x. Answered told a x b u input rest at place limit r) h w)

-- nothing is open behind what was read
pub closed_behind : (told : Type 0) (b : Arena) (u : KeptTables0) (x : Read0) (input rest : List ℕ) (at place limit : ℕ) → Answered told no_arena no_kept_tables0 b u input rest at place limit (Ok x) → AllByRecursion (λ n. n.is_open ≡ false) b.nodes
closed_behind told b u x input rest at place limit r = all_closed b r.read.read.grows

pub value_read : (b : Arena) (u : KeptTables0) (x : Read0) (bytes input rest : List ℕ) (at place limit : ℕ) → input ≡ bytes → Answered (Unit {0}) no_arena no_kept_tables0 b u input rest at place limit (Ok x) → AnswersValue bytes (Ok (record { arena = b; root = x.value }))
value_read b u x bytes input rest at place limit same r =
    let read = r.read.read in
    let finished : IsFinished b = record { built = read.built no_arena_built; closed = all_closed b read.grows } in
    record { fields = r.fields; spelled = (tables0_of b u, read.spelled b (completes_itself b finished)); rest = rest; parts = sym same ∙ r.parts tt }

pub value_ended : (b : Arena) (u : KeptTables0) (bytes input rest : List ℕ) (at place limit : ℕ) (e : ReadEnd) → input ≡ bytes → at ≡ 0 → limit ≡ length bytes → CountsEnd 0 0 e → Answered (Unit {0}) no_arena no_kept_tables0 b u input rest at place limit (Err e) → AnswersValue bytes (Err e)
value_ended b u bytes input rest at place limit (Refused f) same first last counts r =
    subst (λ l. IsRefused IsValue0 0 (length bytes) l f.reason f.at) same (subst (λ n. IsRefused IsValue0 0 n input f.reason f.at) last (subst (λ n. IsRefused IsValue0 n limit input f.reason f.at) first
    (answered0 (λ x fs. IsReadWith no_arena no_kept_tables0 fs b u x) (stretch (Unit {0}) input rest at place limit) (Err (Refused f)) r tt)))
value_ended b u bytes input rest at place limit ReadFault same first last counts r = let rose = counts.1 in absurd (omega arith)
value_ended b u bytes input rest at place limit Memory same first last counts r = tt

pub value_passed : (bytes : List ℕ) (r : Result RootedArena ReadEnd) (e : ReadEnd) → IsErrAnd r (λ x. x ≡ e) → AnswersValue bytes (Err e) → AnswersValue bytes r
value_passed bytes (Ok x) e h a = absurd h
value_passed bytes (Err x) e h a = subst (λ (k : ReadEnd). AnswersValue bytes (Err k)) (sym h) a

-- The bytes behind the name.

pub number24_small : (s : List ℕ) → length s ≡ 3 → AreBytes s → number24 s < 2 ^ 24
number24_small [] e h = absurd (omega arith)
number24_small (a ∷ []) e h = absurd (omega arith)
number24_small (a ∷ b ∷ []) e h = absurd (omega arith)
number24_small (a ∷ b ∷ c ∷ []) e h = let x = h.0 in let y = h.1.0 in let z = h.1.1.0 in omega arith
number24_small (a ∷ b ∷ c ∷ d ∷ s) e h = absurd (omega arith)

pub body_small : (t : Tag) → IsTag t → length t.body < 2 ^ 24
body_small t h =
    let all = h.bytes in
    let size = bytes_front t.size (t.time ++ (t.stream ++ (t.body ++ t.number))) all.1 in
    let n = number24_small t.size h.size size in
    let e = h.body in
    omega arith
