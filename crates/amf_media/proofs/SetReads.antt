-- The value that is set, as it is read, and what stands behind it.
use Rattle.std.proofs.Common.{◌≡◌, ℕ, ◌+◌, ◌≤◌, List, [], ◌++◌, length, Ok, Err, refl, ap, ◌∙◌, subst, arith}
use Rattle.amf_wire.specs.Style.{free}
use Rattle.amf_io.specs.declared.ends.ReadEnd.{ReadEnd}
use Rattle.amf_io.specs.declared.ends.ReadEnd.TheVariants as reader
use Rattle.amf_io.specs.Field.{Field, flat}
use Rattle.amf_io.specs.Stretch.{IsTaken, IsInterrupted, AnswersOf, stretch}
use Rattle.amf_io.specs.Verdict.{IsRefused}
use Rattle.amf_graph.specs.Arena.{Arena, IsFinished}
use Rattle.amf_graph.specs.Building.{no_arena}
use Rattle.amf_graph.specs.Graph.{Graph}
use Rattle.amf_graph.specs.Rooted.{RootedArena, content}
use Rattle.amf_graph.proofs.FinishedSmall.{completes_itself}
use Rattle.amf3_layout_laws.proofs.Values3Layout.{no_arena_built}
use Rattle.amf0_spelling.specs.KeptTables0.{KeptTables0, no_kept_tables0, tables0_of}
use Rattle.amf0_spelling.specs.Values0.{IsValue0}
use Rattle.amf0_spelling.specs.Spells0.{IsSpelling0}
use Rattle.amf0_layout_laws.proofs.Layout0Format.{reading_is_value0, answered0}
use Rattle.amf0_read.specs.Answer0.{IsReadWith}
use Rattle.amf0_read.specs.declared.formed.Read0.{Read0}
use Rattle.flv_meta.specs.File.{tag_bytes, metadata_tag}
use Rattle.flv_meta.specs.MetadataAnswer.{AppendsMetadata}
use Rattle.flv_meta.proofs.ValueReads.{Answered, closed_behind}
use Rattle.amf_media.specs.Ends.{end_of}
use Rattle.amf_media.specs.FlvValues.{most_of_value, BeginsWith, ValueEnds}
use Rattle.amf_media.specs.SetSteps.{IsStarted, IsStartEnd}

abbrev pub Spells : RootedArena → List Field → Type 0
Spells g fs = IsSpelling0 free (content g) fs

pub one_read : (told : Type 0) (b : Arena) (u : KeptTables0) (x : Read0) (input rest : List ℕ) (at place limit : ℕ) → Answered told no_arena no_kept_tables0 b u input rest at place limit (Ok x) → IsTaken (Spells (record { arena = b; root = x.value })) IsValue0 (stretch told input rest at place limit)
one_read told b u x input rest at place limit r =
    let read = r.read.read in
    let finished : IsFinished b = record { built = read.built no_arena_built; closed = closed_behind told b u x input rest at place limit r } in
    record { fields = r.fields; read = (tables0_of b u, read.spelled b (completes_itself b finished)); accepted = reading_is_value0 r.fields r.accepted; parts = r.parts; taken = r.taken; within = r.within }

pub one_ends : (told : Type 0) (b : Arena) (u : KeptTables0) (input rest : List ℕ) (at place limit : ℕ) (e : ReadEnd) → Answered told no_arena no_kept_tables0 b u input rest at place limit (Err e) → AnswersOf Spells IsValue0 (stretch told input rest at place limit) (Err e)
one_ends told b u input rest at place limit (reader.Refused f) h = answered0 (λ x fs. IsReadWith no_arena no_kept_tables0 fs b u x) (stretch told input rest at place limit) (Err (reader.Refused f)) h
one_ends told b u input rest at place limit reader.ReadFault h = answered0 (λ x fs. IsReadWith no_arena no_kept_tables0 fs b u x) (stretch told input rest at place limit) (Err reader.ReadFault) h
one_ends told b u input rest at place limit reader.Memory h = tt

pub value_ends : (told : Type 0) (y : told) (input rest : List ℕ) (at place limit : ℕ) (e : ReadEnd) → at ≡ 0 → limit ≡ most_of_value → AnswersOf Spells IsValue0 (stretch told input rest at place limit) (Err e) → ValueEnds input rest (end_of e)
value_ends told y input rest at place limit (reader.Refused f) z l h = subst (λ n. IsRefused IsValue0 n most_of_value input f.reason f.at) z (subst (λ n. IsRefused IsValue0 at n input f.reason f.at) l (h y))
value_ends told y input rest at place limit reader.ReadFault z l h = subst (λ n. IsInterrupted IsValue0 input rest n most_of_value) z (subst (λ n. IsInterrupted IsValue0 input rest at n) l (h y))
value_ends told y input rest at place limit reader.Memory z l h = tt

front_within : (at place limit size : ℕ) → at ≡ 0 → limit ≡ most_of_value → place ≡ at + size → place ≤ limit → size ≤ most_of_value
front_within at place limit size z l p w = omega arith

pub value_started : (told : Type 0) (y : told) (g : RootedArena) (old new input rest : List ℕ) (at place limit : ℕ) → at ≡ 0 → limit ≡ most_of_value → old ≡ [] → IsTaken (Spells g) IsValue0 (stretch told input rest at place limit) → AppendsMetadata (content g) old new → IsStarted new input rest place
value_started told y g old new input rest at place limit z l none i m = record {
  value = flat m.fields;
  front = flat i.fields;
  there = record { graph = content g; read = i.fields; spelled = i.read; is = refl; within = front_within at place limit (length (flat i.fields)) z l i.taken i.within; low = m.low; lowered = m.lowered; fields = m.fields; canonical_one = m.spelled; bytes = refl; fits = m.fits };
  parts = i.parts y;
  place_is = (let t = i.taken in omega arith);
  is = m.is ∙ ap (λ l. l ++ tag_bytes (metadata_tag (flat m.fields))) none;
}

pub value_begins : (P : Graph → Type 0) (told : Type 0) (y : told) (g : RootedArena) (input rest : List ℕ) (at place limit : ℕ) → at ≡ 0 → limit ≡ most_of_value → IsTaken (Spells g) IsValue0 (stretch told input rest at place limit) → P (content g) → BeginsWith P input
value_begins P told y g input rest at place limit z l i p = record { graph = content g; fields = i.fields; spelled = i.read; more = rest; parts = i.parts y; within = front_within at place limit (length (flat i.fields)) z l i.taken i.within; so = p }

pub start_ends : (e : ReadEnd) → IsStartEnd {X = Unit {0}} (Err (end_of e))
start_ends (reader.Refused f) = tt
start_ends reader.ReadFault = tt
start_ends reader.Memory = tt
