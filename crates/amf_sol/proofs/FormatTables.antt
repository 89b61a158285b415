-- Tables for the pairs of either format.
use Rattle.std.proofs.Common.{◌≡◌, ℕ, List, refl, sym, ap, subst, Result}
use Rattle.amf_io.specs.declared.window.Window.{Window}
use Rattle.amf_io.specs.declared.cursor.Cursor.{Cursor}
use Rattle.amf_io.specs.declared.ends.ReadEnd.{ReadEnd}
use Rattle.amf_graph.specs.Arena.{Arena}
use Rattle.amf_graph.proofs.Lists.{no_entry}
use Rattle.amf3_spelling.specs.KeptTables.{KeptTables}
use Rattle.amf3_read.specs.Ready.{Ready}
use Rattle.amf0_spelling.specs.KeptTables0.{KeptTables0, no_kept_tables0}
use Rattle.amf0_layout_laws.specs.Layout0State.{state0_of}
use Rattle.amf0_read.specs.Ready0.{Ready0}
use Rattle.amf_sol.specs.declared.sol_version.SolVersion.{SolVersion}
use Rattle.amf_sol.specs.declared.sol_version.SolVersion.TheVariants.{Amf0, Amf3}
use Rattle.amf_sol.specs.FileReading.{tables3, state_in3, AreOfFormat, AnswersPair}

pub new_of_format : (version : SolVersion) (t : KeptTables0) → t ≡ no_kept_tables0 → AreOfFormat version t
new_of_format Amf0 t e = tt
new_of_format Amf3 t e = subst (λ (w : KeptTables0). w ≡ tables3 w.amf3) (sym e) refl

-- the same with these tables of AMF 3
abbrev with_amf3 : KeptTables → KeptTables0 → KeptTables0
with_amf3 k t = record { amf3 = k; nodes = t.nodes; switched = t.switched }

-- Of a file of AMF 3.
module _ (version : SolVersion) (is : version ≡ Amf3) (t : KeptTables0) (format : AreOfFormat version t) where
  old_is : t ≡ tables3 t.amf3
  old_is = subst (λ v. AreOfFormat v t) is format

  new_is : (k : KeptTables) → with_amf3 k t ≡ tables3 k
  new_is k = ap (with_amf3 k) old_is

  pub still_of_format : (k : KeptTables) → AreOfFormat version (with_amf3 k t)
  still_of_format k = subst (λ v. AreOfFormat v (with_amf3 k t)) (sym is) (new_is k)

  pub ready_with : {S : Type 0} (b : Arena) (k : KeptTables) (d : Cursor S Window) → Ready 0 b k d → Ready0 0 b (with_amf3 k t) d
  ready_with b k d r = subst (λ (w : KeptTables0). Ready0 0 b w d) (sym (new_is k)) (record { amf3 = r; nodes = tt; distinct = λ j m i e f. absurd (no_entry j i e) })

  pub answers_with : {S : Type 0} (tells : S → Type 0) (left : S → List ℕ) (a b : Arena) (k : KeptTables) (c d : Cursor S Window) (r : Result (Unit {0}) ReadEnd) → AnswersPair tells left Amf3 (state_in3 a t.amf3) (state_in3 b k) c d r
      → AnswersPair tells left version (state0_of a t) (state0_of b (with_amf3 k t)) c d r
  answers_with tells left a b k c d r h =
      subst (λ v. AnswersPair tells left v (state0_of a t) (state0_of b (with_amf3 k t)) c d r) (sym is)
      (subst (λ (w : KeptTables0). AnswersPair tells left Amf3 (state0_of a w) (state0_of b (with_amf3 k t)) c d r) (sym old_is)
      (subst (λ (w : KeptTables0). AnswersPair tells left Amf3 (state_in3 a t.amf3) (state0_of b w) c d r) (sym (new_is k)) h))
