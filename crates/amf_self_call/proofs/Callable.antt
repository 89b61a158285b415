-- What may be called.
use Rattle.std.proofs.Common.{◌≡◌, ℕ, ◌<◌, ◌≤◌, Bool, true, false, List, length, refl, arith, Ok}
use Rattle.std.specs.Prelude.{◌↔◌, IsTrue, codes, bytes_eq, Result as Returned}
use Rattle.std.specs.Result.{IsErrOf}
use Rattle.std.proofs.lemmas.Slice.Eq.{bytes_eq-Decides}
use Rattle.amf_wire.specs.Style.{canonical}
use Rattle.amf_wire.specs.Text.{IsText}
use Rattle.amf_graph.specs.declared.lack.Lack.{Lack}
use Rattle.amf_graph.specs.Graph.{Graph}
use Rattle.amf3_spelling.specs.Lacks3.{IsLack3}
use Rattle.amf3_spelling.proofs.FirstLack3.{nothing_lacks}
use Rattle.amf_client.specs.declared.ends.AskEnd.{AskEnd}
use Rattle.amf_client.specs.declared.ends.AskEnd.TheVariants.{NotArgs}
use Rattle.amf_client.specs.Asking.{IsAsk, are_arguments}
use Rattle.amf_answer_plan.specs.Packets.{null_uri}
use Rattle.amf_self_call_laws.proofs.Packets.{value_spelled}
use Rattle.amf_self_call.specs.Rounds.{IsTarget, MayCall}

both_no : (b : Bool) → b ≡ true → b ≡ false → ⊥
both_no b e f = cc

not_false : (b : Bool) → (b ≡ false → ⊥) → b ≡ true
not_false true n = refl
not_false false n = absurd (n refl)

-- what does not hold, and what does
pub is_no : {P : Type 0} (b : Bool) → b ≡ false → (P → ⊥) → (IsTrue b ↔ P)
is_no b f h = (λ e. absurd (both_no b e f), λ p. absurd (h p))

pub is_yes : {P : Type 0} → P → (IsTrue true ↔ P)
is_yes p = (λ e. p, λ q. refl)

pub null_is_none : (t : List ℕ) → bytes_eq t null_uri ≡ true → IsTarget t → ⊥
null_is_none t e p = p.other ((bytes_eq-Decides t null_uri).0 e)

pub long_is_none : (t : List ℕ) → 65535 < length t → IsTarget t → ⊥
long_is_none t l p = let s = p.short in omega (arith, l, s)

-- a target is a text that is neither
pub target_is : (t : List ℕ) (b : Bool) → bytes_eq t null_uri ≡ false → length t ≤ 65535 → (IsTrue b ↔ IsText t) → (IsTrue b ↔ IsTarget t)
target_is t b n l d = (λ e. record { text = d.0 e; short = omega (arith, l); other = λ s. both_no (bytes_eq t null_uri) ((bytes_eq-Decides t null_uri).1 s) n }, λ p. d.1 p.text)

pub no_target : (t : List ℕ) (args : Graph) (b : Bool) → (IsTrue b ↔ IsTarget t) → b ≡ false → MayCall t args → ⊥
no_target t args b d f m = both_no b (d.1 m.is_target) f

pub no_arguments : (t : List ℕ) (args : Graph) → are_arguments args ≡ false → MayCall t args → ⊥
no_arguments t args f m = both_no (are_arguments args) m.unnamed f

pub a_lack : (t : List ℕ) (args : Graph) (l : Lack) → IsLack3 args l.node l.kind → MayCall t args → ⊥
a_lack t args l lack m = m.formed l lack

ok_is_none : (r : Returned (Unit {0}) AskEnd) (x : Unit {0}) → r ≡ Ok x → IsErrOf r NotArgs → ⊥
ok_is_none r x e f = cc

-- what was written may be called
pub written_may : (t : List ℕ) (args : Graph) (asked : List ℕ) → IsTarget t → IsAsk 80 t args asked → (r : Returned (Unit {0}) AskEnd) (x : Unit {0}) → r ≡ Ok x → (IsErrOf r NotArgs ↔ (are_arguments args ≡ false)) → MayCall t args
written_may t args asked target ask r x e d = record {
  is_target = target;
  unnamed = not_false (are_arguments args) (λ f. ok_is_none r x e (d.1 f));
  formed = λ l lack. let s = value_spelled 3 t (codes "/1") args ask.packet ask.spelled in (nothing_lacks canonical args s.0 s.1).1 l.node l.kind lack;
}
