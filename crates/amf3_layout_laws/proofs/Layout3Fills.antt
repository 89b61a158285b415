-- Each kind of field of AMF 3 can be filled in, and so can what stands behind it.
use Rattle.std.proofs.Common.{◌≡◌, ℕ, zero, suc, Bool, true, false, cond, eqb, ◌||◌, List, [], ◌∷◌, length, Option, Some, None, refl, sym, ap, ◌∙◌, arith, subst}
use Rattle.std.proofs.lemmas.Bool.{le-leb, eqb-true}
use Rattle.amf_wire.specs.U29.{SpellsU29, one, two, three, four}
use Rattle.amf_wire.specs.Text.{is_text}
use Rattle.amf_wire.proofs.U29Fields.{IsOneField, one_field}
use Rattle.amf_io.specs.declared.reason.Reason.{Reason}
use Rattle.amf_io.specs.declared.reason.Reason.TheVariants.{BadText}
use Rattle.amf_io.specs.Field.{Kind, field, fixed, whole, AreBytes, raw_kind, text_kind, u29_kind}
use Rattle.amf_io.specs.Layout.{Layout, give, want}
use Rattle.amf_io.proofs.Ables.{AbleWithin, able_none, able_give, able_want}
use Rattle.amf_graph.specs.declared.wrapped.Wrapped.TheVariants.{ArrayCollection, ArrayList, ObjectProxy}
use Rattle.amf_graph.specs.Graph.{class_name}
use Rattle.amf3_spelling.specs.Refusals3.{is_served_length, class_kind}
use Rattle.amf3_layout_laws.specs.Layout3Words.{chunk}

-- bytes that are a field of the kind
pub record Filled (k : Kind) : Type 0 where
  pub bytes : List ℕ
  pub is_whole : whole k.size bytes ≡ Some (length bytes)
  pub clean : k.refusal bytes ≡ None
  pub are_bytes : AreBytes bytes

letters : ℕ → List ℕ
letters zero = []
letters (suc n) = 97 ∷ letters n

letters_len : (n : ℕ) → length (letters n) ≡ n
unfolding letters
letters_len zero = refl
letters_len (suc n) = ap suc (letters_len n)

letters_text : (n : ℕ) → is_text (letters n) ≡ true
unfolding letters
letters_text zero = refl
letters_text (suc n) = letters_text n

letters_bytes : (n : ℕ) → AreBytes (letters n)
unfolding letters
letters_bytes zero = tt
letters_bytes (suc n) = (omega arith, letters_bytes n)

letters_whole : (n : ℕ) → whole (fixed (suc n)) (letters (suc n)) ≡ Some (length (letters (suc n)))
letters_whole n = ap (λ t. cond t (Some (suc n)) None) (le-leb (suc n) (length (letters (suc n))) (omega (arith, letters_len (suc n)))) ∙ ap Some (sym (letters_len (suc n)))

pub text_filled : (n : ℕ) → Filled (text_kind (suc n))
text_filled n = record { bytes = letters (suc n); is_whole = letters_whole n; clean = ap (λ t. cond t None (Some BadText)) (letters_text (suc n)); are_bytes = letters_bytes (suc n) }

pub raw_filled : (n : ℕ) → Filled (raw_kind (suc n))
raw_filled n = record { bytes = letters (suc n); is_whole = letters_whole n; clean = refl; are_bytes = letters_bytes (suc n) }

-- a spelled number is a field of bytes
pub spelled_bytes : {n : ℕ} {b : List ℕ} → SpellsU29 n b → AreBytes b
spelled_bytes (one a h e q) = subst AreBytes (sym q) (omega arith, tt)
spelled_bytes (two a b h k e q) = subst AreBytes (sym q) (omega arith, (omega arith, tt))
spelled_bytes (three a b c h k l e q) = subst AreBytes (sym q) (omega arith, (omega arith, (omega arith, tt)))
spelled_bytes (four a b c d h k l m e q) = subst AreBytes (sym q) (omega arith, (omega arith, (omega arith, (omega arith, tt))))

pub number_filled : (refusal : ℕ → Option Reason) (n : ℕ) (b : List ℕ) → SpellsU29 n b → refusal n ≡ None → Filled (u29_kind refusal)
number_filled refusal n b s e = let o : IsOneField n b = one_field s in record { bytes = b; is_whole = o.is_whole; clean = ap refusal o.value ∙ e; are_bytes = spelled_bytes s }

-- a name of the length of a served class
served_name : (n : ℕ) → is_served_length n ≡ true → Filled (class_kind n)
served_name n e = at_first (eqb 33 n) refl e
  where
    at_third : (n : ℕ) (b : Bool) → eqb 29 n ≡ b → (b || false) ≡ true → Filled (class_kind n)
    at_third n true h e = subst (λ m. Filled (class_kind m)) (eqb-true 29 n h) (record { bytes = class_name ObjectProxy; is_whole = refl; clean = refl; are_bytes = search arith })
    at_third n false h e = absurd cc

    at_second : (n : ℕ) (b : Bool) → eqb 27 n ≡ b → (b || (eqb 29 n || false)) ≡ true → Filled (class_kind n)
    at_second n true h e = subst (λ m. Filled (class_kind m)) (eqb-true 27 n h) (record { bytes = class_name ArrayList; is_whole = refl; clean = refl; are_bytes = search arith })
    at_second n false h e = at_third n (eqb 29 n) refl e

    at_first : (b : Bool) → eqb 33 n ≡ b → (b || (eqb 27 n || (eqb 29 n || false))) ≡ true → Filled (class_kind n)
    at_first true h e = subst (λ m. Filled (class_kind m)) (eqb-true 33 n h) (record { bytes = class_name ArrayCollection; is_whole = refl; clean = refl; are_bytes = search arith })
    at_first false h e = at_second n (eqb 27 n) refl e

pub class_filled : (n j : ℕ) → n ≡ suc j → is_served_length n ≡ true → Filled (class_kind (suc j))
class_filled n j e h = subst (λ m. Filled (class_kind m)) e (served_name n h)

-- a field
pub able_field : {X : Type 0} (N : ℕ) (k : Kind) (next : List ℕ → Layout X) → Filled k → ((b : List ℕ) → whole k.size b ≡ Some (length b) → k.refusal b ≡ None → AbleWithin N (next b)) → AbleWithin N (want k next)
able_field zero k next f h = able_none (want k next)
able_field (suc N) k next f h =
    able_want (suc N) (suc N) k next (field k f.bytes) (record { is_kind = refl; is_whole = f.is_whole; clean = f.clean }) f.are_bytes (h f.bytes f.is_whole f.clean [] (next f.bytes) refl (omega arith)) h (λ b i w lt. omega arith)

-- so many bytes
pub able_chunk : {X : Type 0} (N : ℕ) (kind : ℕ → Kind) (k : ℕ) (f : List ℕ → X) → ((j : ℕ) → k ≡ suc j → Filled (kind (suc j))) → AbleWithin N (chunk kind k (λ x. give (f x)))
able_chunk N kind zero f fill = able_give N (f [])
able_chunk N kind (suc k) f fill = able_field N (kind (suc k)) (λ x. give (f x)) (fill k refl) (λ b w ok. able_give N (f b))
