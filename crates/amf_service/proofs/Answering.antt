-- What a service answers: a fault, and of an operation that it knows.
use Rattle.std.proofs.Common.{◌≡◌, ℕ, ◌≤◌, Bool, true, if◌then◌else◌, List, [], ◌∷◌, length, Result, Ok, Err, refl, sym, ap, ◌∙◌, subst, arith}
use Rattle.std.specs.Prelude.{IfOk, OnOk, Option, None}
use Rattle.std.specs.Option.{option_map}
use Rattle.amf_wire.specs.Text.{IsText}
use Rattle.amf_wire.proofs.TextTest.{is_text-is}
use Rattle.amf_graph.specs.Graph.{Graph}
use Rattle.amf_graph.specs.Rooted.{RootedArena}
use Rattle.amf_service.specs.declared.service.ServiceEnd.{ServiceEnd}
use Rattle.amf_service.specs.declared.service.ServiceEnd.TheVariants.{Unknown, Fault, Memory}
use Rattle.amf_service.specs.Meaning.{Given, result, fault, Meanings, Called, no_operation, given, asked, IsFault, Answers, FaultsWith}
use Rattle.amf_service.specs.Shipped.{wrong_arguments, too_large}

pub known : (m : Meanings) (o : List ℕ) (a : Graph) (r : Result RootedArena ServiceEnd) → m.knows o ≡ true → Answers (given (m.gives o a)) r → Answers (asked m o a) r
known m o a r k h = subst (λ c. Answers c r) (ap (λ (b : Bool). if b then given (m.gives o a) else no_operation) (sym k)) h

pub faulted : (c : Called) (x : List ℕ) (e : ServiceEnd) → c ≡ given (fault x) → IsFault x → FaultsWith x e → Answers c (Err e)
faulted c x Unknown q f w = absurd w
faulted c x (Fault y) q f w = (q ∙ ap (λ z. given (fault z)) (sym w), subst IsFault (sym w) f)
faulted c x Memory q f w = tt

pub wrong_is_fault : IsFault wrong_arguments
wrong_is_fault = ((is_text-is wrong_arguments).0 refl, omega arith)

pub large_is_fault : IsFault too_large
large_is_fault = ((is_text-is too_large).0 refl, omega arith)

-- What holds of an answer that is known.

pub from_ok : {X Y : Type 0} (r : Result X Y) (P : Type 0) (x : X) → OnOk r P → r ≡ Ok x → P
from_ok r P x h e = subst (λ z. OnOk z P) e h

pub from_if_ok : {X Y : Type 0} (r : Result X Y) (P : X → Type 0) (x : X) → IfOk r P → r ≡ Ok x → P x
from_if_ok r P x h e = subst (λ z. IfOk z P) e h

pub from_none : {X Y : Type 0} (f : X → Y) (o : Option X) (y : Option Y) → o ≡ None → option_map f o ≡ y → None ≡ y
from_none f o y e h = subst (λ z. option_map f z ≡ y) e h
