-- What holds of an answer, where there is one.
use Rattle.std.proofs.Common.{◌≡◌, Bool, true, false, if◌then◌else◌, Option, Some, None, refl, subst}
use Rattle.std.specs.Prelude.{⊤, option_map, option_and_then}

abbrev pub Each : {X : Type 0} → (X → Type 0) → Option X → Type 0
Each P None = ⊤
Each P (Some x) = P x

pub each_is : {X : Type 0} (P : X → Type 0) (o : Option X) (x : X) → Each P o → o ≡ Some x → P x
each_is P o x h e = subst (Each P) e h

pub each_from : {X : Type 0} (P : X → Type 0) (o : Option X) → ((x : X) → o ≡ Some x → P x) → Each P o
each_from P None h = tt
each_from P (Some x) h = h x refl

pub then_each : {X Y : Type 0} (P : X → Type 0) (Q : Y → Type 0) (f : X → Option Y) (o : Option X) → Each P o → ((x : X) → P x → Each Q (f x)) → Each Q (option_and_then f o)
then_each P Q f None h g = tt
then_each P Q f (Some x) h g = g x h

pub map_each : {X Y : Type 0} (P : X → Type 0) (Q : Y → Type 0) (f : X → Y) (o : Option X) → Each P o → ((x : X) → P x → Q (f x)) → Each Q (option_map f o)
map_each P Q f None h g = tt
map_each P Q f (Some x) h g = g x h

pub if_each : {X : Type 0} (P : X → Type 0) (t : Bool) (o p : Option X) → (t ≡ true → Each P o) → (t ≡ false → Each P p) → Each P (if t then o else p)
if_each P true o p h g = h refl
if_each P false o p h g = g refl
