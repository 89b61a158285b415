-- The names of the classes that are written, and of their members, are texts.
use Rattle.std.proofs.Common.{◌≡◌, ℕ, ◌<◌, ◌≤◌, lit≤, List, [], ◌∷◌, ◌++◌, length, get_or, refl, sym, subst, arith}
use Rattle.std.specs.Prelude.{codes}
use Rattle.std.specs.List.{AllByRecursion}
use Rattle.amf_wire.specs.Text.{IsText}
use Rattle.amf_wire.proofs.TextTest.{is_text-is}
use Rattle.amf_graph.proofs.Alls.{all_append, all_at}
use Rattle.flex_msgs.specs.declared.class.Class.{Class}
use Rattle.flex_msgs.specs.declared.class.Class.TheVariants.{Acknowledge, Async, Command, Error}
use Rattle.flex_msgs.specs.Classes.{class_traits, common_names, acknowledge_class, async_class, command_class, error_class, body_name, client_name, destination_name, headers_name, message_name, correlation_name, operation_name}

pub class_text : (k : Class) → IsText (class_traits k).class
class_text Acknowledge = (is_text-is acknowledge_class).0 refl
class_text Async = (is_text-is async_class).0 refl
class_text Command = (is_text-is command_class).0 refl
class_text Error = (is_text-is error_class).0 refl

common_texts : AllByRecursion IsText common_names
common_texts = (
  (is_text-is body_name).0 refl,
  (
    (is_text-is client_name).0 refl,
    (
      (is_text-is destination_name).0 refl,
      (
        (is_text-is headers_name).0 refl,
        (
          (is_text-is message_name).0 refl,
          (
            (is_text-is (codes "timeToLive")).0 refl,
            (
              (is_text-is (codes "timestamp")).0 refl,
              ((is_text-is correlation_name).0 refl, tt),
            ),
          ),
        ),
      ),
    ),
  ),
)

error_texts : AllByRecursion IsText (codes "extendedData" ∷ codes "faultCode" ∷ codes "faultDetail" ∷ codes "faultString" ∷ codes "rootCause" ∷ [])
error_texts = (
  (is_text-is (codes "extendedData")).0 refl,
  (
    (is_text-is (codes "faultCode")).0 refl,
    (
      (is_text-is (codes "faultDetail")).0 refl,
      (
        (is_text-is (codes "faultString")).0 refl,
        ((is_text-is (codes "rootCause")).0 refl, tt),
      ),
    ),
  ),
)

pub member_texts : (k : Class) → AllByRecursion IsText (class_traits k).sealed
member_texts Acknowledge = common_texts
member_texts Async = common_texts
member_texts Command = all_append IsText common_names (operation_name ∷ []) common_texts ((is_text-is operation_name).0 refl, tt)
member_texts Error = all_append IsText common_names (codes "extendedData" ∷ codes "faultCode" ∷ codes "faultDetail" ∷ codes "faultString" ∷ codes "rootCause" ∷ []) common_texts error_texts

pub ninth_of : (k : Class) → 8 < length (class_traits k).sealed → (k ≡ Command → ⊥) → codes "extendedData" ≡ get_or (class_traits k).sealed 8 []
ninth_of Acknowledge l n = absurd (omega (arith, l))
ninth_of Async l n = absurd (omega (arith, l))
ninth_of Command l n = absurd (n refl)
ninth_of Error l n = refl

-- They are few, and short.

pub class_few : (k : Class) → length (class_traits k).sealed ≤ 13
class_few Acknowledge = lit≤ tt
class_few Async = lit≤ tt
class_few Command = lit≤ tt
class_few Error = lit≤ tt

abbrev Short : List ℕ → Type 0
Short x = length x ≤ 268435455

common_short : AllByRecursion Short common_names
common_short = (lit≤ tt, (lit≤ tt, (lit≤ tt, (lit≤ tt, (lit≤ tt, (lit≤ tt, (lit≤ tt, (lit≤ tt, tt))))))))

pub member_short : (k : Class) → AllByRecursion (λ x. length x ≤ 268435455) (class_traits k).sealed
member_short Acknowledge = common_short
member_short Async = common_short
member_short Command = all_append Short common_names (operation_name ∷ []) common_short (lit≤ tt, tt)
member_short Error = all_append Short common_names (codes "extendedData" ∷ codes "faultCode" ∷ codes "faultDetail" ∷ codes "faultString" ∷ codes "rootCause" ∷ []) common_short (lit≤ tt, (lit≤ tt, (lit≤ tt, (lit≤ tt, (lit≤ tt, tt)))))
