use Rattle.std.proofs.Common.{◌≡◌, ◌+◌, ◌∷◌, length, map, take}
use Rattle.flex_msgs.specs.Built.{GrewBy}
use Rattle.flex_msgs.specs.Writing.{WritesNames, AreTexts}
use Rattle.flex_msgs.specs.Classes.{class_traits}
use Rattle.flex_msgs.proofs.writing.add_message.Given as goal

abbrev pub invariant-loop-place : goal.invariant-loop-place
invariant-loop-place l = record {
  writes : WritesNames l.fn.builder l.builder;
  known : AreTexts l.builder (l.name.0 ∷ map (λ x. x.0) l.sealed.items) ((class_traits l.class).class ∷ take l.place (class_traits l.class).sealed);
  count : length l.sealed.items ≡ l.place;
  grew : GrewBy l.fn.builder l.builder (1 + l.place) 0 0;
}
