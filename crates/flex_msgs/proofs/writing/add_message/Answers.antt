-- The names of a class are added one after another, and then its traits and the message.
use Rattle.std.proofs.Common.{◌≡◌, ◌<◌, ◌≤◌, ◌+◌, ℕ, false, List, [], ◌∷◌, ◌++◌, length, map, take, get_or, refl, sym, ap, ◌∙◌, subst, arith}
use Rattle.std.proofs.lemmas.List.{map-append, length-map, length-append}
use Rattle.amf_wire.specs.Text.{IsText}
use Rattle.amf_graph.specs.declared.value.TextId.{TextId}
use Rattle.amf_graph.specs.Arena.{Arena, StoredTraits, object}
use Rattle.amf_graph.specs.Building.{kept_text, kept_traits, stored_traits, closed}
use Rattle.amf_graph.specs.Grafting.{node_value}
use Rattle.amf_graph.proofs.Alls.{all_at}
use Rattle.flex_msgs.specs.Writing.{AreTexts, AreMembersOf}
use Rattle.flex_msgs.specs.Classes.{class_traits}
use Rattle.std.proofs.lemmas.Result.{err_from_is_err_and}
use Rattle.flex_msgs.specs.Built.{GrewBy}
use Rattle.flex_msgs.proofs.ClassTexts.{class_text, member_texts, class_few, member_short}
use Rattle.flex_msgs.proofs.Rooms.{grew_text, grew_traits, grew_node, grew_then, room_then, handed_on, text_end, traits_end}
use Rattle.flex_msgs.proofs.Partly.{one_more, all_taken}
use Rattle.flex_msgs.proofs.Written.{names_then, texts_later, texts_push, text_written, text_known, all_later, traits_written, kept_at, object_written, class_fixed, same_nodes}
use Rattle.flex_msgs.proofs.writing.add_message.Goals as goal

pub text-requires : goal.text-requires
text-requires c = subst IsText (sym c.name.ensures) (class_text c.args.class)

pub text-requires-in-loop-place : goal.text-requires-in-loop-place
text-requires-in-loop-place c =
    let s = (class_traits c.args.class).sealed in
    let l : c.loop-place.place < length s = omega (arith, c.loop-place-test.true, c.count-place-end.ensures) in
    subst IsText (sym c.member.ensures) (all_at IsText s c.loop-place.place [] l (member_texts c.args.class))

pub loop-place-init : goal.loop-place-init
loop-place-init c =
    let a = c.args.builder.now in
    let b = c.text.new.self in
    let k = class_traits c.args.class in
    let one = c.in_ok-name.ensures.ok ∙ ap (kept_text a) c.name.ensures in
    record {
      writes = text_written a b k.class one;
      known = subst (λ (xs : List TextId). AreTexts b (c.in_ok-name.name.0 ∷ map (λ x. x.0) xs) (k.class ∷ [])) (sym c.new-sealed.ensures.items) (text_known a b k.class c.in_ok-name.name.0 one c.in_ok-name.ensures.id);
      count = ap length c.new-sealed.ensures.items;
      grew = grew_text a b k.class one;
    }

pub loop-place-preserved : goal.loop-place-preserved
loop-place-preserved c =
    let a = c.args.builder.now in
    let b = c.loop-place.builder in
    let d = c.text-in-loop-place.new.self in
    let k = class_traits c.args.class in
    let n = c.loop-place.place in
    let x = get_or k.sealed n [] in
    let i = c.in_ok-text.field-0 in
    let l : n < length k.sealed = omega (arith, c.loop-place-test.true, c.count-place-end.ensures) in
    let step = c.in_ok-text.ensures.ok ∙ ap (kept_text b) c.member.ensures in
    let w = text_written b d x step in
    let items = c.loop-place.sealed.items in
    let known = texts_push d (c.in_ok-name.name.0 ∷ map (λ (x : TextId). x.0) items) (i.0 ∷ []) (k.class ∷ take n k.sealed) (x ∷ [])
    (texts_later b d 0 (λ h. []) (c.in_ok-name.name.0 ∷ map (λ (x : TextId). x.0) items) (k.class ∷ take n k.sealed) w c.loop-place.invariant.known) (text_known b d x i.0 step c.in_ok-text.ensures.id) in
    let ids = ap (λ (xs : List TextId). map (λ x. x.0) xs) c.in_ok-push.ensures.items ∙ map-append (λ (x : TextId). x.0) items (i ∷ []) in
    record {
      writes = names_then a b d c.loop-place.invariant.writes w;
      known = subst (λ xs. AreTexts d (c.in_ok-name.name.0 ∷ xs) (k.class ∷ take (n + 1) k.sealed)) (sym ids)
          (subst (λ ys. AreTexts d (c.in_ok-name.name.0 ∷ map (λ (x : TextId). x.0) items ++ i.0 ∷ []) (k.class ∷ ys)) (sym (one_more k.sealed n [] l)) known);
      count = ap length c.in_ok-push.ensures.items ∙ length-append items (i ∷ []) ∙ ap (λ z. z + 1) c.loop-place.invariant.count;
      grew = grew_then c.loop-place.invariant.grew (grew_text b d x step) (omega arith) (omega arith) (omega arith);
    }

pub returns-in_err-text-clause-full : goal.returns-in_err-text-clause-full
returns-in_err-text-clause-full c = λ room.
    let s = (class_traits c.args.class).sealed in
    let l : c.loop-place.place < length s = omega (arith, c.loop-place-test.true, c.count-place-end.ensures) in
    let r = c.from_residual-in_err-text.result in
    let p = err_from_is_err_and r c.from_residual-in_err-text.ensures.1 in
    let few : length c.member.result.now ≤ 268435455 = omega (arith, ap length c.member.ensures, all_at (λ x. length x ≤ 268435455) s c.loop-place.place [] l (member_short c.args.class)) in
    text_end c.loop-place.builder c.member.result.now r c.in_err-text.field-0.0 p.0 p.1 p.2 c.in_err-text.ensures.full
    (room_then room c.loop-place.invariant.grew (let n = c.requires.count in omega arith) (omega arith) (omega arith)) few

pub returns-in_err-traits-clause-full : goal.returns-in_err-traits-clause-full
returns-in_err-traits-clause-full c = λ room.
    let few : length c.deref.result.now ≤ 13 = omega (arith, ap length c.deref.ensures.value, c.loop-place.invariant.count, c.count-place-end.ensures, class_few c.args.class) in
    let r = c.from_residual-in_err-traits.result in
    let p = err_from_is_err_and r c.from_residual-in_err-traits.ensures.1 in
    traits_end c.loop-place.builder (length c.deref.result.now) r c.in_err-traits.field-0.0 p.0 p.1 p.2 c.in_err-traits.ensures.full
    (room_then room c.loop-place.invariant.grew (let n = c.requires.count in let e = c.count-place-end.ensures in omega arith) (omega arith) (omega arith)) few

grew_so_far : (a b d : Arena) (t : StoredTraits) (n m : ℕ) → GrewBy a b (1 + n) 0 0 → d ≡ kept_traits b t → n ≡ m → GrewBy a d (1 + m) 1 0
grew_so_far a b d t n m g e s = grew_then g (grew_traits b d t e) (omega arith) (omega arith) (omega arith)

pub returns-in_err-add_object-clause-full : goal.returns-in_err-add_object-clause-full
returns-in_err-add_object-clause-full c = λ room.
    let a = c.args.builder.now in
    let b = c.loop-place.builder in
    let d = c.traits.new.self in
    let few : length c.args.values.now + 0 ≤ 268435455 = omega (arith, c.requires.count, class_few c.args.class) in
    let r = c.from_residual-in_err-add_object.result in
    let p = err_from_is_err_and r c.from_residual-in_err-add_object.ensures.1 in
    let g = grew_so_far a b d (stored_traits c.in_ok-name.name false c.deref.result.now) c.loop-place.place (length c.args.values.now) c.loop-place.invariant.grew c.in_ok-traits.ensures.ok (omega (arith, c.requires.count, c.count-place-end.ensures)) in
    handed_on r c.in_err-add_object.field-0.0 p.0 p.1 p.2 (c.in_err-add_object.ensures.full (room_then room g (omega arith) (omega arith) (omega arith)) few)

pub returns-clause-grew : goal.returns-clause-grew
returns-clause-grew c =
    let a = c.args.builder.now in
    let b = c.loop-place.builder in
    let d = c.traits.new.self in
    let g = grew_so_far a b d (stored_traits c.in_ok-name.name false c.deref.result.now) c.loop-place.place (length c.args.values.now) c.loop-place.invariant.grew c.in_ok-traits.ensures.ok (omega (arith, c.requires.count, c.count-place-end.ensures)) in
    grew_then g (grew_node d c.add_object.new.builder (closed (object c.in_ok-traits.traits.0) [] c.args.values.now) c.in_ok-add_object.ensures.ok) (omega arith) (omega arith) (omega arith)

pub add_object-requires-clause-sealed : goal.add_object-requires-clause-sealed
add_object-requires-clause-sealed c =
    let b = c.loop-place.builder in
    let t = kept_at b c.traits.new.self (stored_traits c.in_ok-name.name false c.deref.result.now) c.in_ok-traits.traits.0 c.in_ok-traits.ensures.ok c.in_ok-traits.ensures.id in
    let count : length c.args.values.now ≡ length (map (λ (x : TextId). x.0) c.deref.result.now) =
    omega (arith, c.requires.count, length-map c.deref.result.now (λ (x : TextId). x.0), ap length c.deref.ensures.value, c.loop-place.invariant.count, c.count-place-end.ensures) in
    count ∙ sym (ap (λ (s : StoredTraits). length s.sealed) t.1)

pub add_object-requires-clause-members : goal.add_object-requires-clause-members
add_object-requires-clause-members c =
    let t = kept_at c.loop-place.builder c.traits.new.self (stored_traits c.in_ok-name.name false c.deref.result.now) c.in_ok-traits.traits.0 c.in_ok-traits.ensures.ok c.in_ok-traits.ensures.id in
    subst (λ (s : StoredTraits). AreMembersOf s.dynamic []) (sym t.1) refl

pub add_object-requires-clause-values : goal.add_object-requires-clause-values
add_object-requires-clause-values c =
    let a = c.args.builder.now in
    let b = c.loop-place.builder in
    let d = c.traits.new.self in
    all_later a d 0 (λ h. []) c.args.values.now (names_then a b d c.loop-place.invariant.writes (traits_written b d (stored_traits c.in_ok-name.name false c.deref.result.now) c.in_ok-traits.ensures.ok)) c.requires.values

pub returns-clause-ok : goal.returns-clause-ok
returns-clause-ok c =
    let a = c.args.builder.now in
    let b = c.loop-place.builder in
    let d = c.traits.new.self in
    let k = class_traits c.args.class in
    let name = c.in_ok-name.name in
    let xs = c.deref.result.now in
    let all : take c.loop-place.place k.sealed ≡ k.sealed = all_taken k.sealed c.loop-place.place (omega (arith, c.count-place-end.ensures)) in
    let known = subst (λ (ys : List TextId). AreTexts b (name.0 ∷ map (λ x. x.0) ys) (k.class ∷ k.sealed)) (sym c.deref.ensures.value) (subst (λ zs. AreTexts b (name.0 ∷ map (λ (x : TextId). x.0) c.loop-place.sealed.items) (k.class ∷ zs)) all c.loop-place.invariant.known) in
    let m = c.in_ok-traits.ensures.ok ∙ ap (λ z. kept_traits b (stored_traits name z xs)) (sym (class_fixed c.args.class)) in
    record {
      writes = object_written a b d c.add_object.new.builder name xs k c.in_ok-traits.traits.0 [] c.args.values.now c.loop-place.invariant.writes known m c.in_ok-traits.ensures.id c.in_ok-add_object.ensures.ok;
      value = ap node_value (c.in_ok-add_object.ensures.id ∙ ap (λ (z : Arena). length z.nodes) c.in_ok-traits.ensures.ok ∙ same_nodes a b c.loop-place.invariant.writes);
    }
