-- The traits are told by their parts.
use Rattle.std.proofs.Common.{◌≡◌, true, get_or, sym, ◌∙◌, subst, arith, rules}
use Rattle.std.specs.Prelude.{bytes_eq}
use Rattle.std.specs.List.{AllByRecursion}
use Rattle.std.proofs.lemmas.Slice.Eq.{bytes_eq-Decides}
use Rattle.amf_graph.specs.Arena.{StoredTraits, IsTextId, IsTraitsIn, no_traits, text_at}
use Rattle.amf_graph.proofs.Alls.{all_at}
use Rattle.flex_msgs.specs.Classes.{class_traits}
use Rattle.flex_msgs.proofs.Storing.{ids_in, all_named, members_named}
use Rattle.flex_msgs.proofs.class.Class.has_traits.Goals as goal

pub has_members-requires : goal.has_members-requires
has_members-requires c =
    let a = c.args.graph.now.arena in
    let b = all_at (IsTraitsIn a) a.traits c.args.traits.0 no_traits c.requires c.is_finished.ensures.finished.built.traits in
    ids_in a c.traits-view.result.sealed.now (subst (λ (s : StoredTraits). AllByRecursion (IsTextId a) s.sealed) c.traits-view.ensures b.sealed)

pub returns : goal.returns
returns c =
    let a = c.args.graph.now.arena in
    let t = get_or a.traits c.args.traits.0 no_traits in
    let v = c.traits-view.result in
    let k = c.args.self in
    let same : c.eq-named.result ≡ true = first_of (cc, grind arith, search rules) in
    let equal : bytes_eq c.text.result.now c.name.result.now ≡ true = sym c.eq-named.ensures ∙ same in
    let class : text_at a v.class.0 ≡ (class_traits k).class = sym c.text.ensures ∙ (bytes_eq-Decides c.text.result.now c.name.result.now).0 equal ∙ c.name.ensures in (
      λ is. all_named a t v.class v.dynamic v.sealed.now k c.traits-view.ensures c.if-view.false class (c.has_members.ensures.0 is),
      λ h. c.has_members.ensures.1 (members_named a t v.class v.dynamic v.sealed.now k c.traits-view.ensures h),
    )
