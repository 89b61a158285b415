-- The reasons told from what is met again are those told from what stands at two places.
use Rattle.std.proofs.Common.{◌≡◌, ℕ, List, inl, inr, ◌⊎◌, subst}
use Rattle.amf_io.specs.Field.{Field}
use Rattle.amf_wire.specs.Style.{canonical}
use Rattle.amf_graph.specs.declared.lack.LackKind.{LackKind}
use Rattle.amf_graph.specs.declared.lack.LackKind.TheVariants.{EmptyName, NoForm, LongName, Shared, FarReference, LongFile}
use Rattle.amf_graph.specs.Graph.{Graph}
use Rattle.amf_graph.specs.Order.{IsDistinct}
use Rattle.amf_graph.specs.Reached.{IsWhole}
use Rattle.amf_graph.specs.Small.{IsSmall}
use Rattle.amf_graph.proofs.Lists.{no_entry}
use Rattle.amf0_spelling.specs.Lowered.{IsLowered}
use Rattle.amf0_spelling.specs.Lacks0.{Lacks0, IsLack0}
use Rattle.amf0_spelling.specs.Spells0.{IsSpelling0}
use Rattle.amf0_spelling.specs.LacksMet.{LacksMet, IsLackMet}
use Rattle.amf0_spelling.specs.Meets.{IsMet}
use Rattle.amf0_spelling.proofs.Meeting.{walk_meets, meets_walk, meets_fixed}
use Rattle.amf0_spelling.proofs.Lack0.{one, not_both, alone}
use Rattle.amf_graph.specs.Arena.{graph_of}
use Rattle.amf_graph.proofs.Reaching.{order_once}
use Rattle.amf0_spelling.specs.LawsLack0.{SpellingOrLack0, MetAgainIsTwice}
use Rattle.amf0_spelling.specs.LawsLowering.{IsReadyLowering}
use Rattle.amf0_spelling.proofs.BuiltLowering.{built_lowering}
use Rattle.amf0_spelling.proofs.LacksAlike0.{lacks_alike0}
use Rattle.amf0_spelling.proofs.LowLaws.{one_lowering}
use Rattle.amf0_spelling.proofs.LoweredLow.{lowering_is_lowered}
use Rattle.amf0_spelling.proofs.Ready0.{ready}
use Rattle.amf0_spelling.proofs.Twice0.{again_is_twice}

module _ (g : Graph) (outside : ℕ) (order more : List ℕ) (d : IsDistinct order) (w : IsMet g order more) where
  to_twice : (n : ℕ) (k : LackKind) → LacksMet g outside order more n k → Lacks0 g outside order n k
  to_twice n EmptyName x = x
  to_twice n NoForm x = x
  to_twice n LongName x = x
  to_twice n Shared (i, e, z) = (i, e, (z.0, (again_is_twice g order more d w n i e).0 z.1))
  to_twice n FarReference (i, e, z) = (i, e, (z.0, z.1, (again_is_twice g order more d w n i e).0 z.2))
  to_twice n LongFile x = x

  from_twice : (n : ℕ) (k : LackKind) → Lacks0 g outside order n k → LacksMet g outside order more n k
  from_twice n EmptyName x = x
  from_twice n NoForm x = x
  from_twice n LongName x = x
  from_twice n Shared (i, e, z) = (i, e, (z.0, (again_is_twice g order more d w n i e).1 z.1))
  from_twice n FarReference (i, e, z) = (i, e, (z.0, z.1, (again_is_twice g order more d w n i e).1 z.2))
  from_twice n LongFile x = x

lack_to : (g : Graph) (n : ℕ) (k : LackKind) → IsLackMet g n k → IsLack0 g n k
lack_to g n k (order, more, w, x) =
    let o = meets_walk w in
    let d = order_once g order o in
    (order, o, record { lacks = to_twice g 0 order more d w n k x.lacks; least = λ m l y. x.least m l (from_twice g 0 order more d w m l y); first = λ l y. x.first l (from_twice g 0 order more d w n l y) })

lack_from : (g : Graph) (n : ℕ) (k : LackKind) → IsLack0 g n k → IsLackMet g n k
lack_from g n k (order, o, x) =
    let w = walk_meets o in
    let d = order_once g order o in
    (order, w.0, w.1, record { lacks = from_twice g 0 order w.0 d w.1 n k x.lacks; least = λ m l y. x.least m l (to_twice g 0 order w.0 d w.1 m l y); first = λ l y. x.first l (to_twice g 0 order w.0 d w.1 n l y) })

-- a whole lowered graph within bounds has a canonical spelling or a first lack
one0 : (g : Graph) → IsWhole g → IsSmall g → IsLowered g → ((fs : List Field) × IsSpelling0 canonical g fs) ⊎ ((n : ℕ) × (k : LackKind) × IsLack0 g n k)
one0 g w s l = elim (one g (ready g w s l)) [ inl x ↦ inl x | inr x ↦ inr (x.0, x.1, lack_to g x.0 x.1 x.2) ]

-- and not both
not_both0 : (g : Graph) (n : ℕ) (k : LackKind) (fs : List Field) → IsSpelling0 canonical g fs → IsLack0 g n k → ⊥
not_both0 g n k fs x y = not_both g n k fs x (lack_from g n k y)

-- and one first lack alone
alone0 : (g : Graph) (m n : ℕ) (k l : LackKind) → IsLack0 g m k → IsLack0 g n l → (m ≡ n) × (k ≡ l)
alone0 g m n k l x y = alone g m n k l (lack_from g m k x) (lack_from g n l y)

pub spelling_or_lack0 : SpellingOrLack0
spelling_or_lack0 = record {
  either = λ g s w l. one0 g w s l;
  built = λ a root f b n h l.
      let o = built_lowering a root f b n in
      let r : IsReadyLowering (graph_of a root) h = subst (IsReadyLowering (graph_of a root)) (one_lowering (graph_of a root) o.0 h o.1.is l) o.1 in
      one0 h r.whole r.small (lowering_is_lowered (graph_of a root) h l);
  not_both = λ g fs n k x y. not_both0 g n k fs x y;
  one_lack = λ g m n k l x y. alone0 g m n k l x y;
  alike = lacks_alike0;
}

pub met_again_is_twice : MetAgainIsTwice
met_again_is_twice = record {
  some_met = λ g order o. walk_meets o;
  one_met = λ g order other more again x y. meets_fixed (λ j k i e f. absurd (no_entry j i e)) x y;
  order = λ g order more w. meets_walk w;
  twice = λ g order more w. again_is_twice g order more (order_once g order (meets_walk w)) w;
  lacks = λ g outside order more w n k. let d = order_once g order (meets_walk w) in (to_twice g outside order more d w n k, from_twice g outside order more d w n k);
  first = λ g n k. (lack_to g n k, lack_from g n k);
}
