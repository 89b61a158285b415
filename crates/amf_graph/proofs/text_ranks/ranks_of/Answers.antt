-- A text is entered at its rank, and none before it has a rank behind.
use Rattle.std.proofs.Common.{rules, ◌≡◌, ◌<◌, ◌+◌, false, [], length, get_or, set, Some, sym, ap, ◌∙◌, subst, arith}
use Rattle.std.proofs.lemmas.List.{length-set}
use Rattle.std.specs.Ordering.{is_lt}
use Rattle.amf_graph.specs.declared.value.TextId.{TextId}
use Rattle.amf_graph.specs.Arena.{IsTextId, text_at}
use Rattle.amf_graph.proofs.Alls.{all_at}
use Rattle.amf_graph.proofs.Ranks.{bytes_cmp, RankedTo, none_ranked, none_before, rank_stays, rank_more, rank_entered, get_or_same}
use Rattle.amf_graph.proofs.text_ranks.ranks_of.Goals as goal
use Rattle.amf_graph.proofs.text_ranks.ranks_of.Goals.{then-is_lt, else-is_lt}

pub loop-text-init : goal.loop-text-init
loop-text-init c = record {
  count = search rules;
  few = omega arith;
  ranked = subst (λ w. RankedTo c.args.store.now.texts w [] 0) (sym (c.in_ok-ranks.ensures.items_if_clones_equal (search rules))) (none_ranked c.args.store.now.texts c.text_count.result);
  risen = λ d l. none_before _;
}

pub loop-text-preserved : goal.loop-text-preserved
loop-text-preserved c =
    let a = c.args.store.now in
    let xs = c.args.sorted.now in
    let i = c.loop-text.text-index in
    let d : TextId = record { 0 = 0 } in
    let within : i < length xs = omega arith in
    let k = (get_or xs i d).0 in
    let last = c.loop-text.last.now in
    let next = c.text-bytes.result.now in
    let ranks = c.loop-text.ranks.items in
    let h = c.loop-text.invariant in
    let there : k < length a.texts = all_at (λ (x : TextId). IsTextId a x.0) xs i d within c.requires.there in
    let is : next ≡ text_at a k = c.text-bytes.ensures in
    let up : is_lt (bytes_cmp next last) ≡ false = subst (λ w. is_lt (bytes_cmp w last) ≡ false) (sym is) (h.risen d within) in
    let got : c.is_lt.result ≡ is_lt (bytes_cmp last next) = c.is_lt.ensures ∙ ap is_lt c.cmp.ensures in
    let ranked : RankedTo a.texts ranks next c.if-is_lt.rank =
    elim c.if-is_lt.branch [
      | then-is_lt w ↦ subst (RankedTo a.texts ranks next) (sym w.rank-is) (rank_more a.texts ranks last next c.loop-text.rank (sym got ∙ w.if-is_lt.true) h.ranked)
      | else-is_lt w ↦ subst (RankedTo a.texts ranks next) (sym w.rank-is) (rank_stays a.texts ranks last next c.loop-text.rank (sym got ∙ w.if-is_lt.false) up h.ranked)
    ]
    in
    let room : k < length ranks = subst (λ n. k < n) (sym h.count) there in
    let entered : RankedTo a.texts (set ranks k (Some c.if-is_lt.rank)) (text_at a k) c.if-is_lt.rank = rank_entered a.texts ranks k c.if-is_lt.rank room (subst (λ w. RankedTo a.texts ranks w c.if-is_lt.rank) is ranked) in
    record {
      count = length-set ranks k _ ∙ h.count;
      few = elim c.if-is_lt.branch [ then-is_lt w ↦ omega arith | else-is_lt w ↦ omega arith ];
      ranked = subst (λ w. RankedTo a.texts (set ranks k (Some c.if-is_lt.rank)) w c.if-is_lt.rank) (sym is) entered;
      risen = λ e l. subst (λ w. is_lt (bytes_cmp (text_at a (get_or xs (i + 1) e).0) w) ≡ false) (get_or_same a xs i e d within ∙ sym is) (c.requires.sorted i e (omega arith) l);
    }
