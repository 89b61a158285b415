-- Nodes that are kept in pools, behind the others.
use Rattle.std.proofs.Common.{◌≡◌, ◌+◌, [], ◌∷◌, ◌++◌, List, length, if◌then◌else◌, Result, Ok, Err, is_ok, refl, sym, ap, ◌∙◌, subst, arith}
use Rattle.std.specs.Result.{IfOk}
use Rattle.std.proofs.lemmas.List.{length_push}
use Rattle.amf_graph.specs.declared.value.Value.{Value as Stored}
use Rattle.amf_graph.specs.declared.value.TextId.{TextId}
use Rattle.amf_graph.specs.declared.row.Span.{Span}
use Rattle.amf_graph.specs.declared.row.Both.{Both}
use Rattle.amf_graph.specs.declared.row.Row.{Row}
use Rattle.amf_graph.specs.declared.row.Row.TheVariants as row
use Rattle.amf_graph.specs.Arena.{StoredHead}
use Rattle.amf_graph.specs.Building.{closed}
use Rattle.amf_graph.specs.Held.{form_head}
use Rattle.amf_graph.specs.Pools.{Pool, span_of, SpanIn, BothIn, RowIn, valued_node, named_node, both_node, pool_node, Keeps}
use Rattle.amf_graph.specs.Views.{named}
use Rattle.amf_graph.proofs.PoolNodes.{span_last, span_in_last, both_last}

no_items : {X : Type 0} (xs : List X) → length xs ≡ 0 → xs ≡ []
no_items [] none = refl
no_items (x ∷ xs) none = absurd (omega arith)

-- values alone
pub valued_kept : (old new : Pool) (h : StoredHead) (xs vs : List Stored) (ps : List (TextId × Stored)) (s : Span) (r : Row) → length ps ≡ 0 → new.values ≡ xs ++ vs → s.start ≡ length xs → s.end ≡ length xs + length vs → ((p : Pool) → SpanIn p.values s → RowIn p r) → ((p : Pool) → pool_node p r ≡ valued_node p h s) → Keeps old new (closed h (named ps) vs) r
valued_kept old new h xs vs ps s r none e a b inside shows = record {
  inside = inside new (span_in_last xs vs new.values s e a b);
  shows = shows new ∙ ap (closed h []) (span_last xs vs new.values s e a b) ∙ ap (λ w. closed h (named w) vs) (sym (no_items ps none));
}

-- pairs alone
pub named_kept : (old new : Pool) (h : StoredHead) (xs ps : List (TextId × Stored)) (vs : List Stored) (s : Span) (r : Row) → length vs ≡ 0 → new.names ≡ xs ++ ps → s.start ≡ length xs → s.end ≡ length xs + length ps → ((p : Pool) → SpanIn p.names s → RowIn p r) → ((p : Pool) → pool_node p r ≡ named_node p h s) → Keeps old new (closed h (named ps) vs) r
named_kept old new h xs ps vs s r none e a b inside shows = record {
  inside = inside new (span_in_last xs ps new.names s e a b);
  shows = shows new ∙ ap (λ w. closed h (named w) []) (span_last xs ps new.names s e a b) ∙ ap (closed h (named ps)) (sym (no_items vs none));
}

-- both
pub both_kept : (old new : Pool) (xs vs : List Stored) (ys ps : List (TextId × Stored)) (bs : List Both) (b : Both) → new.values ≡ xs ++ vs → new.names ≡ ys ++ ps → new.both ≡ bs ++ b ∷ [] → b.values.start ≡ length xs → b.values.end ≡ length xs + length vs → b.names.start ≡ length ys → b.names.end ≡ length ys + length ps → Keeps old new (closed (form_head b.form) (named ps) vs) (row.Both (length bs))
both_kept old new xs vs ys ps bs b ev en eb sv tv sn tn =
    let last = both_last bs new.both b eb in
    record {
      inside = (
        omega (arith, ap length eb, length_push bs b),
        subst (BothIn new) (sym last) (record { values = span_in_last xs vs new.values b.values ev sv tv; names = span_in_last ys ps new.names b.names en sn tn }),
      );
      shows =
          ap (both_node new) last
          ∙ ap (λ w. closed (form_head b.form) (named w) (span_of new.values b.values)) (span_last ys ps new.names b.names en sn tn)
          ∙ ap (closed (form_head b.form) (named ps)) (span_last xs vs new.values b.values ev sv tv);
    }

pub both_pushed : {E : Type 0} (result : Result Row E) (old new : Pool) (xs vs : List Stored) (ys ps : List (TextId × Stored)) (bs : List Both) (b : Both) → IfOk result (λ r. r ≡ row.Both (length bs)) → new.both ≡ (if is_ok result then bs ++ b ∷ [] else bs) → new.values ≡ xs ++ vs → new.names ≡ ys ++ ps → b.values.start ≡ length xs → b.values.end ≡ length xs + length vs → b.names.start ≡ length ys → b.names.end ≡ length ys + length ps → IfOk result (λ r. Keeps old new (closed (form_head b.form) (named ps) vs) r)
both_pushed (Ok r) old new xs vs ys ps bs b is eb ev en sv tv sn tn = subst (Keeps old new (closed (form_head b.form) (named ps) vs)) (sym is) (both_kept old new xs vs ys ps bs b ev en eb sv tv sn tn)
both_pushed (Err e) old new xs vs ys ps bs b is eb ev en sv tv sn tn = tt
