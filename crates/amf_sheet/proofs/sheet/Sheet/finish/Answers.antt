use Rattle.std.proofs.Common.{◌≡◌, false, length, sym, ap, subst, ◌∙◌, arith}
use Rattle.std.specs.List.{AllByRecursion}
use Rattle.amf_graph.specs.Arena.{Arena, Names}
use Rattle.amf_graph.specs.Rooted.{RootedArena}
use Rattle.amf_graph.proofs.Alls.{all_weaker}
use Rattle.amf_sheet.specs.Telling.{IsTold, AreAllTold}
use Rattle.amf_sheet.proofs.Sheets.{arena_lent, rows_lent}
use Rattle.amf_sheet.proofs.sheet.Sheet.finish.Goals as goal

pub build-requires-clause-few : goal.build-requires-clause-few
build-requires-clause-few c = omega (arith, ap length c.deref_mut.ensures.value, c.self.invariant.few)

pub build-requires-clause-rows_in : goal.build-requires-clause-rows_in
build-requires-clause-rows_in c =
    let s = c.self.inside in
    rows_lent s.names.items c.deref.result.now s.values.items c.deref-2.result.now s.rows.items c.deref_mut.result.now c.deref.ensures.value c.deref-2.ensures.value c.deref_mut.ensures.value c.self.invariant.rows_in

pub build-requires-clause-told : goal.build-requires-clause-told
build-requires-clause-told c =
    let s = c.self.inside in
    let is = arena_lent s.builder c.args.self s.names.items c.deref.result.now s.values.items c.deref-2.result.now s.rows.items c.deref_mut.result.now c.self.view_is c.deref.ensures.value c.deref-2.ensures.value c.deref_mut.ensures.value in
    subst AreAllTold (sym is) c.requires.told

pub whole-requires-clause-names : goal.whole-requires-clause-names
whole-requires-clause-names c =
    let s = c.self.inside in
    let is = arena_lent s.builder c.args.self s.names.items c.deref.result.now s.values.items c.deref-2.result.now s.rows.items c.deref_mut.result.now c.self.view_is c.deref.ensures.value c.deref-2.ensures.value c.deref_mut.ensures.value in
    subst (λ (x : Arena). Names x c.args.root) (sym (c.in_ok-build.ensures ∙ is)) c.requires.root

pub whole-requires-clause-closed : goal.whole-requires-clause-closed
whole-requires-clause-closed c =
    let s = c.self.inside in
    let is = arena_lent s.builder c.args.self s.names.items c.deref.result.now s.values.items c.deref-2.result.now s.rows.items c.deref_mut.result.now c.self.view_is c.deref.ensures.value c.deref-2.ensures.value c.deref_mut.ensures.value in
    subst (λ (x : Arena). AllByRecursion (λ n. n.is_open ≡ false) x.nodes) (sym (c.in_ok-build.ensures ∙ is)) (all_weaker (IsTold c.args.self) (λ n. n.is_open ≡ false) c.args.self.nodes (λ n h. h.complete) c.requires.told)

pub returns : goal.returns
returns c =
    let s = c.self.inside in
    let is = arena_lent s.builder c.args.self s.names.items c.deref.result.now s.values.items c.deref-2.result.now s.rows.items c.deref_mut.result.now c.self.view_is c.deref.ensures.value c.deref-2.ensures.value c.deref_mut.ensures.value in
    let f : Arena → RootedArena = λ a. record { arena = a; root = c.args.root } in
    c.whole.ensures ∙ ap f (c.in_ok-build.ensures ∙ is)
