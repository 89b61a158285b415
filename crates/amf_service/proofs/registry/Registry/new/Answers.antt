-- One entry more, or a name that stands already.
use Rattle.std.proofs.Common.{◌≡◌, [], ◌∷◌, ◌++◌, true, false, None, sym, ap, ◌∙◌, subst, rules, append_assoc}
use Rattle.std.specs.Prelude.{bytes_eq, is_some}
use Rattle.std.specs.Map.{lookup}
use Rattle.indexmap.proofs.CallerLemmas.{insert_entry-new}
use Rattle.amf_service.specs.Registry.{IsFirstRepeated}
use Rattle.amf_service.proofs.NamesOnce.{firsts, step_entries, step_distinct, step_repeated, not_found}
use Rattle.amf_service.proofs.registry.Registry.new.Goals as goal

pub loop-name-preserved : goal.loop-name-preserved
loop-name-preserved g c =
    let es = c.loop-name.services.entries in
    let inv = c.loop-name.invariant in
    let key = c.in_ok-to_vec.field-0 in
    let copied : key.items ≡ c.in-Some.name = search rules in
    let absent : is_some (lookup (λ k. bytes_eq c.as_bytes.result.now k.items) es) ≡ false = sym c.contains_key.ensures ∙ c.if-contains_key.false in
    let none : lookup (λ k. bytes_eq key.items k.items) es ≡ None = subst (λ z. lookup (λ k. bytes_eq z k.items) es ≡ None) (c.as_bytes.ensures ∙ sym copied) (not_found (λ k. bytes_eq c.as_bytes.result.now k.items) es absent) in
    record {
      next = inv.next;
      finite = inv.finite;
      parts = append_assoc c.loop-name.yielded ((c.in-Some.name, c.in-Some.service) ∷ []) _ ∙ (rw c.in-Some.ensures.steps.0 at inv.parts);
      entries = step_entries (λ k. k.items) es c.insert.new.self.entries c.loop-name.yielded key c.in-Some.service c.in-Some.name
          (c.in_ok-insert.ensures.entries ∙ insert_entry-new _ c.loop-name.services key c.in-Some.service none) copied inv.entries;
      distinct = step_distinct (λ k. k.items) (λ k. bytes_eq c.as_bytes.result.now k.items) c.in-Some.name (λ k. ap (λ z. bytes_eq z k.items) c.as_bytes.ensures) es c.loop-name.yielded c.in-Some.service inv.entries absent inv.distinct;
    }

pub returns-then-contains_key-clause-repeated : goal.returns-then-contains_key-clause-repeated
returns-then-contains_key-clause-repeated g c = λ x r.
    let es = c.loop-name.services.entries in
    let inv = c.loop-name.invariant in
    let same : c.in-Some.name ≡ x = cc in
    let there : is_some (lookup (λ k. bytes_eq c.as_bytes.result.now k.items) es) ≡ true = sym c.contains_key.ensures ∙ c.if-contains_key.true in
    subst (IsFirstRepeated (firsts c.args.entries.items)) same
    (step_repeated (λ k. k.items) (λ k. bytes_eq c.as_bytes.result.now k.items) c.in-Some.name (λ k. ap (λ z. bytes_eq z k.items) c.as_bytes.ensures) es c.loop-name.yielded c.in-Some.service inv.entries
    c.args.entries.items c.next.new.self.rest.items there inv.distinct (rw c.in-Some.ensures.steps.0 at inv.parts))
