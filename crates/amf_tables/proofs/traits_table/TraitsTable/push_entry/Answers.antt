use Rattle.std.proofs.Common.{sym, subst}
use Rattle.std.specs.List.{AllByRecursion}
use Rattle.std.proofs.lemmas.Bool.{true≢false}
use Rattle.amf_graph.proofs.Alls.{all_push}
use Rattle.amf_tables.specs.ContentHash.{written_hash}
use Rattle.amf_tables.specs.WrittenParts.{IsNoCopy}
use Rattle.amf_tables.proofs.traits_table.TraitsTable.push_entry.Goals as goal

pub invariant_of-self : goal.invariant_of-self
invariant_of-self c = (
  c.enter.ensures.few c.self.invariant.0,
  c.enter.ensures.placed (written_hash c.self.inside.start) (sym c.hash-hash.ensures) c.self.invariant.1,
  λ f. subst (AllByRecursion IsNoCopy) (sym c.in_err-enter.ensures.err) (c.self.invariant.2 f),
)

pub invariant_of-self-then-is_copy : goal.invariant_of-self-then-is_copy
invariant_of-self-then-is_copy c = (
  c.enter.ensures.few c.self.invariant.0,
  c.enter.ensures.placed (written_hash c.self.inside.start) (sym c.hash-hash.ensures) c.self.invariant.1,
  λ f. absurd (true≢false f),
)

pub invariant_of-self-else-is_copy : goal.invariant_of-self-else-is_copy
invariant_of-self-else-is_copy c = (
  c.enter.ensures.few c.self.invariant.0,
  c.enter.ensures.placed (written_hash c.self.inside.start) (sym c.hash-hash.ensures) c.self.invariant.1,
  λ f. subst (AllByRecursion IsNoCopy) (sym c.in_ok-enter.ensures.ok) (all_push IsNoCopy c.self.inside.entries.items c.args.entry (c.self.invariant.2 f) (c.is_copy-is_copy.ensures c.if-is_copy.false)),
)
