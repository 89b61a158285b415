-- The value among the pairs, if there are some.
use Rattle.std.proofs.Common.{◌≡◌, ◌∙◌, List, Option, sym, ap, subst}
use Rattle.std.specs.Option.{option_map}
use Rattle.std.specs.Prelude.{IfSome}
use Rattle.std.specs.List.{AllByRecursion}
use Rattle.amf_graph.specs.declared.value.Value.{Value as Stored}
use Rattle.amf_graph.specs.declared.value.TextId.{TextId}
use Rattle.amf_graph.specs.Views.{named}
use Rattle.flex_msgs.specs.Lookup.{named_in, value_named}
use Rattle.flex_msgs.specs.KeptPairs.{pairs_content, IsPairIn}
use Rattle.flex_msgs.proofs.lookup.member.Goals as goal

pub returns-in-Some-clause-value : goal.returns-in-Some-clause-value
returns-in-Some-clause-value c =
    let a = c.args.graph.now.arena in
    c.value_named.ensures.value ∙ ap (λ (ps : List (TextId × Stored)). value_named c.args.name.now (pairs_content a (named ps))) c.deref.ensures.value
    ∙ ap (named_in c.args.name.now) (ap (option_map _) (sym c.in-Some.is) ∙ c.in_ok-pairs.ensures.pairs)

pub returns-in-None-clause-value : goal.returns-in-None-clause-value
returns-in-None-clause-value c = ap (named_in c.args.name.now) (ap (option_map _) (sym c.in-None.is) ∙ c.in_ok-pairs.ensures.pairs)
