-- The names of an object, the sealed ones first.
use Rattle.std.proofs.Common.{◌≡◌, ◌<◌, ◌++◌, length, map, subst, ◌∙◌, ap, rules}
use Rattle.amf_graph.specs.Arena.{Names}
use Rattle.amf_graph.specs.Building.{stored_at}
use Rattle.amf_service.proofs.ShownItems.{object_names_shown, object_names_there, object_names_few}
use Rattle.amf_service.proofs.names.member_names.Goals as goal

pub returns-clause-names : goal.returns-clause-names
returns-clause-names c =
    let a = c.args.graph.now.arena in
    let sealed : c.in_ok-names.names.items ≡ c.traits.result.sealed.now = search rules in
    object_names_shown a c.in-Node.node.0 c.in-Object.traits.0 (stored_at a c.in-Node.node.0) c.in-Object.members.now c.in-Object.sealed.now c.traits.result.class c.traits.result.dynamic c.traits.result.sealed.now c.push_names.new.names.items
    c.in-Object.ensures c.traits.ensures (c.in_ok-push_names.ensures ∙ ap (λ w. w ++ map (λ p. p.0) c.in-Object.members.now) sealed) c.args.graph.now.root c.args.value c.in-Node.is

pub returns-clause-there : goal.returns-clause-there
returns-clause-there c =
    let a = c.args.graph.now.arena in
    let sealed : c.in_ok-names.names.items ≡ c.traits.result.sealed.now = search rules in
    let l : c.in-Node.node.0 < length a.nodes = subst (Names a) c.in-Node.is c.requires in
    object_names_there a c.in-Node.node.0 c.in-Object.traits.0 (stored_at a c.in-Node.node.0) c.in-Object.members.now c.in-Object.sealed.now c.traits.result.class c.traits.result.dynamic c.traits.result.sealed.now c.push_names.new.names.items
    c.in-Object.ensures c.traits.ensures (c.in_ok-push_names.ensures ∙ ap (λ w. w ++ map (λ p. p.0) c.in-Object.members.now) sealed) c.is_finished.ensures.finished l

pub returns-clause-few : goal.returns-clause-few
returns-clause-few c =
    let a = c.args.graph.now.arena in
    let sealed : c.in_ok-names.names.items ≡ c.traits.result.sealed.now = search rules in
    let l : c.in-Node.node.0 < length a.nodes = subst (Names a) c.in-Node.is c.requires in
    object_names_few a c.in-Node.node.0 c.in-Object.traits.0 (stored_at a c.in-Node.node.0) c.in-Object.members.now c.in-Object.sealed.now c.traits.result.class c.traits.result.dynamic c.traits.result.sealed.now c.push_names.new.names.items
    c.in-Object.ensures c.traits.ensures (c.in_ok-push_names.ensures ∙ ap (λ w. w ++ map (λ p. p.0) c.in-Object.members.now) sealed) c.is_finished.ensures.finished l
